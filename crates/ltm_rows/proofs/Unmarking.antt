-- Marks of a place are taken away in one row after another.
use Rattle.std.proofs.Common.{◌≡◌, ℕ, ◌+◌, ◌<◌, ◌≤◌, ◌==◌, ◌&&◌, not, nat_le, Bool, true, false, refl, ap, sym, ◌∙◌, arith, inl, inr, ◌⊎◌}
use Rattle.std.proofs.lemmas.Bool.{cases_eq, cases_lt, lt-ltb, le-ltb, le-leb, lt-leb, eq-eqb, ne_eqb}
use Rattle.ltm_marks.specs.declared.marks.Marks.{Marks}
use Rattle.ltm_marks.specs.Marks.{width_of, rows_of, is_marked, SameSize, SetsMark}
use Rattle.ltm_rows.specs.Rows.{in_slots}

and_true : (b : Bool) → b ≡ (b && true)
and_true true = refl
and_true false = refl

and_none : (b : Bool) → (b && false) ≡ false
and_none true = refl
and_none false = refl

both_none : (a b : Bool) → (a && (b && false)) ≡ false
both_none true true = refl
both_none true false = refl
both_none false b = refl

none_yet : (u from w v : ℕ) → in_slots u from from w v ≡ false
none_yet u from w v = elim (cases_lt v from) [
  | inl low ↦ rw (lt-leb from v low) (and_none (u == w))
  | inr high ↦ rw (le-ltb v from high) (both_none (u == w) (nat_le from v))
]

last_in : (u from k : ℕ) → from ≤ k → in_slots u from (k + 1) u k ≡ true
last_in u from k l = rw (eq-eqb u u refl, le-leb from k l, lt-ltb k (k + 1) (omega arith)) refl

-- one slot more has one pair more
same_but : (u from k w v : ℕ) → (u ≡ w → k ≡ v → ⊥) → in_slots u from (k + 1) w v ≡ in_slots u from k w v
same_but u from k w v other = elim (cases_eq u w) [
  | inr apart ↦ rw (ne_eqb u w apart) refl
  | inl same ↦ elim (cases_lt v k) [
    | inl low ↦ rw (lt-ltb v k low, lt-ltb v (k + 1) (omega (arith, low))) refl
    | inr high ↦ elim (cases_eq k v) [
      | inl at ↦ absurd (other same at)
      | inr past ↦ rw (le-ltb v k high, le-ltb v (k + 1) (omega (arith, high, past))) refl
    ]
  ]
]

-- past the end there are none more
pub ended : (u from k to w v : ℕ) → to ≤ k → (k ≡ from) ⊎ (k ≤ to) → in_slots u from k w v ≡ in_slots u from to w v
ended u from k to w v past (inr e) = let at : k ≡ to = omega (arith, past, e) in ap (λ z. in_slots u from z w v) at
ended u from k to w v past (inl e) = ap (λ z. in_slots u from z w v) e ∙ (none_yet u from w v ∙ sym (elim (cases_lt v from) [
  | inl low ↦ rw (lt-leb from v low) (and_none (u == w))
  | inr high ↦ rw (le-ltb v to (omega (arith, high, past, e))) (both_none (u == w) (nat_le from v))
]))

-- the marks of a place in some rows are gone, and no others
pub record Unmarks (old new : Marks) (u from to : ℕ) : Type 0 where
  pub size : SameSize old new
  pub marks : (p r : ℕ) → p < width_of old → r < rows_of old → is_marked new p r ≡ (is_marked old p r && not (in_slots u from to p r))

pub starts : (m : Marks) (u from : ℕ) → Unmarks m m u from from
starts m u from = record {
  size = record { width = refl; rows = refl; room = refl };
  marks = λ p r x l. and_true (is_marked m p r) ∙ ap (λ b. is_marked m p r && not b) (sym (none_yet u from p r));
}

pub goes_on : (old mid new : Marks) (u from k : ℕ) → from ≤ k → Unmarks old mid u from k → SetsMark mid new u k false → Unmarks old new u from (k + 1)
goes_on old mid new u from k l first next =
    let others : (p r : ℕ) → p < width_of old → r < rows_of old → (u ≡ p → k ≡ r → ⊥) → is_marked new p r ≡ (is_marked old p r && not (in_slots u from (k + 1) p r)) = λ p r x y other.
    next.others p r (rw first.size.width x) (rw first.size.rows y) other ∙ (first.marks p r x y ∙ ap (λ b. is_marked old p r && not b) (sym (same_but u from k p r other))) in
    record {
      size = record { width = next.size.width ∙ first.size.width; rows = next.size.rows ∙ first.size.rows; room = next.size.room ∙ first.size.room };
      marks = λ p r x y. elim (cases_eq u p) [
        | inr apart ↦ others p r x y (λ e f. apart e)
        | inl same ↦ elim (cases_eq k r) [
          | inr apart ↦ others p r x y (λ e f. apart f)
          | inl at ↦ rw (← same, ← at, last_in u from k l) (next.here ∙ sym (and_none (is_marked old u k)))
        ]
      ];
    }
