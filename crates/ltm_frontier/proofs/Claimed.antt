-- A pair is claimed.
use Rattle.std.proofs.Common.{◌≡◌, ℕ, ◌<◌, ◌==◌, ◌&&◌, ◌||◌, not, Bool, true, false, refl, ap, sym, subst, ◌∙◌, inl, inr}
use Rattle.std.proofs.lemmas.Bool.{cases_eq, cases_Bool, eq-eqb, ne_eqb}
use Rattle.ltm_marks.specs.declared.marks.Marks.{Marks}
use Rattle.ltm_marks.specs.Marks.{width_of, rows_of, is_marked, SetsMark}
use Rattle.ltm_frontier.specs.declared.claims.Claims.{Claims}
use Rattle.ltm_frontier.specs.Claims.{width, slot_in, has_node, has_claim, PutsClaim}
use Rattle.ltm_frontier.specs.Frontier.{is_pair}

-- a node with a claim has it at the slot of the claims
pub at_slot : (c : Claims) (u : ℕ) → has_node c u ≡ true → has_claim c u (slot_in c) ≡ true
at_slot c u is = rw (eq-eqb c.slot c.slot refl, is) refl

-- what is not marked stays so where a mark is taken away
pub stays_off : (old new : Marks) (u t w v : ℕ) → SetsMark old new u t false → w < width_of old → v < rows_of old → is_marked old w v ≡ false → is_marked new w v ≡ false
stays_off old new u t w v sets x y off = elim (cases_eq u w) [
  | inl e ↦ elim (cases_eq t v) [
    | inl f ↦ subst (λ z. is_marked new z v ≡ false) e (subst (λ z. is_marked new u z ≡ false) f sets.here)
    | inr other ↦ sets.others w v x y (λ g h. other h) ∙ off
  ]
  | inr other ↦ sets.others w v x y (λ g h. other g) ∙ off
]

and_true : (b : Bool) → b ≡ (b && true)
and_true true = refl
and_true false = refl

and_false : (b : Bool) → false ≡ (b && false)
and_false true = refl
and_false false = refl

or_none : (b : Bool) → b ≡ (b || false)
or_none true = refl
or_none false = refl

-- one mark less
pub all_but : (old new : Marks) (u t w v : ℕ) → SetsMark old new u t false → w < width_of old → v < rows_of old → is_marked new w v ≡ (is_marked old w v && not (is_pair u t w v))
all_but old new u t w v sets x y = elim (cases_eq w u) [
  | inl e ↦ elim (cases_eq v t) [
    | inl f ↦ rw (eq-eqb w u e, eq-eqb v t f) (subst (λ z. is_marked new z v ≡ false) (sym e) (subst (λ z. is_marked new u z ≡ false) (sym f) sets.here) ∙ and_false (is_marked old w v))
    | inr other ↦ rw (eq-eqb w u e, ne_eqb v t other) (sets.others w v x y (λ g h. other (sym h)) ∙ and_true (is_marked old w v))
  ]
  | inr other ↦ rw (ne_eqb w u other) (sets.others w v x y (λ g h. other (sym g)) ∙ and_true (is_marked old w v))
]

-- one claim more
pub one_more : (old new : Claims) (u t w v : ℕ) → PutsClaim old new u t → has_node old u ≡ false → w < width old → ((x : ℕ) → x < width old → has_node old x ≡ true → slot_in old ≡ t) → has_claim new w v ≡ (has_claim old w v || is_pair u t w v)
one_more old new u t w v puts free x one = elim (cases_eq w u) [
  | inl e ↦
      let on : has_node new w ≡ true = subst (λ z. has_node new z ≡ true) (sym e) puts.here in
      let off : has_node old w ≡ false = subst (λ z. has_node old z ≡ false) (sym e) free in
      rw (puts.slot, on, off, eq-eqb w u e) (sym (and_true (v == t)) ∙ ap (λ b. b || (v == t)) (and_false (v == slot_in old)))
  | inr other ↦
      let same : has_node new w ≡ has_node old w = puts.others w x other in
      elim (cases_Bool (has_node old w)) [
        | inl on ↦ rw (puts.slot, same, on, ne_eqb w u other, one w x on) (or_none ((v == t) && true))
        | inr off ↦ rw (same, off, ne_eqb w u other) (sym (and_false (v == slot_in new)) ∙ (and_false (v == slot_in old) ∙ or_none ((v == slot_in old) && false)))
      ]
]
