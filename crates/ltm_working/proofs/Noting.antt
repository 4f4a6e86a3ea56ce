-- Cells are noted in steps.
use Rattle.std.proofs.Common.{◌≡◌, ◌≢◌, ℕ, ◌+◌, ◌<◌, ◌==◌, ◌||◌, not, List, Bool, true, false, length, slice_index, ap, sym, ◌∙◌, arith, inl, inr}
use Rattle.std.proofs.lemmas.Bool.{cases_Bool, cases_eq}
use Rattle.std.proofs.lemmas.List.{ext_get_or}
use Rattle.ltm_curve.specs.Cells.{is_changed, IsCell, HasCells}
use Rattle.ltm_curve.specs.declared.changed.Changed.{Changed}
use Rattle.ltm_pairs.specs.Changes.{some_below}
use Rattle.ltm_working.specs.Waking.{PutsCells}
use Rattle.ltm_working.proofs.Bools.{or_three, one_more, one_below, none_below, differ, do_not_differ}

cell_of : (a b : Changed) (f : ℕ → ℕ → Bool) (g k : ℕ) → PutsCells a b f → IsCell a g k → IsCell b g k
cell_of a b f g k puts cell = record {
  is_group = omega (arith, cell.is_group, puts.shape.same_groups);
  is_boundary = omega (arith, cell.is_boundary, puts.shape.same_slots);
}

pub puts_both : (a b c : Changed) (f h : ℕ → ℕ → Bool) → PutsCells a b f → PutsCells b c h → PutsCells a c (λ g k. f g k || h g k)
puts_both a b c f h first next = record {
  shape = record { same_groups = next.shape.same_groups ∙ first.shape.same_groups; same_slots = next.shape.same_slots ∙ first.shape.same_slots };
  each = λ g k cell.
      next.each g k (cell_of a b f g k first cell)
      ∙ (ap (λ z. z || h g k) (first.each g k cell) ∙ or_three (is_changed a g k) (f g k) (h g k));
}

pub puts_as : (a b : Changed) (f h : ℕ → ℕ → Bool) → PutsCells a b f → ((g k : ℕ) → f g k ≡ h g k) → PutsCells a b h
puts_as a b f h puts same = record {
  shape = puts.shape;
  each = λ g k cell. puts.each g k cell ∙ ap (λ z. is_changed a g k || z) (same g k);
}

pub puts_next : (a b c : Changed) (n : ℕ) (f : ℕ → ℕ → ℕ → Bool) (h : ℕ → ℕ → Bool) → PutsCells a b (λ g k. some_below n (f g k)) → PutsCells b c h →
    ((g k : ℕ) → h g k ≡ f g k n) → PutsCells a c (λ g k. some_below (n + 1) (f g k))
puts_next a b c n f h first next same =
    puts_as a c (λ g k. some_below n (f g k) || h g k) (λ g k. some_below (n + 1) (f g k))
    (puts_both a b c (λ g k. some_below n (f g k)) h first next)
    (λ g k. ap (λ z. some_below n (f g k) || z) (same g k) ∙ sym (one_more n (f g k)))

pub cells_stay : (a b : Changed) (f : ℕ → ℕ → Bool) (groups slots : ℕ) → HasCells a groups slots → PutsCells a b f → HasCells b groups slots
cells_stay a b f groups slots has puts = record { same_groups = puts.shape.same_groups ∙ has.same_groups; same_slots = puts.shape.same_slots ∙ has.same_slots }

-- a row differs from another one where they are not equal
pub row_unlike : (n : ℕ) (xs : List ℕ) (f : ℕ → ℕ) (ys : List ℕ) → length xs ≡ n → length ys ≡ n → ((d : ℕ) → d < n → slice_index xs d ≡ f d) → xs ≢ ys → some_below n (λ d. not (f d == slice_index ys d)) ≡ true
row_unlike n xs f ys long wide is apart = elim (cases_Bool (some_below n (λ d. not (f d == slice_index ys d)))) [
  | inl some ↦ some
  | inr none ↦ absurd (apart (ext_get_or 0 xs ys (long ∙ sym wide) (λ i l. elim (cases_eq (f i) (slice_index ys i)) [
    | inl same ↦ is i (omega (arith, l, long)) ∙ same
    | inr other ↦
        let on : some_below n (λ d. not (f d == slice_index ys d)) ≡ true = one_below n (λ d. not (f d == slice_index ys d)) i (omega (arith, l, long)) (differ (f i) (slice_index ys i) other) in
        absurd (cc)
  ])))
]

pub row_like : (n : ℕ) (xs : List ℕ) (f : ℕ → ℕ) (ys : List ℕ) → ((d : ℕ) → d < n → slice_index xs d ≡ f d) → xs ≡ ys → some_below n (λ d. not (f d == slice_index ys d)) ≡ false
row_like n xs f ys is same = none_below n (λ d. not (f d == slice_index ys d)) (λ d l. do_not_differ (f d) (slice_index ys d) (sym (is d l) ∙ ap (λ (z : List ℕ). slice_index z d) same))
