-- How many nodes have a mark.
use Rattle.std.proofs.Common.{◌≡◌, ℕ, ◌+◌, ◌<◌, ◌≤◌, Bool, true, false, ap, sym, arith, inl, inr}
use Rattle.std.proofs.lemmas.Bool.{cases_Bool}
use Rattle.ltm_units.specs.Sums.{sum_below}
use Rattle.ltm_units.proofs.Sums.{sum_below-change, sum_below-zero, sum_below-most, le-sum_below}
use Rattle.ltm_marks.specs.declared.marks.Marks.{Marks}
use Rattle.ltm_marks.specs.Marks.{width_of, rows_of, is_marked, SetsMark}
use Rattle.ltm_frontier.specs.Ones.{one_if}

at_most_one : (b : Bool) → one_if b ≤ 1
at_most_one true = omega arith
at_most_one false = omega arith

-- how many nodes are marked
abbrev pub marked : Marks → ℕ
marked m = sum_below (width_of m) (λ u. one_if (is_marked m u 0))

pub few_marked : (m : Marks) → marked m ≤ width_of m
few_marked m = omega (arith, sum_below-most (width_of m) (λ u. one_if (is_marked m u 0)) 1 (λ k x. at_most_one (is_marked m k 0)))

pub some_marked : (m : Marks) (u : ℕ) → u < width_of m → is_marked m u 0 ≡ true → 1 ≤ marked m
some_marked m u x is = omega (arith, le-sum_below (width_of m) (λ w. one_if (is_marked m w 0)) u x, ap one_if is)

pub none_marked_count : (m : Marks) → ((u : ℕ) → is_marked m u 0 ≡ false) → 0 ≡ marked m
none_marked_count m none = sym (sum_below-zero (width_of m) (λ u. one_if (is_marked m u 0)) (λ k x. ap one_if (none k)))

-- where none is counted none is marked
pub none_counted : (m : Marks) → marked m ≡ 0 → (u : ℕ) → u < width_of m → is_marked m u 0 ≡ false
none_counted m none u x = elim (cases_Bool (is_marked m u 0)) [
  | inl is ↦ let some : 1 ≤ marked m = some_marked m u x is in absurd (omega (arith, some, none))
  | inr off ↦ off
]

-- one mark more, or one less
pub set_counts : (old new : Marks) (u : ℕ) (was is : Bool) → rows_of old ≡ 1 → u < width_of old → is_marked old u 0 ≡ was → SetsMark old new u 0 is → marked new + one_if was ≡ marked old + one_if is
set_counts old new u was is one x before sets =
    let F : ℕ → ℕ = λ w. one_if (is_marked old w 0) in
    let G : ℕ → ℕ = λ w. one_if (is_marked new w 0) in
    let change : sum_below (width_of old) F + G u ≡ sum_below (width_of old) G + F u =
    sum_below-change (width_of old) F G u x (λ k y other. sym (ap one_if (sets.others k 0 y (omega (arith, one)) (λ e z. other (sym e))))) in
    let width : sum_below (width_of new) G ≡ sum_below (width_of old) G = ap (λ n. sum_below n G) sets.size.width in
    omega (arith, change, width, ap one_if before, ap one_if sets.here)
