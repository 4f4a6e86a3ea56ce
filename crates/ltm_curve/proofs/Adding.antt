-- Amounts are added to a row of counts.
use Rattle.std.proofs.Common.{◌≡◌, ℕ, ◌+◌, ◌-◌, ◌<◌, List, length, sum, take, drop, slice_index, arith, ap, sym, ◌∙◌}
use Rattle.ltm_units.specs.Sums.{sum_below}
use Rattle.ltm_units.proofs.Sums.{sum_below-same, sum_below-plus}
use Rattle.ltm_curve.specs.declared.curves.Curves.{Curves}
use Rattle.ltm_curve.specs.Table.{place, counts_of, total_of, SetsRow, AddsRow}
use Rattle.ltm_curve.proofs.Lists.{sum_below-list, part_at}

-- a part of the table is a row of counts
pub count_in : (c : Curves) (g k from d : ℕ) (items : List ℕ) → items ≡ c.counts.items → from ≡ place c g 0 k → d < c.destinations → slice_index (take (from + c.destinations - from) (drop from items)) d ≡ counts_of c g d k
unfolding counts_of
count_in c g k from d items e at l =
    let here : from + d ≡ place c g d k = omega arith in
    part_at items from c.destinations d l ∙ (ap (λ (z : List ℕ). slice_index z (from + d)) e ∙ ap (slice_index c.counts.items) here)

-- the sum grows by that of the amounts
pub sum_added : (c : Curves) (g k : ℕ) (row amounts : List ℕ) → length amounts ≡ c.destinations → length row ≡ c.destinations → ((d : ℕ) → d < c.destinations → slice_index row d ≡ counts_of c g d k + slice_index amounts d) →
    total_of c g k + sum amounts ≡ sum row
sum_added c g k row amounts many long each =
    sym (sym (sum_below-list row)
    ∙ (ap (λ (n : ℕ). sum_below n (slice_index row)) long
    ∙ (sum_below-same c.destinations (slice_index row) (λ d. counts_of c g d k + slice_index amounts d) each
    ∙ (sum_below-plus c.destinations (λ d. counts_of c g d k) (slice_index amounts)
    ∙ ap (λ (z : ℕ). total_of c g k + z) (ap (λ (n : ℕ). sum_below n (slice_index amounts)) (sym many) ∙ sum_below-list amounts)))))

-- a row that is set to the counts and the amounts
pub adds_row_holds : (old new : Curves) (g k : ℕ) (row amounts : List ℕ) → ((d : ℕ) → d < old.destinations → slice_index row d ≡ counts_of old g d k + slice_index amounts d) → SetsRow old new g k row → AddsRow old new g k amounts
adds_row_holds old new g k row amounts each sets = record { shape = sets.shape; here = λ d l. sets.here d l ∙ each d l; others = sets.others }
