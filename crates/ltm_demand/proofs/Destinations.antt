-- What an origin has produced for each destination adds up to what it has produced.
use Rattle.std.proofs.Common.{◌≡◌, ◌==◌, ◌&&◌, ◌≢◌, ℕ, ◌+◌, ◌<◌, ◌≤◌, true, false, cond, List, [], ◌∷◌, sum_by, All, arith, refl, ap, sym, ◌∙◌}
use Rattle.std.specs.List.{AllByRecursion}
use Rattle.std.proofs.lemmas.Bool.Decides.{nat_tests}
use Rattle.std.proofs.lemmas.List.Elements.{recursion_from_All}
use Rattle.std.proofs.lemmas.List.Sums.{sum_by-cons, sum_by-le-sum_by}
use Rattle.ltm_units.specs.Sums.{sum_below}
use Rattle.ltm_units.proofs.Sums.{sum_below-change, sum_below-plus, sum_below-zero}
use Rattle.ltm_demand.specs.declared.row.DemandRow.{DemandRow}
use Rattle.ltm_demand.specs.Produced.{produced, joins, part, by_end, origin_part, origin_by_end}
use Rattle.ltm_demand.proofs.Parts.{produced_le}

-- a row has no part of another destination than its own
other_part : (o d t : ℕ) (row : DemandRow) → d ≢ row.destination → part o d t row ≡ 0
unfolding part
other_part o d t row other = let e : joins o d row ≡ false = grind (arith, nat_tests) in ap (λ b. cond b (produced row.from row.to row.amount.0 t) 0) e

own_part : (o t : ℕ) (row : DemandRow) → part o row.destination t row ≡ origin_part o t row
unfolding part origin_part
own_part o t row =
    elim (row.origin.0 == o) as (λ b. (row.origin.0 == o) ≡ b → cond (b && (row.destination == row.destination)) (produced row.from row.to row.amount.0 t) 0 ≡ cond b (produced row.from row.to row.amount.0 t) 0) [
      | true ↦ λ _. let e : (row.destination == row.destination) ≡ true = grind (arith, nat_tests) in ap (λ b. cond b (produced row.from row.to row.amount.0 t) 0) e
      | false ↦ λ _. refl
    ] refl

one_part : (n o t : ℕ) (row : DemandRow) → row.destination < n → sum_below n (λ d. part o d t row) ≡ origin_part o t row
one_part n o t row below =
    omega (
      arith,
      sum_below-change n (λ d. part o d t row) (λ _. 0) row.destination below (λ k _ other. other_part o k t row other),
      sum_below-zero n (λ _. 0) (λ _ _. refl),
      own_part o t row,
    )

adds_up : (n o t : ℕ) (rows : List DemandRow) → AllByRecursion (λ r. r.destination < n) rows → sum_below n (λ d. by_end rows o d t) ≡ origin_by_end rows o t
adds_up n o t [] all = sum_below-zero n (λ d. by_end [] o d t) (λ _ _. refl)
adds_up n o t (row ∷ rows) all =
    ap (sum_below n) (λ i d. sum_by-cons (part o d t) row rows i)
    ∙ sum_below-plus n (λ d. part o d t row) (λ d. by_end rows o d t)
    ∙ ap (λ x. x + sum_below n (λ d. by_end rows o d t)) (one_part n o t row all.0)
    ∙ ap (λ y. origin_part o t row + y) (adds_up n o t rows all.1)
    ∙ sym (sum_by-cons (origin_part o t) row rows)

pub destinations_add_up : (n : ℕ) (rows : List DemandRow) (o t : ℕ) → All (λ r. r.destination < n) rows → sum_below n (λ d. by_end rows o d t) ≡ origin_by_end rows o t
destinations_add_up n rows o t all = adds_up n o t rows (recursion_from_All (λ r. r.destination < n) rows all)

pub origin_part_le : (o t : ℕ) (row : DemandRow) → origin_part o t row ≤ row.amount.0
unfolding origin_part
origin_part_le o t row =
    elim (row.origin.0 == o) as (λ b. cond b (produced row.from row.to row.amount.0 t) 0 ≤ row.amount.0) [
      | true ↦ produced_le row.from row.to row.amount.0 t
      | false ↦ omega arith
    ]

pub origin_by_end_le : (rows : List DemandRow) (o t : ℕ) → origin_by_end rows o t ≤ sum_by (λ r. r.amount.0) rows
origin_by_end_le rows o t = sum_by-le-sum_by (origin_part o t) (λ r. r.amount.0) rows (origin_part_le o t)
