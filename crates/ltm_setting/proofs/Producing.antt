-- All origins together have produced no more than all rows of demand say.
use Rattle.std.proofs.Common.{◌≡◌, ◌≢◌, ℕ, ◌+◌, ◌-◌, ◌<◌, ◌≤◌, ◌==◌, Bool, true, false, cond, List, [], ◌∷◌, length, sum_by, refl, sym, ap, ◌∙◌, inl, inr, arith}
use Rattle.std.proofs.lemmas.Bool.Decides.{nat_tests}
use Rattle.std.proofs.lemmas.Bool.{cases_lt}
use Rattle.std.proofs.lemmas.List.Sums.{sum_by-cons}
use Rattle.ltm_units.specs.Bounds.{most_produced}
use Rattle.ltm_units.specs.Sums.{sum_below}
use Rattle.ltm_units.proofs.Sums.{sum_below-le, sum_below-same, sum_below-zero, sum_below-change, sum_below-plus, le-sum_below}
use Rattle.ltm_curve.specs.Counts.{total}
use Rattle.ltm_demand.specs.declared.row.DemandRow.{DemandRow}
use Rattle.ltm_demand.specs.Produced.{produced, origin_part, origin_by_end}
use Rattle.ltm_demand.proofs.Destinations.{destinations_add_up, origin_part_le}
use Rattle.ltm_demand.proofs.State.{total_le}
use Rattle.ltm_scenario.specs.Data.{ScenarioData}
use Rattle.ltm_scenario.specs.IsScenario.{IsScenario}
use Rattle.ltm_setting.specs.Setting.{produced_by, setting_of}
use Rattle.ltm_setting.proofs.Totals.{total_first, total_later}

-- a row has no part of another origin than its own
other_origin : (o t : ℕ) (row : DemandRow) → o ≢ row.origin.0 → origin_part o t row ≡ 0
unfolding origin_part
other_origin o t row other = let e : (row.origin.0 == o) ≡ false = grind (arith, nat_tests) in ap (λ b. cond b (produced row.from row.to row.amount.0 t) 0) e

one_row : (n t : ℕ) (row : DemandRow) → sum_below n (λ o. origin_part o t row) ≤ row.amount.0
one_row n t row =
    elim (cases_lt row.origin.0 n) [
      | inl below ↦ omega (
        arith,
        sum_below-change n (λ o. origin_part o t row) (λ _. 0) row.origin.0 below (λ k _ other. other_origin k t row other),
        sum_below-zero n (λ _. 0) (λ _ _. refl),
        origin_part_le row.origin.0 t row,
      )
      | inr past ↦ omega (arith, sum_below-zero n (λ o. origin_part o t row) (λ k l. other_origin k t row (λ e. absurd (omega (arith, e, l, past)))))
    ]

all_rows : (n t : ℕ) (rows : List DemandRow) → sum_below n (λ o. origin_by_end rows o t) ≤ sum_by (λ r. r.amount.0) rows
all_rows n t [] = omega (arith, sum_below-zero n (λ o. origin_by_end [] o t) (λ _ _. refl))
all_rows n t (row ∷ rows) =
    omega (
      arith,
      ap (sum_below n) (λ i o. sum_by-cons (origin_part o t) row rows i)
          ∙ sum_below-plus n (λ o. origin_part o t row) (λ o. origin_by_end rows o t),
      one_row n t row,
      all_rows n t rows,
      sum_by-cons (λ (r : DemandRow). r.amount.0) row rows,
    )

-- by the first boundary nothing, and by each later one what the rows have by the end of the slot before
by_all : (s : ScenarioData) (n k : ℕ) → IsScenario s → sum_below n (λ u. sum_below (length s.destinations) (λ d. produced_by s.demand u d k)) ≤ most_produced
by_all s n k is =
    elim (cases_lt 0 k) [
      | inl some ↦ omega (
        arith,
        sum_below-same n (λ u. sum_below (length s.destinations) (λ d. produced_by s.demand u d k)) (λ u. origin_by_end s.demand u (k - 1)) (λ u _. total_later s u k is destinations_add_up some),
        all_rows n (k - 1) s.demand,
        total_le s.setup.slots s.setup.most_demand_rows s.demand is.demand_rows,
      )
      | inr none ↦ omega (arith, sum_below-zero n (λ u. sum_below (length s.destinations) (λ d. produced_by s.demand u d k)) (λ u _. total_first s u k (omega (arith, none))))
    ]

pub all_little : (s : ScenarioData) → IsScenario s → (n k : ℕ) → sum_below n (λ u. total (setting_of s).destinations ((setting_of s).produced u) k) ≤ most_produced
unfolding setting_of
all_little s is n k = by_all s n k is

pub one_little : (s : ScenarioData) → IsScenario s → (n d k : ℕ) → d < (setting_of s).destinations → sum_below n (λ u. (setting_of s).produced u d k) ≤ most_produced
unfolding setting_of
one_little s is n d k below =
    omega (
      arith,
      sum_below-le n (λ u. produced_by s.demand u d k) (λ u. sum_below (length s.destinations) (λ e. produced_by s.demand u e k))
          (λ u _. le-sum_below (length s.destinations) (λ e. produced_by s.demand u e k) d below),
      by_all s n k is,
    )
