-- A scenario without links.
use Rattle.std.proofs.Common.{◌≡◌, ℕ, ◌≤◌, [], Bool, true, false, cond, Ok, Err, Result, refl, arith}
use Rattle.std.proofs.lemmas.Bool.Decides.{nat_tests}
use Rattle.std.proofs.lemmas.List.Elements.{All-nil}
use Rattle.ltm_units.specs.Bounds.{most_rows, most_routed_rows, most_links, most_destinations, most_kept_rows, most_kept_links, most_kept_destinations}
use Rattle.ltm_units.proofs.Results.{both_ok}
use Rattle.ltm_network.specs.IsNetwork.{NetworksStay}
use Rattle.ltm_limits.proofs.Stays.{limits_whole}
use Rattle.std.specs.List.Sorted.{IsStrictlySortedBy}
use Rattle.ltm_demand.specs.Rows.{IsDemandRow}
use Rattle.ltm_demand.specs.Kept.{AreDemandRows}
use Rattle.ltm_splits.specs.Weights.{AreWeights}
use Rattle.ltm_scenario.specs.declared.setup.Setup.{Setup}
use Rattle.ltm_scenario.specs.declared.setup.SetupFault.{SetupFault}
use Rattle.ltm_scenario.specs.Setup.{IsSetup, setup_checked, kept_or, limited, is_between}
use Rattle.ltm_scenario.specs.Data.{empty_scenario}
use Rattle.ltm_scenario.specs.IsScenario.{IsScenario, IsDemandOf, IsSplitOf}

chosen : (b : Bool) (r : Result (Unit {0}) SetupFault) (fault : SetupFault) → cond b r (Err fault) ≡ Ok tt → b ≡ true
chosen true r fault is = refl
chosen false r fault is = cc

-- a number that is not refused is within its limits
between : (most n : ℕ) (fault : SetupFault) → limited most n fault ≡ Ok tt → (1 ≤ n) × (n ≤ most)
between most n fault is =
    let yes : is_between 1 most n ≡ true = chosen (is_between 1 most n) (Ok tt) fault is in
    (let a : 1 ≤ n = grind (arith, nat_tests) in a, let b : n ≤ most = grind (arith, nat_tests) in b)

-- nor is one that is within the limits of a case with history, or of one without it
within : (history : Bool) (kept most n : ℕ) (fault : SetupFault) → kept ≤ most → limited (kept_or history kept most) n fault ≡ Ok tt → (1 ≤ n) × (n ≤ most)
within true kept most n fault few is = let b = between kept n fault is in (b.0, omega (arith, b.1, few))
within false kept most n fault few is = between most n fault is

pub is_setup : (setup : Setup) → setup_checked setup ≡ Ok tt → IsSetup setup
is_setup setup is =
    let a = both_ok _ _ tt is in
    let b = both_ok _ _ tt a.1 in
    let c = both_ok _ _ tt b.1 in
    let d = both_ok _ _ tt c.1 in
    let e = both_ok _ _ tt d.1 in
    let f = both_ok _ _ tt e.1 in
    let g = both_ok _ _ tt f.1 in
    let step = between _ _ _ a.0 in
    let slots = between _ _ _ b.0 in
    let capacity = between _ _ _ c.0 in
    let cells = between _ _ _ d.0 in
    let demand_rows = within setup.history most_kept_rows most_rows setup.most_demand_rows _ (omega arith) e.0 in
    let split_rows = within setup.history most_kept_rows most_routed_rows setup.most_split_rows _ (omega arith) f.0 in
    let links = within setup.history most_kept_links most_links setup.most_links _ (omega arith) g.0 in
    let destinations = within setup.history most_kept_destinations most_destinations setup.most_destinations _ (omega arith) g.1 in
    record {
      step_least = step.0;
      step_most = step.1;
      slots_least = slots.0;
      slots_most = slots.1;
      capacity_least = capacity.0;
      capacity_most = capacity.1;
      cells_least = cells.0;
      cells_most = cells.1;
      demand_rows_least = demand_rows.0;
      demand_rows_most = demand_rows.1;
      split_rows_least = split_rows.0;
      split_rows_most = split_rows.1;
      links_least = links.0;
      links_most = links.1;
      destinations_least = destinations.0;
      destinations_most = destinations.1;
    }

no_rows : (slots most : ℕ) → most ≤ most_rows → AreDemandRows slots most []
unfolding IsStrictlySortedBy
no_rows slots most small = record { ordered = tt; each = All-nil (IsDemandRow slots); few = omega arith; bounded = small }

pub empty_is_scenario : (setup : Setup) → setup_checked setup ≡ Ok tt → NetworksStay → IsScenario (empty_scenario setup)
empty_is_scenario setup is networks =
    let sizes = is_setup setup is in
    record {
      setup = sizes;
      network = networks.empty setup.most_links sizes.links_most;
      most_links = refl;
      diagram_for_each = refl;
      limits = All-nil _;
      entry = limits_whole.none setup.slots;
      exit = limits_whole.none setup.slots;
      few_destinations = omega arith;
      destinations_are_nodes = All-nil _;
      destinations_apart = λ destination below. absurd (omega arith);
      demand = All-nil (IsDemandOf (empty_scenario setup));
      demand_rows = no_rows setup.slots setup.most_demand_rows sizes.demand_rows_most;
      splits = All-nil (IsSplitOf (empty_scenario setup));
      weights = All-nil (λ row. AreWeights row.1);
    }
