-- What the number of route splits decides.
use Rattle.std.proofs.Common.{◌≡◌, ◌<◌, ◌≤◌, length, nat_lt, false, true, List, Ok, Err, refl, arith}
use Rattle.std.proofs.lemmas.Bool.Decides.{nat_tests}
use Rattle.ltm_scenario.specs.Data.{ScenarioData}
use Rattle.ltm_casefile.specs.declared.faults.CaseFault.TheVariants as fault
use Rattle.ltm_casefile.specs.declared.faults.CaseCause.TheVariants.{TooManyRows}
use Rattle.ltm_casefile.specs.declared.faults.File.TheVariants as file
use Rattle.ltm_casefile.specs.Case.{whole}
use Rattle.ltm_routes.specs.Split.{RoutesData, route_splits, with_splits}
use Rattle.ltm_routes_command.specs.Routing.{routed}

pub few : (s split : ScenarioData) (all : List RoutesData) → length (route_splits s all) ≤ s.setup.most_split_rows → with_splits s (route_splits s all) ≡ Ok split
    → routed s all ≡ whole split
unfolding routed
few s split all low set =
    let no : nat_lt s.setup.most_split_rows (length (route_splits s all)) ≡ false = grind (arith, nat_tests) in
    rw (no, set) refl

pub over : (s : ScenarioData) (all : List RoutesData) → s.setup.most_split_rows < length (route_splits s all)
    → routed s all ≡ Err (fault.Bad file.Whole 0 TooManyRows)
unfolding routed
over s all high =
    let yes : nat_lt s.setup.most_split_rows (length (route_splits s all)) ≡ true = grind (arith, nat_tests) in
    rw yes refl
