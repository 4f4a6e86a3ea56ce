-- Routes are never in want of a file.
use Rattle.std.proofs.Common.{◌≡◌, ℕ, cond, length, nat_lt, false, true, List, Result, Ok, Err, refl, sym, ap, ◌∙◌}
use Rattle.ltm_units.specs.Results.{refuse}
use Rattle.ltm_scenario.specs.Data.{ScenarioData}
use Rattle.ltm_scenario.specs.Check.{checked}
use Rattle.ltm_scenario.specs.Build.{◌>>=◌}
use Rattle.ltm_casefile.specs.declared.faults.File.{File}
use Rattle.ltm_casefile.specs.declared.faults.CaseFault.{CaseFault}
use Rattle.ltm_casefile.specs.declared.faults.CaseFault.TheVariants as fault
use Rattle.ltm_casefile.specs.declared.faults.CaseCause.TheVariants.{TooManyRows}
use Rattle.ltm_casefile.specs.declared.faults.File.TheVariants as file
use Rattle.ltm_casefile.specs.Causes.{taken}
use Rattle.ltm_casefile.specs.Rows.{at_row}
use Rattle.ltm_casefile.specs.Case.{sound, whole}
use Rattle.ltm_routes.specs.Split.{RoutesData, route_splits, with_splits}
use Rattle.ltm_routes_command.specs.declared.lines.RouteLines.{RouteLines}
use Rattle.ltm_routes_command.specs.Lines.{routes_text}
use Rattle.ltm_routes_command.specs.Routing.{routed, is_readable, readable, RoutesAnswer}

-- what routes make of roads that are there is no missing file
whole_there : (s : ScenarioData) (f : File) → whole s ≡ Err (fault.Folder f) → ⊥
whole_there s f is = elim (checked s) as (λ r. sound s r ≡ Err (fault.Folder f) → ⊥) [ Ok x ↦ λ e. cc | Err e ↦ λ e. cc ] is

roads_there : (s : ScenarioData) (all : List RoutesData) (f : File) → routed s all ≡ Err (fault.Folder f) → ⊥
unfolding routed
roads_there s all f is =
    elim (nat_lt s.setup.most_split_rows (length (route_splits s all))) as (λ b. (at_row file.Whole 0 (refuse b TooManyRows) >>= λ _. at_row file.Whole 0 (taken (with_splits s (route_splits s all)) TooManyRows) >>= λ split. whole split) ≡ Err (fault.Folder f) → ⊥) [
      | true ↦ λ e. cc
      | false ↦ elim (with_splits s (route_splits s all)) as (λ r. (at_row file.Whole 0 (taken r TooManyRows) >>= λ split. whole split) ≡ Err (fault.Folder f) → ⊥) [
        | Ok split ↦ λ e. whole_there split f e
        | Err e ↦ λ h. cc
      ]
    ] is

readable_there : (lines : RouteLines) (text : List ℕ) (f : File) → readable lines text ≡ Err (fault.Folder f) → ⊥
readable_there lines text f is = elim (is_readable lines text) as (λ b. cond b (Ok text) (Err (fault.TooLong file.Splits)) ≡ Err (fault.Folder f) → ⊥) [ true ↦ λ e. cc | false ↦ λ e. cc ] is

pub missing_said : (lines : RouteLines) (said : Result ScenarioData CaseFault) (f : File) → RoutesAnswer lines said (Err (fault.Folder f)) → said ≡ Err (fault.Folder f)
missing_said lines (Err e) f is = let same : e ≡ fault.Folder f = cc in ap Err same
missing_said lines (Ok s) f (all, are, is) =
    absurd ((elim (routed s all) as (λ r. routed s all ≡ r → Err (fault.Folder f) ≡ (r >>= λ _. readable lines (routes_text lines s all)) → ⊥) [
      | Ok split ↦ λ made e. readable_there lines (routes_text lines s all) f (sym e)
      | Err e ↦ λ made h. let same : e ≡ fault.Folder f = cc in roads_there s all f (made ∙ ap Err same)
    ]) refl is)
