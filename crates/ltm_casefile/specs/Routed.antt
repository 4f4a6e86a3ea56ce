-- The routes of nodes without a split row.
use Rattle.std.specs.Prelude.{Bool, if◌then◌else◌, Result, Ok}
use Rattle.ltm_scenario.specs.Data.{ScenarioData}
use Rattle.ltm_routes.specs.Missing.{with_routes}
use Rattle.ltm_casefile.specs.declared.faults.CaseCause.TheVariants.{TooManyRows}
use Rattle.ltm_casefile.specs.declared.faults.CaseFault.{CaseFault}
use Rattle.ltm_casefile.specs.declared.faults.File.TheVariants as file
use Rattle.ltm_casefile.specs.Causes.{taken}
use Rattle.ltm_casefile.specs.Rows.{at_row}

-- the scenario, where it is asked for with the routes of nodes that have no split row for a destination
abbrev pub routed_if : Bool → ScenarioData → Result ScenarioData CaseFault
routed_if asked s = if asked then at_row file.Whole 0 (taken (with_routes s) TooManyRows) else Ok s
