-- The files with any number of records: each adds to the scenario.
use Rattle.std.specs.Prelude.{ℕ, Bool, List, Option, Some, None, Result, Ok}
use Rattle.ltm_scenario.specs.declared.side.Side.TheVariants as side
use Rattle.ltm_scenario.specs.Data.{ScenarioData}
use Rattle.ltm_records.specs.Fields.{Fields}
use Rattle.ltm_records.specs.Left.{records_of}
use Rattle.ltm_casefile.specs.declared.faults.CaseCause.{CaseCause}
use Rattle.ltm_casefile.specs.declared.faults.CaseFault.{CaseFault}
use Rattle.ltm_casefile.specs.declared.faults.File.{File}
use Rattle.ltm_casefile.specs.declared.faults.File.TheVariants as file
use Rattle.ltm_casefile.specs.declared.tables.Table.{Table}
use Rattle.ltm_casefile.specs.declared.tables.Table.TheVariants as table
use Rattle.ltm_casefile.specs.Rows.{rows_from, below_header}
use Rattle.ltm_casefile.specs.Links.{is_links_header, link_added}
use Rattle.ltm_casefile.specs.Demand.{is_demand_header, demand_added}
use Rattle.ltm_casefile.specs.Splits.{is_splits_header, split_added}
use Rattle.ltm_casefile.specs.SideLimits.{is_limits_header, limit_added}

abbrev pub file_of : Table → File
file_of table.Links = file.Links
file_of table.Demand = file.Demand
file_of table.Splits = file.Splits
file_of table.Signals = file.Signals
file_of table.Limits = file.Limits

abbrev pub heads : Table → Fields → Bool
heads table.Links fields = is_links_header fields
heads table.Demand fields = is_demand_header fields
heads table.Splits fields = is_splits_header fields
heads table.Signals fields = is_limits_header fields
heads table.Limits fields = is_limits_header fields

-- what one record makes of a scenario
abbrev pub row_added : Table → ScenarioData → Fields → Result ScenarioData CaseCause
row_added table.Links s fields = link_added s fields
row_added table.Demand s fields = demand_added s fields
row_added table.Splits s fields = split_added s fields
row_added table.Signals s fields = limit_added side.Exit s fields
row_added table.Limits s fields = limit_added side.Entry s fields

abbrev pub rows_added : Table → ℕ → ScenarioData → List Fields → Result ScenarioData CaseFault
rows_added t row s rows = rows_from (file_of t) (row_added t) row s rows

-- what a file's records make of a scenario
unfoldable pub table_added : Table → ScenarioData → List Fields → Result ScenarioData CaseFault
table_added t s rows = below_header (file_of t) (heads t) (λ _. rows_added t 2 s) rows

-- the scenario with what a file says
abbrev pub with_file : Table → ScenarioData → List ℕ → Result ScenarioData CaseFault
with_file t s bytes = table_added t s (records_of bytes)

-- the same of a file that may not be there
abbrev pub with_file_if : Table → ScenarioData → Option (List ℕ) → Result ScenarioData CaseFault
with_file_if t s None = Ok s
with_file_if t s (Some bytes) = with_file t s bytes
