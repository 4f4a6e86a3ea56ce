-- The files of routes.
use Rattle.std.specs.Prelude.{ℕ, ◌≡◌, ◌≤◌, Bool, true, false, List, length, slice_index, All, Option, Some, IfSome, Ok}
use Rattle.ltm_units.specs.Words.{is_name}
use Rattle.ltm_io.specs.declared.doc.Doc.TheVariants as doc
use Rattle.ltm_io.specs.Folder.{Files}
use Rattle.ltm_network.specs.Network.{NetworkData, node_name}
use Rattle.ltm_splits.specs.Rows.{SplitRow}
use Rattle.ltm_scenario.specs.Data.{ScenarioData}
use Rattle.ltm_scenario.specs.IsScenario.{IsScenario}
use Rattle.ltm_scenario.specs.Valid.{IsValid}
use Rattle.ltm_casefile.specs.declared.tables.Table.TheVariants as table
use Rattle.ltm_casefile.specs.Tables.{with_file}
use Rattle.ltm_casefile.specs.Case.{case_of, asks_for, asked_by, opened_of, whole}
use Rattle.ltm_casefile.specs.Roads.{unsplit_case_of}
use Rattle.ltm_routes.specs.Split.{RoutesData, AreAllRoutes, route_splits, with_splits}
use Rattle.ltm_routes.specs.Missing.{with_routes}
use Rattle.ltm_routes_command.specs.declared.lines.RouteLines.TheVariants as lines
use Rattle.ltm_routes_command.specs.Lines.{names_over, header_of, routes_text}
use Rattle.ltm_units.specs.Bounds.{longest_file}

-- the names in a row's record are names
pub record IsNamed (d : NetworkData) (destinations : List ℕ) (row : SplitRow) : Type 0 where
  pub node : is_name (node_name d row.0.node.0) ≡ true
  pub destination : is_name (node_name d (slice_index destinations row.0.destination)) ≡ true
  pub links : All (λ name. is_name name ≡ true) (names_over d row)

-- the files, with this text as their splits
abbrev pub with_splits_file : Files → List ℕ → Files
with_splits_file files text doc.Splits = Some text
with_splits_file files text other = files other

-- a `splits.csv` without records
abbrev pub no_splits : List ℕ
no_splits = header_of lines.Splits

-- whether the setup among the files asks for the routes of nodes without a split row
abbrev pub asks_for_routes : Files → Bool
asks_for_routes files = (asked_by (opened_of files)).routes

-- a text is the `splits.csv` of least routes over these roads: it is read back as the route splits, with which they are a
-- valid case
pub record IsSplitsOf (roads split : ScenarioData) (text : List ℕ) : Type 0 where
  pub routes : List RoutesData
  pub least : AreAllRoutes roads routes
  pub set : with_splits roads (route_splits roads routes) ≡ Ok split
  -- they are what nodes without a split row are given
  pub given : with_routes roads ≡ Ok split
  pub valid : IsValid split
  pub whole : whole split ≡ Ok split
  pub text_is : text ≡ routes_text lines.Splits roads routes
  pub short : length text ≤ longest_file
  pub read_back : with_file table.Splits roads text ≡ Ok split

-- a text is the least times of routes over these roads: no route is shorter than its time, and one takes just that time
pub record IsTimesOf (roads : ScenarioData) (text : List ℕ) : Type 0 where
  pub routes : List RoutesData
  pub least : AreAllRoutes roads routes
  pub text_is : text ≡ routes_text lines.Times roads routes

-- the `splits.csv` of what a folder tells of roads and demand; where the setup asks for neither signals nor limits, the files
-- with this text are that valid case, and so they are without a record of splits, where the setup asks for routes
pub record IsSplitsFile (told : Option Files) (text : List ℕ) : Type 0 where
  pub roads : ScenarioData
  pub split : ScenarioData
  pub said : IfSome told (λ files. unsplit_case_of files ≡ Ok roads)
  pub scenario : IsScenario roads
  pub splits : IsSplitsOf roads split text
  pub whole_case : IfSome told (λ files. asks_for (with_splits_file files text) doc.Signals ≡ false → asks_for (with_splits_file files text) doc.Limits ≡ false
      → case_of (with_splits_file files text) ≡ Ok split)
  pub routed_case : IfSome told (λ files. asks_for (with_splits_file files no_splits) doc.Signals ≡ false → asks_for (with_splits_file files no_splits) doc.Limits ≡ false
      → asks_for_routes (with_splits_file files no_splits) ≡ true → case_of (with_splits_file files no_splits) ≡ Ok split)

-- the least times of what a folder tells of roads and demand
pub record IsTimesFile (told : Option Files) (text : List ℕ) : Type 0 where
  pub roads : ScenarioData
  pub said : IfSome told (λ files. unsplit_case_of files ≡ Ok roads)
  pub scenario : IsScenario roads
  pub times : IsTimesOf roads text
