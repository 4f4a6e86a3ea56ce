-- The scenario of the setup, the links and the demand, which has no split row.
use Rattle.std.specs.Prelude.{ℕ, Bool, true, false, List, Option, Some, None, Result, Ok}
use Rattle.ltm_io.specs.declared.doc.Doc.{Doc}
use Rattle.ltm_io.specs.declared.doc.Doc.TheVariants as doc
use Rattle.ltm_io.specs.Folder.{Files}
use Rattle.ltm_scenario.specs.Data.{ScenarioData}
use Rattle.ltm_scenario.specs.Build.{◌>>=◌}
use Rattle.ltm_records.specs.Left.{records_of}
use Rattle.ltm_casefile.specs.declared.faults.CaseFault.{CaseFault}
use Rattle.ltm_casefile.specs.declared.faults.File.TheVariants as file
use Rattle.ltm_casefile.specs.declared.tables.Table.TheVariants as table
use Rattle.ltm_casefile.specs.Setup.{setup_of, longest_beside}
use Rattle.ltm_casefile.specs.Folder.{text_of, text_within, text_if}
use Rattle.ltm_casefile.specs.Matrix.{is_matrix, with_matrix}
use Rattle.ltm_casefile.specs.Tables.{with_file}

-- the bytes of the files that say the roads and who travels on them
pub record RoadTexts : Type 0 where
  pub setup : List ℕ
  pub links : List ℕ
  pub demand : List ℕ
  -- where the demand is a matrix
  pub profile : Option (List ℕ)

unfoldable pub road_texts_of : Files → Result RoadTexts CaseFault
road_texts_of files =
    text_of files file.Setup >>= λ setup.
    text_of files file.Links >>= λ links.
    text_within (longest_beside setup) files file.Demand >>= λ demand.
    text_if (is_matrix demand) files file.Profile >>= λ profile.
    Ok (record { setup = setup; links = links; demand = demand; profile = profile })

-- the scenario with the demand: rows, or a matrix beside a profile
abbrev pub with_demand_file : ScenarioData → Option (List ℕ) → List ℕ → Result ScenarioData CaseFault
with_demand_file s None demand = with_file table.Demand s demand
with_demand_file s (Some profile) demand = with_matrix s profile demand

-- a scenario without links, with what links, profile and demand say
unfoldable pub roads_filled : ScenarioData → RoadTexts → Result ScenarioData CaseFault
roads_filled s texts = with_file table.Links s texts.links >>= λ linked. with_demand_file linked texts.profile texts.demand

-- what the setup says of signals and limits is read, and neither file comes with it
unfoldable pub roads_in : RoadTexts → Result ScenarioData CaseFault
roads_in texts = setup_of (records_of texts.setup) >>= λ opened. roads_filled opened.scenario texts

-- the scenario without split rows, or the first fault: of a file that is there and short enough, then of the setup, of the
-- links, of the profile where the demand is a matrix, of the demand
abbrev pub unsplit_case_of : Files → Result ScenarioData CaseFault
unsplit_case_of files = road_texts_of files >>= λ texts. roads_in texts

-- the files that may be read for it
abbrev pub is_of_roads : Doc → Bool
is_of_roads doc.Setup = true
is_of_roads doc.Links = true
is_of_roads doc.Demand = true
is_of_roads doc.Profile = true
is_of_roads other = false

-- the demand of a folder is a matrix
abbrev pub has_matrix : Option (List ℕ) → Bool
has_matrix None = false
has_matrix (Some demand) = is_matrix demand

-- the files that are read of a folder: a profile where its demand is a matrix
abbrev pub roads_ask : Files → Doc → Bool
roads_ask files doc.Profile = has_matrix (files doc.Demand)
roads_ask files other = is_of_roads other
