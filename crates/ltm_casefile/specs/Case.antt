-- The scenario that the files of a folder describe, or the first fault.
use Rattle.std.specs.Prelude.{ℕ, Bool, true, false, ◌||◌, List, Option, Result, Ok, Err}
use Rattle.ltm_io.specs.declared.doc.Doc.{Doc}
use Rattle.ltm_io.specs.declared.doc.Doc.TheVariants as doc
use Rattle.ltm_io.specs.Folder.{Files}
use Rattle.ltm_scenario.specs.declared.faults.ScenarioFault.{ScenarioFault}
use Rattle.ltm_scenario.specs.declared.faults.ScenarioFault.TheVariants as broken
use Rattle.ltm_scenario.specs.Data.{ScenarioData}
use Rattle.ltm_scenario.specs.Check.{Checked, checked}
use Rattle.ltm_scenario.specs.Build.{◌>>=◌}
use Rattle.ltm_records.specs.Left.{records_of}
use Rattle.ltm_casefile.specs.declared.faults.CaseCause.{CaseCause}
use Rattle.ltm_casefile.specs.declared.faults.CaseCause.TheVariants.{NoSplit, CellsOver}
use Rattle.ltm_casefile.specs.declared.faults.CaseFault.{CaseFault}
use Rattle.ltm_casefile.specs.declared.faults.CaseFault.TheVariants.{Bad}
use Rattle.ltm_casefile.specs.declared.faults.File.TheVariants as file
use Rattle.ltm_casefile.specs.declared.setup.Asked.{Asked}
use Rattle.ltm_casefile.specs.declared.setup.Opened.{Opened}
use Rattle.ltm_casefile.specs.declared.tables.Table.TheVariants as table
use Rattle.ltm_casefile.specs.Setup.{setup_of, longest_beside}
use Rattle.ltm_casefile.specs.Folder.{text_within, text_if}
use Rattle.ltm_casefile.specs.Routed.{routed_if}
use Rattle.ltm_casefile.specs.Tables.{with_file, with_file_if}
use Rattle.ltm_casefile.specs.Roads.{RoadTexts, road_texts_of, roads_filled, is_of_roads, roads_ask}

-- the bytes of the files that each case has
pub record CaseTexts : Type 0 where
  pub roads : RoadTexts
  pub splits : List ℕ

unfoldable pub texts_of : Files → Result CaseTexts CaseFault
texts_of files =
    road_texts_of files >>= λ roads.
    text_within (longest_beside roads.setup) files file.Splits >>= λ splits.
    Ok (record { roads = roads; splits = splits })

-- the bytes of the signals and of the entry limits, each where the setup asks for them
pub record LimitTexts : Type 0 where
  pub signals : Option (List ℕ)
  pub limits : Option (List ℕ)

unfoldable pub limit_texts_of : Files → Asked → Result LimitTexts CaseFault
limit_texts_of files asked =
    text_if asked.signals files file.Signals >>= λ signals.
    text_if asked.limits files file.Limits >>= λ limits.
    Ok (record { signals = signals; limits = limits })

-- the scenario with its signals, and then with its entry limits
abbrev pub limited : ScenarioData → LimitTexts → Result ScenarioData CaseFault
limited s texts = with_file_if table.Signals s texts.signals >>= λ signalled. with_file_if table.Limits signalled texts.limits

-- the scenario with what the files say, in their order, and behind the splits with the routes of nodes that have none, where
-- the setup asks for them
unfoldable pub filled : ScenarioData → Bool → CaseTexts → LimitTexts → Result ScenarioData CaseFault
filled s routes texts limits =
    roads_filled s texts.roads >>= λ demanded.
    with_file table.Splits demanded texts.splits >>= λ split.
    routed_if routes split >>= λ routed.
    limited routed limits

abbrev pub cause_of_whole : ScenarioFault → CaseCause
cause_of_whole (broken.NoSplit node destination) = NoSplit node destination
cause_of_whole (broken.CellsOver cells) = CellsOver cells

abbrev pub sound : ScenarioData → Checked → Result ScenarioData CaseFault
sound s (Ok x) = Ok s
sound s (Err fault) = Err (Bad file.Whole 0 (cause_of_whole fault))

-- the scenario, where the rules of a valid case hold
abbrev pub whole : ScenarioData → Result ScenarioData CaseFault
whole s = sound s (checked s)

-- ---- what comes from the folder, and what is made of it
-- a scenario without links, whether nodes take their routes, and the files that fill it
pub record CaseParts : Type 0 where
  pub scenario : ScenarioData
  pub routes : Bool
  pub texts : CaseTexts
  pub limits : LimitTexts

-- what the setup opens, once the files are there that each case has
abbrev pub opened_of : Files → Result Opened CaseFault
opened_of files = texts_of files >>= λ texts. setup_of (records_of texts.roads.setup)

-- the files are there, then the setup says what comes with them
unfoldable pub parts_of : Files → Result CaseParts CaseFault
parts_of files =
    texts_of files >>= λ texts.
    setup_of (records_of texts.roads.setup) >>= λ opened.
    limit_texts_of files opened.asked >>= λ limits.
    Ok (record { scenario = opened.scenario; routes = opened.asked.routes; texts = texts; limits = limits })

-- the files fill the scenario, and then it is whole
abbrev pub built : CaseParts → Result ScenarioData CaseFault
built parts = filled parts.scenario parts.routes parts.texts parts.limits >>= λ s. whole s

abbrev pub case_of : Files → Result ScenarioData CaseFault
case_of files = parts_of files >>= λ parts. built parts

-- ---- which files a case has
-- the files that each case may have: those of the roads, and the splits
abbrev pub is_splits : Doc → Bool
is_splits doc.Splits = true
is_splits other = false

abbrev pub is_of_each : Doc → Bool
is_of_each d = is_of_roads d || is_splits d

-- of these, the ones that are asked for
abbrev pub each_asks : Files → Doc → Bool
each_asks files d = roads_ask files d || is_splits d

-- those of signals and limits that are asked for
abbrev pub is_asked : Asked → Doc → Bool
is_asked asked doc.Signals = asked.signals
is_asked asked doc.Limits = asked.limits
is_asked asked other = false

-- the files that a case may have
abbrev pub is_case_file : Doc → Bool
is_case_file d = is_of_each d || is_asked (record { signals = true; limits = true; routes = true }) d

abbrev pub asked_by : Result Opened CaseFault → Asked
asked_by (Ok opened) = opened.asked
asked_by (Err fault) = record { signals = false; limits = false; routes = false }

-- the files that a case has: signals and limits where its setup asks for them, and a profile where its demand is a matrix
abbrev pub asks_for : Files → Doc → Bool
asks_for files d = each_asks files d || is_asked (asked_by (opened_of files)) d
