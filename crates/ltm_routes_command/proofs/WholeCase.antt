-- The files of the roads with their splits are a case, where neither signals nor limits are asked for.
use Rattle.std.proofs.Common.{ℕ, ◌≡◌, ◌≤◌, Bool, true, false, cond, List, length, Option, Some, None, Result, Ok, Err, IfSome, refl, ap, sym, arith, ◌∙◌}
use Rattle.std.specs.Prelude.{nat_le, if◌then◌else◌}
use Rattle.std.proofs.lemmas.Bool.Decides.{nat_tests}
use Rattle.ltm_units.specs.Bounds.{longest_file}
use Rattle.ltm_io.specs.declared.doc.Doc.TheVariants as doc
use Rattle.ltm_io.specs.Folder.{Files}
use Rattle.ltm_scenario.specs.Data.{ScenarioData}
use Rattle.ltm_scenario.specs.Build.{◌>>=◌}
use Rattle.ltm_records.specs.Left.{records_of}
use Rattle.ltm_casefile.specs.declared.faults.CaseFault.{CaseFault}
use Rattle.ltm_casefile.specs.declared.faults.CaseFault.TheVariants as fault
use Rattle.ltm_casefile.specs.declared.faults.File.TheVariants as file
use Rattle.ltm_casefile.specs.declared.setup.Asked.{Asked}
use Rattle.ltm_casefile.specs.declared.setup.Opened.{Opened}
use Rattle.ltm_casefile.specs.declared.tables.Table.TheVariants as table
use Rattle.ltm_casefile.specs.Setup.{setup_of, asks_for_many, longest_beside}
use Rattle.ltm_casefile.specs.Folder.{sized, longest_large_file}
use Rattle.ltm_casefile.specs.Routed.{routed_if}
use Rattle.ltm_casefile.specs.Tables.{with_file}
use Rattle.ltm_casefile.specs.Case.{CaseTexts, texts_of, filled, whole, CaseParts, opened_of, limit_texts_of, parts_of, built, case_of, asked_by, asks_for}
use Rattle.ltm_casefile.specs.Roads.{RoadTexts, road_texts_of, roads_filled, roads_in, unsplit_case_of}
use Rattle.ltm_report.specs.Routes.{splits_header_line}
use Rattle.ltm_routes.specs.Missing.{with_routes}
use Rattle.ltm_splits.specs.declared.keys.SplitFault.{SplitFault}
use Rattle.ltm_casefile.specs.declared.faults.CaseCause.TheVariants.{TooManyRows}
use Rattle.ltm_casefile.specs.Causes.{taken}
use Rattle.ltm_casefile.specs.Rows.{at_row}
use Rattle.ltm_routes_command.specs.File.{with_splits_file, no_splits, asks_for_routes}
use Rattle.ltm_routes_command.proofs.Cases.{went_well}
use Rattle.ltm_routes_command.proofs.Text.{header_back}

-- what the texts of the roads say
record AreFilled (texts : RoadTexts) (opened : Opened) (roads : ScenarioData) : Type 0 where
  opens : setup_of (records_of texts.setup) ≡ Ok opened
  fills : roads_filled opened.scenario texts ≡ Ok roads

roads_there : (texts : RoadTexts) (roads : ScenarioData) → roads_in texts ≡ Ok roads → (opened : Opened) × AreFilled texts opened roads
unfolding roads_in
roads_there texts roads is =
    let a = went_well (setup_of (records_of texts.setup)) _ roads is in
    (a.0, record { opens = a.1; fills = a.2 })

abbrev case_texts : RoadTexts → List ℕ → CaseTexts
case_texts texts splits = record { roads = texts; splits = splits }

fits : (most : ℕ) (text : List ℕ) → length text ≤ most → sized most file.Splits (Some text) ≡ Ok text
fits most text short = let small : nat_le (length text) most ≡ true = grind (arith, nat_tests) in ap (λ b. cond b (Ok text) (Err (fault.TooLong file.Splits))) small

-- beside no setup is the most fewer bytes
most_beside : (setup : List ℕ) → longest_file ≤ longest_beside setup
unfolding longest_beside
most_beside setup = elim (asks_for_many (setup_of (records_of setup))) as (λ b. longest_file ≤ (if b then longest_large_file else longest_file)) [ true ↦ omega arith | false ↦ omega arith ]

-- the texts of the roads do not depend on the splits
same_roads : (files : Files) (text : List ℕ) → road_texts_of (with_splits_file files text) ≡ road_texts_of files
unfolding road_texts_of
same_roads files text = refl

texts_are : (files : Files) (texts : RoadTexts) (text : List ℕ) → road_texts_of files ≡ Ok texts → length text ≤ longest_file → texts_of (with_splits_file files text) ≡ Ok (case_texts texts text)
unfolding texts_of
texts_are files texts text are short = rw (same_roads files text, are, fits (longest_beside texts.setup) text (omega (arith, short, most_beside texts.setup))) refl

opened_is : (files : Files) (texts : CaseTexts) (opened : Opened) → texts_of files ≡ Ok texts → setup_of (records_of texts.roads.setup) ≡ Ok opened → opened_of files ≡ Ok opened
opened_is files texts opened there is = ap (λ r. r >>= λ t. setup_of (records_of t.roads.setup)) there ∙ is

parts_are : (files : Files) (texts : CaseTexts) (opened : Opened) → texts_of files ≡ Ok texts → setup_of (records_of texts.roads.setup) ≡ Ok opened → opened.asked.signals ≡ false → opened.asked.limits ≡ false
    → parts_of files ≡ Ok (record { scenario = opened.scenario; routes = opened.asked.routes; texts = texts; limits = record { signals = None; limits = None } })
unfolding parts_of limit_texts_of
parts_are files texts opened there is signals limits = rw (there, is, signals, limits) refl

filled_is : (texts : RoadTexts) (text : List ℕ) (opened : Opened) (roads read split : ScenarioData) → AreFilled texts opened roads → with_file table.Splits roads text ≡ Ok read → routed_if opened.asked.routes read ≡ Ok split
    → filled opened.scenario opened.asked.routes (case_texts texts text) (record { signals = None; limits = None }) ≡ Ok split
unfolding filled
filled_is texts text opened roads read split are is routed = rw (are.fills, is, routed) refl

-- what is read of the text is the case once it has the routes that are asked for
pub whole_case : (files : Files) (text : List ℕ) (roads read split : ScenarioData) → unsplit_case_of files ≡ Ok roads → with_file table.Splits roads text ≡ Ok read
    → routed_if (asks_for_routes (with_splits_file files text)) read ≡ Ok split → whole split ≡ Ok split
    → length text ≤ longest_file → asks_for (with_splits_file files text) doc.Signals ≡ false → asks_for (with_splits_file files text) doc.Limits ≡ false → case_of (with_splits_file files text) ≡ Ok split
whole_case files text roads read split said is routed valid short unsignalled unlimited =
    let a = went_well (road_texts_of files) roads_in roads said in
    let texts : RoadTexts = a.0 in
    let b = roads_there texts roads a.2 in
    let opened : Opened = b.0 in
    let there : texts_of (with_splits_file files text) ≡ Ok (case_texts texts text) = texts_are files texts text a.1 short in
    let opens : setup_of (records_of texts.setup) ≡ Ok opened = b.1.opens in
    let asked : asked_by (opened_of (with_splits_file files text)) ≡ opened.asked = ap asked_by (opened_is (with_splits_file files text) (case_texts texts text) opened there opens) in
    let signals : opened.asked.signals ≡ false = sym (ap (λ (a : Asked). a.signals) asked) ∙ unsignalled in
    let limits : opened.asked.limits ≡ false = sym (ap (λ (a : Asked). a.limits) asked) ∙ unlimited in
    let given : routed_if opened.asked.routes read ≡ Ok split = sym (ap (λ (a : Asked). routed_if a.routes read) asked) ∙ routed in
    ap (λ (r : Result CaseParts CaseFault). r >>= λ parts. built parts) (parts_are (with_splits_file files text) (case_texts texts text) opened there opens signals limits)
    ∙ ap (λ (r : Result ScenarioData CaseFault). r >>= λ s. whole s) (filled_is texts text opened roads read split b.1 is given)
    ∙ valid

-- ---- where the folder tells its files
-- what was given its routes, and is given none again
given_routes : (read split : ScenarioData) → with_routes read ≡ Ok split → (asked : Bool) → asked ≡ true → routed_if asked read ≡ Ok split
given_routes read split given asked is = ap (λ b. routed_if b read) is ∙ ap (λ (r : Result ScenarioData SplitFault). at_row file.Whole 0 (taken r TooManyRows)) given

given_again : (split : ScenarioData) → with_routes split ≡ Ok split → (asked : Bool) → routed_if asked split ≡ Ok split
given_again split again true = given_routes split split again true refl
given_again split again false = refl

pub whole_case_told : (told : Option Files) (text : List ℕ) (roads split : ScenarioData) → IfSome told (λ files. unsplit_case_of files ≡ Ok roads) → with_file table.Splits roads text ≡ Ok split → with_routes split ≡ Ok split → whole split ≡ Ok split
    → length text ≤ longest_file → IfSome told (λ files. asks_for (with_splits_file files text) doc.Signals ≡ false → asks_for (with_splits_file files text) doc.Limits ≡ false → case_of (with_splits_file files text) ≡ Ok split)
whole_case_told None text roads split said read again valid short = tt
whole_case_told (Some files) text roads split said read again valid short = λ unsignalled unlimited.
    whole_case files text roads split split said read (given_again split again (asks_for_routes (with_splits_file files text))) valid short unsignalled unlimited

none_short : length no_splits ≤ longest_file
unfolding splits_header_line
none_short = omega arith

pub routed_case_told : (told : Option Files) (roads split : ScenarioData) → IfSome told (λ files. unsplit_case_of files ≡ Ok roads) → with_routes roads ≡ Ok split → whole split ≡ Ok split
    → IfSome told (λ files. asks_for (with_splits_file files no_splits) doc.Signals ≡ false → asks_for (with_splits_file files no_splits) doc.Limits ≡ false → asks_for_routes (with_splits_file files no_splits) ≡ true → case_of (with_splits_file files no_splits) ≡ Ok split)
routed_case_told None roads split said given valid = tt
routed_case_told (Some files) roads split said given valid = λ unsignalled unlimited asked.
    whole_case files no_splits roads roads split said (header_back roads) (given_routes roads split given (asks_for_routes (with_splits_file files no_splits)) asked) valid none_short unsignalled unlimited
