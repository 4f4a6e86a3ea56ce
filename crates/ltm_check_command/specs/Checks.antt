-- What `check` answers to a case and its curve file.
use Rattle.std.specs.Prelude.{ℕ, ◌≡◌, ◌||◌, Bool, true, false, nat_lt, List, length, Option, Some, None, IfSome, Result, Ok, Err}
use Rattle.ltm_io.specs.declared.doc.Doc.{Doc}
use Rattle.ltm_io.specs.declared.doc.Doc.TheVariants as doc
use Rattle.ltm_io.specs.Folder.{Files}
use Rattle.ltm_io.specs.Faults.{Rose}
use Rattle.ltm_units.specs.declared.places.Pair.{Pair}
use Rattle.ltm_scenario.specs.Network.{node_name}
use Rattle.ltm_scenario.specs.Data.{ScenarioData}
use Rattle.ltm_check.specs.Fields.{Fields}
use Rattle.ltm_check.specs.Left.{records_of}
use Rattle.ltm_casefile.specs.declared.faults.CaseFault.{CaseFault}
use Rattle.ltm_casefile.specs.declared.faults.CaseFault.TheVariants as fault
use Rattle.ltm_casefile.specs.Case.{is_case_file, asks_for}
use Rattle.ltm_casefile.specs.KeptCase.{kept_case_of}
use Rattle.ltm_setting.specs.Setting.{setting_of}
use Rattle.ltm_check.specs.File.{IsCurveFile, IsFirstFault, told}
use Rattle.ltm_check.specs.ReadBack.{TellsLoading}
use Rattle.ltm_check.specs.Verdict.{StartsRight, IsFirstWrong}
use Rattle.ltm_check_command.specs.declared.refusal.Refusal.{Refusal}
use Rattle.ltm_check_command.specs.declared.refusal.Refusal.TheVariants as refusal
use Rattle.ltm_check_command.specs.Lines.{yes_line}

-- a text, or the refusal in place of it
abbrev pub Answer : Type 0
Answer = Result (List ℕ) Refusal

-- the pair of a node and a slot
abbrev pub pair_of : ℕ → ℕ → Pair
pair_of node slot = record { node = record { 0 = node }; slot = slot }

-- why records do not tell the loading of a scenario: they are no curve file, with the first fault; or what they count does
-- not start as a loading does; or the pair of a node of this name and this slot is the first that is not its node step
abbrev pub Refuses : ScenarioData → List Fields → Refusal → Type 0
Refuses s records (refusal.Case fault) = ⊥
Refuses s records refusal.NoCurves = ⊥
Refuses s records refusal.LongCurves = ⊥
Refuses s records (refusal.BadCurves row cause) = IsFirstFault s records row cause
Refuses s records refusal.NoStart = IsCurveFile s records × (StartsRight (setting_of s) (told s records) → ⊥)
Refuses s records (refusal.NoStep name slot) =
    IsCurveFile s records × ((node : ℕ) × (name ≡ node_name s.network node) × IsFirstWrong (setting_of s) (told s records) (pair_of node slot))

-- what is answered to records: yes exactly where they tell the loading
abbrev pub RecordsAnswer : ScenarioData → List Fields → Answer → Type 0
RecordsAnswer s records (Ok text) = (text ≡ yes_line) × TellsLoading s records
RecordsAnswer s records (Err refusal) = Refuses s records refusal

-- the most bytes of a curve file
abbrev pub most_bytes : ℕ
most_bytes = 268435456

-- what is answered to bytes, of which there may be too many
abbrev pub SizedAnswer : Bool → ScenarioData → List ℕ → Answer → Type 0
SizedAnswer true s bytes answer = answer ≡ Err refusal.LongCurves
SizedAnswer false s bytes answer = RecordsAnswer s (records_of bytes) answer

-- what is answered to `curves.csv`, where it is there
abbrev pub FileAnswer : ScenarioData → Option (List ℕ) → Answer → Type 0
FileAnswer s None answer = answer ≡ Err refusal.NoCurves
FileAnswer s (Some bytes) answer = SizedAnswer (nat_lt most_bytes (length bytes)) s bytes answer

-- what is answered to a case and `curves.csv`
abbrev pub CheckAnswer : Result ScenarioData CaseFault → Option (List ℕ) → Answer → Type 0
CheckAnswer (Ok s) file answer = FileAnswer s file answer
CheckAnswer (Err fault) file answer = answer ≡ Err (refusal.Case fault)

-- the files that a folder tells, where it tells any, describe this scenario, and `curves.csv` has these bytes
abbrev pub HasCurves : Option Files → ScenarioData → List ℕ → Type 0
HasCurves told s bytes = IfSome told (λ files. (kept_case_of files ≡ Ok s) × (files doc.Curves ≡ Some bytes))

-- the same, of the files that a folder tells, where it tells any
abbrev pub AnswersCheck : Option Files → Answer → Type 0
AnswersCheck told answer =
    (said : Result ScenarioData CaseFault) × (file : Option (List ℕ)) × IfSome told (λ files. (kept_case_of files ≡ said) × (files doc.Curves ≡ file)) × CheckAnswer said file answer

-- a refusal that lies in the files is the answer; that a folder did not give a file, or memory was not found, does not lie
-- in them
abbrev pub AnswersRefusal : Option Files → Refusal → Type 0
AnswersRefusal told (refusal.Case (fault.Folder f)) = Unit {0}
AnswersRefusal told (refusal.Case (fault.TooLong f)) = AnswersCheck told (Err (refusal.Case (fault.TooLong f)))
AnswersRefusal told (refusal.Case (fault.Bad f row cause)) = AnswersCheck told (Err (refusal.Case (fault.Bad f row cause)))
AnswersRefusal told (refusal.Case fault.NoHistory) = AnswersCheck told (Err (refusal.Case fault.NoHistory))
AnswersRefusal told (refusal.Case fault.NoMemory) = Unit {0}
AnswersRefusal told refusal.NoCurves = Unit {0}
AnswersRefusal told refusal.LongCurves = AnswersCheck told (Err refusal.LongCurves)
AnswersRefusal told (refusal.BadCurves row cause) = AnswersCheck told (Err (refusal.BadCurves row cause))
AnswersRefusal told refusal.NoStart = AnswersCheck told (Err refusal.NoStart)
AnswersRefusal told (refusal.NoStep node slot) = AnswersCheck told (Err (refusal.NoStep node slot))

-- ---- files
abbrev pub is_curves : Doc → Bool
is_curves doc.Curves = true
is_curves d = false

-- the files that a check may fetch, and those that it fetches from a folder with these files
abbrev pub is_check_file : Doc → Bool
is_check_file d = is_case_file d || is_curves d

abbrev pub check_asks_for : Files → Doc → Bool
check_asks_for files d = asks_for files d || is_curves d

-- a file that the folder did not give is one of these, and its count of faults rose
abbrev pub Missed : Option Files → (Doc → ℕ) → (Doc → ℕ) → Type 0
Missed told before now = (d : Doc) × (is_check_file d ≡ true) × IfSome told (λ files. check_asks_for files d ≡ true) × Rose (before d) (now d)

abbrev pub HasMissed : Option Files → (Doc → ℕ) → (Doc → ℕ) → Refusal → Type 0
HasMissed told before now (refusal.Case (fault.Folder f)) = Missed told before now
HasMissed told before now (refusal.Case (fault.TooLong f)) = Unit {0}
HasMissed told before now (refusal.Case (fault.Bad f row cause)) = Unit {0}
HasMissed told before now (refusal.Case fault.NoHistory) = Unit {0}
HasMissed told before now (refusal.Case fault.NoMemory) = Unit {0}
HasMissed told before now refusal.NoCurves = Missed told before now
HasMissed told before now refusal.LongCurves = Unit {0}
HasMissed told before now (refusal.BadCurves row cause) = Unit {0}
HasMissed told before now refusal.NoStart = Unit {0}
HasMissed told before now (refusal.NoStep node slot) = Unit {0}
