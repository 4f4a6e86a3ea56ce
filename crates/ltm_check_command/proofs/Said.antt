-- What was found of the files of a folder is what is answered to them.
use Rattle.std.proofs.Common.{ℕ, ◌≡◌, ◌⊎◌, inl, inr, refl, sym, subst, Bool, true, false, List, length, Option, Some, None, Ok, Err}
use Rattle.std.specs.Prelude.{nat_lt, IfSome, IfOk, IfErr, Result}
use Rattle.ltm_io.specs.declared.doc.Doc.{Doc}
use Rattle.ltm_io.specs.declared.doc.Doc.TheVariants as doc
use Rattle.ltm_io.specs.Folder.{Files}
use Rattle.ltm_scenario.specs.Network.{node_name}
use Rattle.ltm_scenario.specs.Data.{ScenarioData}
use Rattle.ltm_check.specs.Fields.{Fields}
use Rattle.ltm_check.specs.Left.{records_of}
use Rattle.ltm_casefile.specs.declared.faults.CaseFault.{CaseFault}
use Rattle.ltm_casefile.specs.declared.faults.CaseFault.TheVariants as fault
use Rattle.ltm_casefile.specs.KeptCase.{kept_case_of}
use Rattle.ltm_casefile.specs.Faults.{Agrees}
use Rattle.ltm_curve.specs.Counts.{Counts}
use Rattle.ltm_curve.specs.declared.curves.Curves.{Curves}
use Rattle.ltm_setting.specs.Setting.{setting_of}
use Rattle.ltm_units.specs.declared.places.Pair.{Pair}
use Rattle.ltm_check.specs.File.{told}
use Rattle.ltm_check.specs.Kept.{Keeps}
use Rattle.ltm_check.specs.ReadBack.{TellsLoading}
use Rattle.ltm_check.specs.declared.faults.Checked.{Checked}
use Rattle.ltm_check.specs.declared.faults.Checked.TheVariants.{No, Yes}
use Rattle.ltm_check.specs.Verdict.{IsVerdict}
use Rattle.ltm_check_command.specs.declared.refusal.Refusal.{Refusal}
use Rattle.ltm_check_command.specs.declared.refusal.Refusal.TheVariants as refusal
use Rattle.ltm_check_command.specs.Checks.{Answer, Refuses, RecordsAnswer, SizedAnswer, AnswersCheck, AnswersRefusal, HasMissed, most_bytes}
use Rattle.ltm_check_command.specs.Curves.{AreBytes, KeepsFile, KeepsRecords, RefusesFile}
use Rattle.ltm_check_command.proofs.Exact.{sized_case, not_long}

-- ---- a fault of the case
case_answer : (told : Option Files) (f : CaseFault) → IfSome told (λ files. kept_case_of files ≡ Err f) → AnswersCheck told (Err (refusal.Case f))
case_answer None f says = (Err f, None, tt, refl)
case_answer (Some files) f says = (Err f, files doc.Curves, (says, refl), refl)

pub case_refused : (told : Option Files) (f : CaseFault) → IfSome told (λ files. Agrees (kept_case_of files) f) → AnswersRefusal told (refusal.Case f)
case_refused told (fault.Folder x) says = tt
case_refused told (fault.TooLong x) says = case_answer told (fault.TooLong x) says
case_refused told (fault.Bad x row cause) says = case_answer told (fault.Bad x row cause) says
case_refused told fault.NoHistory says = case_answer told fault.NoHistory says
case_refused told fault.NoMemory says = tt

-- ---- the bytes of a curve file
sized_answer : (told now : Option Files) (s : ScenarioData) (bytes : List ℕ) (answer : Answer) → now ≡ told → IfSome told (λ files. kept_case_of files ≡ Ok s) → AreBytes now bytes → SizedAnswer (nat_lt most_bytes (length bytes)) s bytes answer → AnswersCheck told answer
sized_answer None now s bytes answer keeps says has answers = (Ok s, Some bytes, tt, answers)
sized_answer (Some files) now s bytes answer keeps says has answers = (Ok s, Some bytes, (says, subst (λ o. AreBytes o bytes) keeps has), answers)

short_size : (b : Bool) (s : ScenarioData) (bytes : List ℕ) (answer : Answer) → b ≡ false → RecordsAnswer s (records_of bytes) answer → SizedAnswer b s bytes answer
short_size true s bytes answer is says = cc
short_size false s bytes answer is says = says

-- what is answered to its records is answered to the file
pub file_answer : (told now : Option Files) (s : ScenarioData) (c : Curves) (answer : Answer) → now ≡ told → IfSome told (λ files. kept_case_of files ≡ Ok s) → KeepsFile s now c → ((records : List Fields) → KeepsRecords s records c → RecordsAnswer s records answer) → AnswersCheck told answer
file_answer told now s c answer keeps says (bytes, has, few, kept) answers =
    sized_answer told now s bytes answer keeps says has (short_size (nat_lt most_bytes (length bytes)) s bytes answer (not_long (length bytes) few) (answers (records_of bytes) kept))

told_refusal : (told : Option Files) (s : ScenarioData) (records : List Fields) (e : Refusal) → AnswersCheck told (Err e) → Refuses s records e → AnswersRefusal told e
told_refusal told s records (refusal.Case f) tells refuses = absurd refuses
told_refusal told s records refusal.NoCurves tells refuses = absurd refuses
told_refusal told s records refusal.LongCurves tells refuses = absurd refuses
told_refusal told s records (refusal.BadCurves row cause) tells refuses = tells
told_refusal told s records refusal.NoStart tells refuses = tells
told_refusal told s records (refusal.NoStep node slot) tells refuses = tells

pub answer_refused : (told now : Option Files) (s : ScenarioData) (c : Curves) (e : Refusal) → now ≡ told → IfSome told (λ files. kept_case_of files ≡ Ok s) → KeepsFile s now c
    → (e ≡ refusal.Case fault.NoMemory) ⊎ ((records : List Fields) → KeepsRecords s records c → Refuses s records e) → AnswersRefusal told e
answer_refused told now s c e keeps says file (inl memory) = subst (AnswersRefusal told) (sym memory) tt
answer_refused told now s c e keeps says file (inr refuses) =
    told_refusal told s (records_of file.0) e (file_answer told now s c (Err e) keeps says file refuses) (refuses (records_of file.0) file.3)

sized_refusal : (told : Option Files) (b : Bool) (s : ScenarioData) (bytes : List ℕ) (e : Refusal) → AnswersCheck told (Err e) → SizedAnswer b s bytes (Err e) → AnswersRefusal told e
sized_refusal told b s bytes (refusal.Case f) tells sized = absurd (sized_case b s bytes f sized)
sized_refusal told b s bytes refusal.NoCurves tells sized = tt
sized_refusal told b s bytes refusal.LongCurves tells sized = tells
sized_refusal told b s bytes (refusal.BadCurves row cause) tells sized = tells
sized_refusal told b s bytes refusal.NoStart tells sized = tells
sized_refusal told b s bytes (refusal.NoStep node slot) tells sized = tells

pub file_refused : (told now : Option Files) (s : ScenarioData) (e : Refusal) → now ≡ told → IfSome told (λ files. kept_case_of files ≡ Ok s) → RefusesFile s now e → AnswersRefusal told e
file_refused told now s e keeps says (inl none) = subst (AnswersRefusal told) (sym none) tt
file_refused told now s e keeps says (inr (inl memory)) = subst (AnswersRefusal told) (sym memory) tt
file_refused told now s e keeps says (inr (inr (bytes, has, sized))) =
    sized_refusal told (nat_lt most_bytes (length bytes)) s bytes e (sized_answer told now s bytes (Err e) keeps says has sized) sized

-- ---- what curves keep
pub yes_loaded : (s : ScenarioData) (records : List Fields) (c : Curves) (said : Checked) → said ≡ Yes → ((counts : Counts) → Keeps (setting_of s) counts c → IsVerdict (setting_of s) counts said) → KeepsRecords s records c → TellsLoading s records
yes_loaded s records c said is verdict kept = record { file = kept.file; loading = subst (IsVerdict (setting_of s) (told s records)) is (verdict (told s records) kept.keeps) }

pub step_refused : (s : ScenarioData) (records : List Fields) (c : Curves) (said : Checked) (pair : Pair) (e : Refusal) → said ≡ No pair → ((counts : Counts) → Keeps (setting_of s) counts c → IsVerdict (setting_of s) counts said)
    → e ≡ refusal.NoStep (node_name s.network pair.node.0) pair.slot → KeepsRecords s records c → Refuses s records e
step_refused s records c said pair e is verdict named kept =
    subst (Refuses s records) (sym named) (kept.file, (pair.node.0, refl, subst (IsVerdict (setting_of s) (told s records)) is (verdict (told s records) kept.keeps)))

-- no file is missing where records are refused
none_missed : (told : Option Files) (before now : Doc → ℕ) (s : ScenarioData) (records : List Fields) (e : Refusal) → Refuses s records e → HasMissed told before now e
none_missed told before now s records (refusal.Case f) refuses = absurd refuses
none_missed told before now s records refusal.NoCurves refuses = absurd refuses
none_missed told before now s records refusal.LongCurves refuses = tt
none_missed told before now s records (refusal.BadCurves row cause) refuses = tt
none_missed told before now s records refusal.NoStart refuses = tt
none_missed told before now s records (refusal.NoStep node slot) refuses = tt

pub answer_missed : (told files : Option Files) (before now : Doc → ℕ) (s : ScenarioData) (c : Curves) (e : Refusal) → KeepsFile s files c
    → (e ≡ refusal.Case fault.NoMemory) ⊎ ((records : List Fields) → KeepsRecords s records c → Refuses s records e) → HasMissed told before now e
answer_missed told files before now s c e file (inl memory) = subst (HasMissed told before now) (sym memory) tt
answer_missed told files before now s c e file (inr refuses) = none_missed told before now s (records_of file.0) e (refuses (records_of file.0) file.3)

-- ---- what holds of a result
pub on_ok : {A E : Type 0} (r : Result A E) (P Q : A → Type 0) → ((a : A) → P a → Q a) → IfOk r P → IfOk r Q
on_ok (Ok a) P Q more holds = more a holds
on_ok (Err e) P Q more holds = tt

pub on_err : {A E : Type 0} (r : Result A E) (P Q : E → Type 0) → ((e : E) → P e → Q e) → IfErr r P → IfErr r Q
on_err (Ok a) P Q more holds = tt
on_err (Err e) P Q more holds = more e holds
