-- What is answered to a case and its curve file is one answer where that is yes, or where a file is missing.
use Rattle.std.proofs.Common.{ℕ, ◌≡◌, ◌+◌, ◌≤◌, inl, inr, ap, sym, subst, ◌∙◌, arith, Bool, true, false, List, [], length, slice_index_or, Option, Some, None, Ok, Err}
use Rattle.std.specs.Prelude.{nat_lt, slice_get}
use Rattle.std.proofs.lemmas.Bool.{cases_lt}
use Rattle.std.proofs.lemmas.Bool.Decides.{nat_tests}
use Rattle.std.proofs.lemmas.Option.{slice_get_past, slice_get-get_or}
use Rattle.ltm_io.specs.declared.doc.Doc.TheVariants as doc
use Rattle.ltm_io.specs.Folder.{Files}
use Rattle.ltm_scenario.specs.Data.{ScenarioData}
use Rattle.ltm_check.specs.Fields.{Fields}
use Rattle.ltm_check.specs.Left.{records_of}
use Rattle.ltm_casefile.specs.declared.faults.CaseFault.{CaseFault}
use Rattle.ltm_casefile.specs.KeptCase.{kept_case_of}
use Rattle.ltm_check.specs.declared.faults.CurvesCause.{CurvesCause}
use Rattle.ltm_check.specs.declared.faults.CurvesCause.TheVariants.{Rows}
use Rattle.ltm_check.specs.Due.{record_count}
use Rattle.ltm_check.specs.File.{fault_at, rows_of, AreRightBelow, IsCurveFile, IsFirstFault}
use Rattle.ltm_check.specs.ReadBack.{TellsLoading}
use Rattle.ltm_check_command.specs.declared.refusal.Refusal.{Refusal}
use Rattle.ltm_check_command.specs.declared.refusal.Refusal.TheVariants as refusal
use Rattle.ltm_check_command.specs.Lines.{yes_line}
use Rattle.ltm_check_command.specs.Checks.{Answer, Refuses, RecordsAnswer, SizedAnswer, FileAnswer, CheckAnswer, AnswersCheck, HasCurves, most_bytes}

-- ---- a curve file has no fault
too_much : (s : ScenarioData) (rows : List Fields) (place : ℕ) (fields : Fields) → record_count s ≤ place → slice_get rows place ≡ Some fields → fault_at s rows place ≡ Some Rows
too_much s rows place fields l e = rw e (grind (arith, nat_tests))

none_more : (s : ScenarioData) (rows : List Fields) (place : ℕ) → record_count s ≤ place → slice_get rows place ≡ None → fault_at s rows place ≡ None
none_more s rows place l e = rw e (grind (arith, nat_tests))

-- the rows end where the records do
ends : (s : ScenarioData) (rows : List Fields) → AreRightBelow s rows (record_count s + 1) → length rows ≤ record_count s
ends s rows right = elim (cases_lt (record_count s) (length rows)) [
  | inl more ↦
      let here : fault_at s rows (record_count s) ≡ Some Rows = too_much s rows (record_count s) (slice_index_or rows (record_count s) []) (omega arith) (slice_get-get_or rows (record_count s) [] more) in
      let right_here : fault_at s rows (record_count s) ≡ None = right (record_count s) (omega arith) in
      let wrong : Some Rows ≡ None = sym here ∙ right_here in absurd (cc)
  | inr few ↦ few
]

no_fault : (s : ScenarioData) (rows : List Fields) (place : ℕ) → AreRightBelow s rows (record_count s + 1) → fault_at s rows place ≡ None
no_fault s rows place right = elim (cases_lt place (record_count s + 1)) [
  | inl within ↦ right place within
  | inr past ↦ none_more s rows place (omega (arith, past)) (slice_get_past rows place (omega (arith, past, ends s rows right)))
]

not_both : (s : ScenarioData) (records : List Fields) (row : ℕ) (cause : CurvesCause) → IsCurveFile s records → IsFirstFault s records row cause → ⊥
not_both s records row cause file (inl (headed, first, is)) = let wrong : true ≡ false = sym file.headed ∙ headed in cc
not_both s records row cause file (inr (headed, (place, is, at, below))) = let wrong : None ≡ Some cause = sym (no_fault s (rows_of records) place file.right) ∙ at in cc

-- ---- yes
refuses_not : (s : ScenarioData) (records : List Fields) (e : Refusal) → TellsLoading s records → Refuses s records e → ⊥
refuses_not s records (refusal.Case f) tells refuses = refuses
refuses_not s records refusal.NoCurves tells refuses = refuses
refuses_not s records refusal.LongCurves tells refuses = refuses
refuses_not s records (refusal.BadCurves row cause) tells refuses = not_both s records row cause tells.file refuses
refuses_not s records refusal.NoStart tells (file, wrong) = wrong (record { empty = tells.loading.front.empty; no_origin = tells.loading.no_origin })
refuses_not s records (refusal.NoStep name slot) tells (file, (node, named, first)) = first.node.wrong (tells.loading.front.steps node slot first.node.node_there first.slot)

answers_yes : (s : ScenarioData) (records : List Fields) (answer : Answer) → TellsLoading s records → RecordsAnswer s records answer → answer ≡ Ok yes_line
answers_yes s records (Ok text) tells says = ap (λ (t : List ℕ). Ok t) says.0
answers_yes s records (Err e) tells says = absurd (refuses_not s records e tells says)

sized_yes : (b : Bool) (s : ScenarioData) (bytes : List ℕ) (answer : Answer) → b ≡ false → TellsLoading s (records_of bytes) → SizedAnswer b s bytes answer → answer ≡ Ok yes_line
sized_yes true s bytes answer is tells says = cc
sized_yes false s bytes answer is tells says = answers_yes s (records_of bytes) answer tells says

pub not_long : (n : ℕ) → n ≤ most_bytes → nat_lt most_bytes n ≡ false
not_long n l = grind (arith, nat_tests)

pub only_yes : (files : Files) (s : ScenarioData) (bytes : List ℕ) (answer : Answer) → HasCurves (Some files) s bytes → length bytes ≤ most_bytes → TellsLoading s (records_of bytes) → AnswersCheck (Some files) answer → answer ≡ Ok yes_line
only_yes files s bytes answer (is_case, there) few tells (said, file, (describes, has), says) =
    let first : said ≡ Ok s = sym describes ∙ is_case in
    let second : file ≡ Some bytes = sym has ∙ there in
    sized_yes (nat_lt most_bytes (length bytes)) s bytes answer (not_long (length bytes) few) tells
    (subst (λ (f : Option (List ℕ)). FileAnswer s f answer) second (subst (λ x. CheckAnswer x file answer) first says))

sized_told : (b : Bool) (s : ScenarioData) (bytes text : List ℕ) → SizedAnswer b s bytes (Ok text) → TellsLoading s (records_of bytes) × (text ≡ yes_line)
sized_told true s bytes text says = absurd (cc)
sized_told false s bytes text says = (says.1, says.0)

-- who says yes was told a curve file that tells the loading
pub yes_told : (told : Option Files) (text : List ℕ) → AnswersCheck told (Ok text) → (s : ScenarioData) × (bytes : List ℕ) × HasCurves told s bytes × TellsLoading s (records_of bytes) × (text ≡ yes_line)
yes_told told text (Ok s, Some bytes, has, says) = let h = sized_told (nat_lt most_bytes (length bytes)) s bytes text says in (s, bytes, has, h.0, h.1)
yes_told told text (Ok s, None, has, says) = absurd (cc)
yes_told told text (Err f, file, has, says) = absurd (cc)

-- ---- a file is missing
pub sized_case : (b : Bool) (s : ScenarioData) (bytes : List ℕ) (f : CaseFault) → SizedAnswer b s bytes (Err (refusal.Case f)) → ⊥
sized_case true s bytes f says = cc
sized_case false s bytes f says = says

pub sized_none : (b : Bool) (s : ScenarioData) (bytes : List ℕ) → SizedAnswer b s bytes (Err refusal.NoCurves) → ⊥
sized_none true s bytes says = cc
sized_none false s bytes says = says

case_only : (files : Files) (f : CaseFault) → AnswersCheck (Some files) (Err (refusal.Case f)) → kept_case_of files ≡ Err f
case_only files f (Ok s, Some bytes, has, says) = absurd (sized_case (nat_lt most_bytes (length bytes)) s bytes f says)
case_only files f (Ok s, None, has, says) = absurd (cc)
case_only files f (Err g, file, has, says) = let same : f ≡ g = cc in has.0 ∙ ap (λ x. Err x) (sym same)

pub missing_case : (files : Files) (f : CaseFault) (answer : Answer) → AnswersCheck (Some files) (Err (refusal.Case f)) → AnswersCheck (Some files) answer → answer ≡ Err (refusal.Case f)
missing_case files f answer says (said, file, has, other) =
    let is : said ≡ Err f = sym has.0 ∙ case_only files f says in subst (λ x. CheckAnswer x file answer) is other

curves_only : (files : Files) → AnswersCheck (Some files) (Err refusal.NoCurves) → (s : ScenarioData) × (kept_case_of files ≡ Ok s) × (files doc.Curves ≡ None)
curves_only files (Ok s, Some bytes, has, says) = absurd (sized_none (nat_lt most_bytes (length bytes)) s bytes says)
curves_only files (Ok s, None, has, says) = (s, has.0, has.1)
curves_only files (Err g, file, has, says) = absurd (cc)

pub missing_curves : (files : Files) (answer : Answer) → AnswersCheck (Some files) (Err refusal.NoCurves) → AnswersCheck (Some files) answer → answer ≡ Err refusal.NoCurves
missing_curves files answer says (said, file, has, other) =
    let none = curves_only files says in
    let first : said ≡ Ok none.0 = sym has.0 ∙ none.1 in
    let second : file ≡ None = sym has.1 ∙ none.2 in
    subst (λ (f : Option (List ℕ)). FileAnswer none.0 f answer) second (subst (λ x. CheckAnswer x file answer) first other)
