-- The records of a file up to a place.
use Rattle.std.proofs.Common.{◌≡◌, ℕ, suc, ◌+◌, ◌-◌, ◌<◌, ◌≤◌, ◌≢◌, List, [], ◌∷◌, ◌++◌, length, take, drop, slice_index, Some, None, inl, inr, refl, sym, ap, subst, ◌∙◌, arith, append_assoc, length-take, take-append-drop, length-append, Err, ◌⊎◌}
use Rattle.std.specs.Prelude.{slice_get}
use Rattle.std.proofs.lemmas.Grind.{common_steps}
use Rattle.std.proofs.lemmas.List.{append-nil, drop_more, get_or-take}
use Rattle.ltm_curve.specs.declared.curves.Curves.{Curves}
use Rattle.ltm_scenario.specs.Data.{ScenarioData}
use Rattle.ltm_records.specs.Fields.{Fields}
use Rattle.ltm_records.specs.Left.{records_of}
use Rattle.ltm_setting.specs.Setting.{setting_of}
use Rattle.ltm_loading.specs.Shaped.{IsShaped}
use Rattle.ltm_check.specs.declared.faults.CurvesCause.{CurvesCause}
use Rattle.ltm_check.specs.declared.faults.CurvesCause.TheVariants.{Rows}
use Rattle.ltm_check.specs.declared.faults.CurvesFault.{CurvesFault}
use Rattle.ltm_check.specs.declared.faults.CurvesFault.TheVariants.{Bad}
use Rattle.ltm_check.specs.declared.faults.FileFault.{FileFault}
use Rattle.ltm_check.specs.declared.faults.FileFault.TheVariants as file
use Rattle.ltm_check.specs.Due.{record_count}
use Rattle.ltm_check.specs.File.{rows_of, fault_at, AreRightBelow, IsCurveFile, told}
use Rattle.ltm_check.specs.Faults.{IsFault}
use Rattle.ltm_check.specs.Kept.{Keeps}
use Rattle.ltm_check.specs.Pieces.{IsReadTo, HasRead, CutAtLineEnd, AnswersFile, EndsWith}
use Rattle.ltm_check.proofs.Placing.{KeepsBelow, none_drop, fault_missing, no_fault, right_next, keeps_all}

-- the first record, and those below it
pub row_below : (records : List Fields) (place : ℕ) → slice_get (rows_of records) place ≡ slice_get records (place + 1)
row_below [] place = grind (arith, common_steps)
row_below (header ∷ rows) place = let e : place + 1 ≡ suc place = omega arith in rw e refl

-- one record more is right
pub reach_next : (s : ScenarioData) (records : List Fields) (old new : Curves) (place : ℕ) → IsReadTo s records old (place + 1) → fault_at s (rows_of records) place ≡ None → (KeepsBelow s (rows_of records) old place → KeepsBelow s (rows_of records) new (place + 1)) → IsReadTo s records new (place + 2)
reach_next s records old new place done right keeps =
    let before : place + 1 - 1 ≡ place = omega arith in
    let after : place + 1 ≡ place + 2 - 1 = omega arith in record {
      headed = λ l. done.headed (omega arith);
      right = subst (AreRightBelow s (rows_of records)) after (right_next s (rows_of records) place (subst (AreRightBelow s (rows_of records)) before done.right) right);
      keeps = subst (KeepsBelow s (rows_of records) new) after (keeps (subst (KeepsBelow s (rows_of records) old) before done.keeps));
    }

-- or is the first that is wrong
pub wrong_next : (s : ScenarioData) (records : List Fields) (c : Curves) (place : ℕ) (cause : CurvesCause) (fault : CurvesFault) → IsReadTo s records c (place + 1) → fault_at s (rows_of records) place ≡ Some cause → fault ≡ Bad (place + 2) cause → IsFault s records fault
wrong_next s records c place cause fault done wrong e =
    let before : place + 1 - 1 ≡ place = omega arith in
    subst (IsFault s records) (sym e) (inr (done.headed (omega arith), (place, refl, wrong, subst (AreRightBelow s (rows_of records)) before done.right)))

-- ---- where no record is left
none_below : (records : List Fields) (place : ℕ) → drop (place + 1) records ≡ [] → slice_get (rows_of records) place ≡ None
none_below records place none = row_below records place ∙ none_drop records (place + 1) none

pub reach_all : (s : ScenarioData) (records : List Fields) (c : Curves) (next : ℕ) → IsShaped (setting_of s) c → next ≡ record_count s + 1 → IsReadTo s records c next → drop next records ≡ [] → IsCurveFile s records × Keeps (setting_of s) (told s records) c
reach_all s records c next shape all done none =
    let count : next - 1 ≡ record_count s = omega (arith, all) in
    let last : slice_get (rows_of records) (record_count s) ≡ None = none_below records (record_count s) (subst (λ (z : ℕ). drop z records ≡ []) all none) in
    let right : AreRightBelow s (rows_of records) (record_count s) = subst (AreRightBelow s (rows_of records)) count done.right in
    let keeps : KeepsBelow s (rows_of records) c (record_count s) = subst (KeepsBelow s (rows_of records) c) count done.keeps in (
      record { headed = done.headed (omega (arith, all)); right = right_next s (rows_of records) (record_count s) right (no_fault s (rows_of records) (record_count s) (omega arith) last) },
      keeps_all s (rows_of records) c shape keeps,
    )

pub reach_short : (s : ScenarioData) (records : List Fields) (c : Curves) (next : ℕ) → 0 < next → next ≤ record_count s → IsReadTo s records c next → drop next records ≡ [] → IsFault s records (Bad (next + 1) Rows)
reach_short s records c next some short done none =
    let at : next ≡ next - 1 + 1 = omega arith in
    let row : next + 1 ≡ next - 1 + 2 = omega arith in
    inr (done.headed some, (next - 1, row, fault_missing s (rows_of records) (next - 1) (omega arith) (none_below records (next - 1) (subst (λ (z : ℕ). drop z records ≡ []) at none)), done.right))

-- ---- a text that is cut
pub cut_records : (text more : List ℕ) (cut : ℕ) → CutAtLineEnd → cut < length text → slice_index text cut ≡ 10 → ((k : ℕ) → k < cut → slice_index text k ≢ 34) → records_of (text ++ more) ≡ records_of (take cut text) ++ records_of (drop cut text ++ more)
cut_records text more cut law inside line unquoted =
    let tail : List ℕ = drop (cut + 1) text in
    let there : drop cut text ≡ 10 ∷ tail = drop_more text cut 0 inside ∙ ap (λ (z : ℕ). z ∷ tail) line in
    let whole : text ++ more ≡ take cut text ++ 10 ∷ (tail ++ more) =
    ap (λ (z : List ℕ). z ++ more) (sym (take-append-drop cut text))
    ∙ (append_assoc (take cut text) (drop cut text) more ∙ ap (λ (z : List ℕ). take cut text ++ (z ++ more)) there) in
    ap records_of whole
    ∙ (law (take cut text) (tail ++ more) (λ k l e. unquoted k (omega (arith, length-take cut text)) (sym (get_or-take cut text k 0 (omega (arith, length-take cut text))) ∙ e))
    ∙ ap (λ (z : List ℕ). records_of (take cut text) ++ records_of (z ++ more)) (sym there))

-- ---- the end of a file
pub end_read : (s : ScenarioData) (bytes : List ℕ) (c : Curves) (next : ℕ) (text : List ℕ) → HasRead s bytes c next text → IsReadTo s (records_of bytes) c next × (drop next (records_of bytes) ≡ records_of text ++ [])
end_read s bytes c next text h =
    let all : bytes ++ [] ≡ bytes = append-nil bytes in (
      subst (λ (z : List ℕ). IsReadTo s (records_of z) c next) all (h.read []),
      subst (λ (z : List ℕ). drop next (records_of z) ≡ records_of text ++ []) all (h.left [] ∙ (ap records_of (append-nil text) ∙ sym (append-nil (records_of text)))),
    )

-- more of a file is known
pub grown : (s : ScenarioData) (bytes : List ℕ) (c : Curves) (next : ℕ) (text more : List ℕ) → HasRead s bytes c next text → HasRead s (bytes ++ more) c next (text ++ more)
grown s bytes c next text more h = record {
  read = λ m. subst (λ (z : List ℕ). IsReadTo s (records_of z) c next) (sym (append_assoc bytes more m)) (h.read (more ++ m));
  left = λ m. ap (λ (z : List ℕ). drop next (records_of z)) (append_assoc bytes more m) ∙ (h.left (more ++ m) ∙ ap records_of (sym (append_assoc text more m)));
}

-- what is answered once the rest is counted
pub answers_rest : (s : ScenarioData) (most taken : ℕ) (bytes rest : List ℕ) (fault : CurvesFault) (result : FileFault) → length bytes ≡ taken → IsFault s (records_of (bytes ++ rest)) fault → EndsWith taken most fault rest result → AnswersFile s most (bytes ++ rest) (Err result)
answers_rest s most taken bytes rest fault (file.Curves told) long wrong ends = (omega (arith, ends.1, long, length-append bytes rest), subst (IsFault s (records_of (bytes ++ rest))) (sym ends.0) wrong)
answers_rest s most taken bytes rest fault file.TooLong long wrong ends = omega (arith, ends, long, length-append bytes rest)
answers_rest s most taken bytes rest fault file.NoMemory long wrong ends = tt
answers_rest s most taken bytes rest fault file.ReadFault long wrong ends = tt

-- a fault that tells nothing of the bytes
pub answers_nothing : (s : ScenarioData) (most : ℕ) (bytes : List ℕ) (fault : FileFault) → (fault ≡ file.ReadFault) ⊎ (fault ≡ file.NoMemory) → AnswersFile s most bytes (Err fault)
answers_nothing s most bytes fault h = elim h [
  | inl e ↦ subst (λ (f : FileFault). AnswersFile s most bytes (Err f)) (sym e) tt
  | inr e ↦ subst (λ (f : FileFault). AnswersFile s most bytes (Err f)) (sym e) tt
]
