-- A curve file that is read piece by piece.
use Rattle.std.specs.Prelude.{ℕ, ◌≡◌, ◌≢◌, ◌<◌, ◌≤◌, ◌+◌, ◌-◌, true, List, ◌∷◌, ◌++◌, length, drop, slice_index, Result, Ok, Err}
use Rattle.ltm_curve.specs.Table.{counts_of}
use Rattle.ltm_curve.specs.declared.curves.Curves.{Curves}
use Rattle.ltm_scenario.specs.Data.{ScenarioData}
use Rattle.ltm_records.specs.Fields.{Fields}
use Rattle.ltm_records.specs.Left.{records_of}
use Rattle.ltm_loading.specs.Groups.{groups}
use Rattle.ltm_setting.specs.Setting.{setting_of}
use Rattle.ltm_check.specs.declared.faults.CurvesFault.{CurvesFault}
use Rattle.ltm_check.specs.declared.faults.FileFault.{FileFault}
use Rattle.ltm_check.specs.declared.faults.FileFault.TheVariants as file
use Rattle.ltm_check.specs.Due.{record_place}
use Rattle.ltm_check.specs.File.{is_headed, rows_of, AreRightBelow, IsCurveFile, told, told_by}
use Rattle.ltm_check.specs.Faults.{IsFault}
use Rattle.ltm_check.specs.Kept.{clipped_count, Keeps}

-- no double quote stands in a text
abbrev pub IsUnquoted : List ℕ → Type 0
IsUnquoted text = (k : ℕ) → k < length text → slice_index text k ≢ 34

-- the records of a text are those before a line's end, where no quote stands, and those from it on
abbrev pub CutAtLineEnd : Type 0
CutAtLineEnd = (front rest : List ℕ) → IsUnquoted front → records_of (front ++ 10 ∷ rest) ≡ records_of front ++ records_of (10 ∷ rest)

-- the first records, of which the header is one, are right, and curves keep what they tell
pub record IsReadTo (s : ScenarioData) (records : List Fields) (c : Curves) (next : ℕ) : Type 0 where
  pub headed : 0 < next → is_headed records ≡ true
  pub right : AreRightBelow s (rows_of records) (next - 1)
  pub keeps : (g d k : ℕ) → g < groups (setting_of s) → d < (setting_of s).destinations → k ≤ (setting_of s).slots → record_place s g d < next - 1 →
      counts_of c g d k ≡ clipped_count (told_by s (rows_of records) g d k)

-- whatever follows these bytes, the first records were read, and the others are those of a text and what follows
pub record HasRead (s : ScenarioData) (bytes : List ℕ) (c : Curves) (next : ℕ) (text : List ℕ) : Type 0 where
  pub read : (more : List ℕ) → IsReadTo s (records_of (bytes ++ more)) c next
  pub left : (more : List ℕ) → drop next (records_of (bytes ++ more)) ≡ records_of (text ++ more)

-- what is answered to a file of these bytes, of which there may be too many; a fault of reading tells nothing
abbrev pub AnswersFile : ScenarioData → ℕ → List ℕ → Result Curves FileFault → Type 0
AnswersFile s most bytes (Ok c) = (length bytes ≤ most) × IsCurveFile s (records_of bytes) × Keeps (setting_of s) (told s (records_of bytes)) c
AnswersFile s most bytes (Err (file.Curves fault)) = (length bytes ≤ most) × IsFault s (records_of bytes) fault
AnswersFile s most bytes (Err file.TooLong) = most < length bytes
AnswersFile s most bytes (Err file.NoMemory) = Unit {0}
AnswersFile s most bytes (Err file.ReadFault) = Unit {0}

-- how a file ends whose first fault is known, with so many bytes before the rest
abbrev pub EndsWith : ℕ → ℕ → CurvesFault → List ℕ → FileFault → Type 0
EndsWith taken most fault rest (file.Curves told) = (told ≡ fault) × (taken + length rest ≤ most)
EndsWith taken most fault rest file.TooLong = most < taken + length rest
EndsWith taken most fault rest file.NoMemory = Unit {0}
EndsWith taken most fault rest file.ReadFault = Unit {0}
