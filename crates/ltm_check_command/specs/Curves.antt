-- What is read of `curves.csv`.
use Rattle.std.specs.Prelude.{ℕ, ◌≡◌, ◌≤◌, ◌⊎◌, nat_lt, List, length, Option, Some, IfSome, Err}
use Rattle.ltm_io.specs.declared.doc.Doc.TheVariants as doc
use Rattle.ltm_io.specs.Folder.{Files}
use Rattle.ltm_curve.specs.declared.curves.Curves.{Curves}
use Rattle.ltm_scenario.specs.Data.{ScenarioData}
use Rattle.ltm_check.specs.Fields.{Fields}
use Rattle.ltm_check.specs.Left.{records_of}
use Rattle.ltm_casefile.specs.declared.faults.CaseFault.TheVariants as fault
use Rattle.ltm_setting.specs.Setting.{setting_of}
use Rattle.ltm_check.specs.File.{IsCurveFile, told}
use Rattle.ltm_check.specs.Kept.{Keeps}
use Rattle.ltm_check_command.specs.declared.refusal.Refusal.{Refusal}
use Rattle.ltm_check_command.specs.declared.refusal.Refusal.TheVariants as refusal
use Rattle.ltm_check_command.specs.Checks.{SizedAnswer, most_bytes}

-- `curves.csv` has these bytes, of the files that a folder tells, where it tells any
abbrev pub AreBytes : Option Files → List ℕ → Type 0
AreBytes told bytes = IfSome told (λ files. files doc.Curves ≡ Some bytes)

-- records are a curve file, and curves keep what it tells
pub record KeepsRecords (s : ScenarioData) (records : List Fields) (c : Curves) : Type 0 where
  pub file : IsCurveFile s records
  pub keeps : Keeps (setting_of s) (told s records) c

-- the same of the file, which has not too many bytes
abbrev pub KeepsFile : ScenarioData → Option Files → Curves → Type 0
KeepsFile s files c = (bytes : List ℕ) × AreBytes files bytes × (length bytes ≤ most_bytes) × KeepsRecords s (records_of bytes) c

-- a refusal is the answer to bytes; that they were not given, or memory was not found, does not lie in them
abbrev pub RefusesBytes : ScenarioData → List ℕ → Refusal → Type 0
RefusesBytes s bytes e =
    (e ≡ refusal.NoCurves) ⊎ ((e ≡ refusal.Case fault.NoMemory) ⊎ SizedAnswer (nat_lt most_bytes (length bytes)) s bytes (Err e))

-- the same of the file
abbrev pub RefusesFile : ScenarioData → Option Files → Refusal → Type 0
RefusesFile s files e =
    (e ≡ refusal.NoCurves) ⊎ ((e ≡ refusal.Case fault.NoMemory) ⊎ ((bytes : List ℕ) × AreBytes files bytes × SizedAnswer (nat_lt most_bytes (length bytes)) s bytes (Err e)))
