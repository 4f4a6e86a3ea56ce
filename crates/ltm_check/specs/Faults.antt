-- What a fault tells of the records of a text.
use Rattle.std.specs.Prelude.{ℕ, ◌≡◌, ◌+◌, List, Some}
use Rattle.ltm_scenario.specs.Data.{ScenarioData}
use Rattle.ltm_records.specs.Fields.{Fields}
use Rattle.ltm_check.specs.declared.faults.CurvesFault.{CurvesFault}
use Rattle.ltm_check.specs.declared.faults.CurvesFault.TheVariants.{Bad, NoMemory}
use Rattle.ltm_check.specs.File.{fault_at, AreRightBelow, IsFirstFault}

-- the fault is the first below the header
abbrev pub IsFaultBelow : ScenarioData → List Fields → CurvesFault → Type 0
IsFaultBelow s rows (Bad row cause) = (place : ℕ) × (row ≡ place + 2) × (fault_at s rows place ≡ Some cause) × AreRightBelow s rows place
IsFaultBelow s rows NoMemory = Unit {0}

-- the fault is the first of the text; want of memory tells nothing
abbrev pub IsFault : ScenarioData → List Fields → CurvesFault → Type 0
IsFault s records (Bad row cause) = IsFirstFault s records row cause
IsFault s records NoMemory = Unit {0}
