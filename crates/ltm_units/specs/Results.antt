-- Steps that may end with a fault.
use Rattle.std.specs.Prelude.{Bool, if◌then◌else◌, Option, Some, None, Result, Ok, Err}

-- the fault, where the test holds
abbrev pub refuse : {F : Type 0} → Bool → F → Result (Unit {0}) F
refuse test fault = if test then Err fault else Ok tt

-- what the option holds, or the fault
abbrev pub found : {A F : Type 0} → Option A → F → Result A F
found None fault = Err fault
found (Some x) fault = Ok x

-- the fault of a step, or what the next gives
infixr 10 ◌>>>◌
abbrev pub ◌>>>◌ : {A F : Type 0} → Result (Unit {0}) F → Result A F → Result A F
(Ok x) >>> next = next
(Err fault) >>> next = Err fault
