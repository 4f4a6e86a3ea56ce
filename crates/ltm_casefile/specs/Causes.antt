-- The cause in which a step of reading ends.
use Rattle.std.specs.Prelude.{◌≡◌, Result, Ok, Err}
use Rattle.ltm_casefile.specs.declared.faults.CaseCause.{CaseCause}
use Rattle.ltm_casefile.specs.declared.faults.RecordFault.{RecordFault}
use Rattle.ltm_casefile.specs.declared.faults.RecordFault.TheVariants.{Cause, NoMemory}

-- what comes of a step, or the cause where it is refused
abbrev pub taken : {A F : Type 0} → Result A F → CaseCause → Result A CaseCause
taken (Ok x) cause = Ok x
taken (Err fault) cause = Err cause

-- what a call says that takes memory: the cause that stands in the definition, or want of memory
abbrev pub Tells : {A : Type 0} → Result A CaseCause → RecordFault → Type 0
Tells said (Cause cause) = said ≡ Err cause
Tells said NoMemory = Unit {0}
