-- What a reader gave is what a definition says, unless memory was not found.
use Rattle.std.specs.Prelude.{◌≡◌, Result, Ok, Err}
use Rattle.ltm_script.specs.declared.command.CommandFault.{CommandFault}
use Rattle.ltm_script.specs.declared.command.CommandFault.TheVariants.{NotJson, NotCommand, NoMemory}

abbrev pub Gives : {V A : Type 0} → Result V CommandFault → (V → A) → Result A CommandFault → Type 0
Gives (Ok v) seen said = said ≡ Ok (seen v)
Gives (Err NoMemory) seen said = Unit {0}
Gives (Err NotJson) seen said = ⊥
Gives (Err (NotCommand place)) seen said = said ≡ Err (NotCommand place)
