-- What is behind a fault of a case.
use Rattle.std.specs.Prelude.{◌≡◌, ℕ, Bool, true, IsSomeAnd, Result, Err}
use Rattle.ltm_io.specs.declared.doc.Doc.{Doc}
use Rattle.ltm_io.specs.Faults.{Rose}
use Rattle.ltm_network.specs.declared.network.NetworkFault.TheVariants as network
use Rattle.ltm_casefile.specs.declared.faults.CaseCause.{CaseCause}
use Rattle.ltm_casefile.specs.declared.faults.CaseCause.TheVariants.{Network}
use Rattle.ltm_casefile.specs.declared.faults.CaseFault.{CaseFault}
use Rattle.ltm_casefile.specs.declared.faults.CaseFault.TheVariants.{Folder, TooLong, Bad, NoHistory, NoMemory}
use Rattle.ltm_casefile.specs.Folder.{doc_of}

-- a fault that lies in the files is the one of the definition; that a folder did not give a file, or memory was not
-- found, does not lie in them
abbrev pub Agrees : {A : Type 0} → Result A CaseFault → CaseFault → Type 0
Agrees said (Folder f) = Unit {0}
Agrees said (TooLong f) = said ≡ Err (TooLong f)
Agrees said (Bad f row cause) = said ≡ Err (Bad f row cause)
Agrees said NoHistory = said ≡ Err NoHistory
Agrees said NoMemory = Unit {0}

-- a call that asks no folder for a file finds the fault of the definition, or no memory
abbrev pub Says : {A : Type 0} → Result A CaseFault → CaseFault → Type 0
Says said (Folder f) = ⊥
Says said (TooLong f) = ⊥
Says said (Bad f row cause) = said ≡ Err (Bad f row cause)
Says said NoHistory = said ≡ Err NoHistory
Says said NoMemory = Unit {0}

-- a cause other than the network's want of memory
abbrev pub IsNoWant : CaseCause → Type 0
IsNoWant (Network network.NoMemory) = ⊥
IsNoWant other = Unit {0}

-- want of memory is told as itself, and never as a bad case
abbrev pub HidesNoMemory : CaseFault → Type 0
HidesNoMemory (Bad f row cause) = IsNoWant cause
HidesNoMemory other = Unit {0}

-- a file that the folder did not give is one of its own, of which this holds
abbrev pub NotGiven : (Doc → Type 0) → CaseFault → Type 0
NotGiven holds (Folder f) = IsSomeAnd (doc_of f) holds
NotGiven holds (TooLong f) = Unit {0}
NotGiven holds (Bad f row cause) = Unit {0}
NotGiven holds NoHistory = Unit {0}
NotGiven holds NoMemory = Unit {0}

-- the count of faults of a file that the folder did not give has risen
abbrev pub HasRisen : (Doc → ℕ) → (Doc → ℕ) → CaseFault → Type 0
HasRisen before now fault = NotGiven (λ d. Rose (before d) (now d)) fault

-- the files ask for the one that the folder did not give
abbrev pub WasAsked : (Doc → Bool) → CaseFault → Type 0
WasAsked asks fault = NotGiven (λ d. asks d ≡ true) fault
