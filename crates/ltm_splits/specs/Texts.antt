-- What a fault says of itself.
use Rattle.std.specs.Prelude.{ℕ, List, codes}
use Rattle.ltm_splits.specs.declared.keys.SplitFault.{SplitFault}
use Rattle.ltm_splits.specs.declared.keys.SplitFault.TheVariants.{BadSlots, ZeroWeight, TooManyRows, NoMemory}

abbrev pub fault_text : SplitFault → List ℕ
fault_text BadSlots = codes "the first slot is not below the horizon"
fault_text ZeroWeight = codes "no weight is above 0"
fault_text TooManyRows = codes "too many rows"
fault_text NoMemory = codes "out of memory"
