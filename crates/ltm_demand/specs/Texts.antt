-- What a fault says of itself.
use Rattle.std.specs.Prelude.{ℕ, List, codes}
use Rattle.ltm_demand.specs.declared.row.DemandFault.{DemandFault}
use Rattle.ltm_demand.specs.declared.row.DemandFault.TheVariants.{BadSlots, TooManyRows, NoMemory}

abbrev pub fault_text : DemandFault → List ℕ
fault_text BadSlots = codes "bad slots"
fault_text TooManyRows = codes "too many rows"
fault_text NoMemory = codes "out of memory"
