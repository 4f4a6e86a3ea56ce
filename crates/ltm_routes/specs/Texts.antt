-- What a fault says of itself.
use Rattle.std.specs.Prelude.{ℕ, List, codes}
use Rattle.ltm_routes.specs.declared.faults.RoutesFault.{RoutesFault}
use Rattle.ltm_routes.specs.declared.faults.RoutesFault.TheVariants.{TooManyRows, NoMemory}

abbrev pub fault_text : RoutesFault → List ℕ
fault_text TooManyRows = codes "too many rows"
fault_text NoMemory = codes "out of memory"
