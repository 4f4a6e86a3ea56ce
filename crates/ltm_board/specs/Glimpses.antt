-- What a seat knows at the start.
use Rattle.std.specs.Prelude.{[]}
use Rattle.ltm_board.specs.declared.glimpse.Glimpse.{Glimpse}

abbrev pub newcomer : Glimpse
newcomer = record { seen = [] }
