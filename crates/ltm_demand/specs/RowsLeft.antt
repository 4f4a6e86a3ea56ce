-- The rows from a place on: those left of an origin, then those of the origins left.
use Rattle.std.specs.Prelude.{List, ◌++◌}
use Rattle.ltm_demand.specs.declared.row.DemandRow.{DemandRow}
use Rattle.ltm_demand.specs.Origins.{OriginData, rows_of}

abbrev pub rows_left : List DemandRow → List OriginData → List DemandRow
rows_left rows origins = rows ++ rows_of origins
