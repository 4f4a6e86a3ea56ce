-- What a source in memory that never fails holds.
use Rattle.std.specs.Prelude.{ℕ, List, drop}
use Rattle.ltm_io.specs.declared.sure_source.SureSource.{SureSource}

-- the bytes that are left
abbrev pub left_of : SureSource → List ℕ
left_of source = drop source.at source.bytes.items

-- the most bytes that a read gives
abbrev pub piece_of : SureSource → ℕ
piece_of source = source.piece
