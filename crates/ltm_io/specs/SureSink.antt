-- What a sink in memory that never fails holds.
use Rattle.std.specs.Prelude.{ℕ, List}
use Rattle.ltm_io.specs.declared.sure_sink.SureSink.{SureSink}

-- the bytes written
abbrev pub written_to : SureSink → List ℕ
written_to sink = sink.bytes.items

-- the most bytes that a write takes
abbrev pub piece_of : SureSink → ℕ
piece_of sink = sink.piece
