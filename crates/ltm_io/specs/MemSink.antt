-- What a sink in memory holds.
use Rattle.std.specs.Prelude.{ℕ, Bool, ◌==◌, List}
use Rattle.std.specs.List.{list_any}
use Rattle.ltm_io.specs.declared.mem_sink.MemSink.{MemSink}
use Rattle.ltm_io.specs.Faults.{raised}

-- the bytes written
abbrev pub written_to : MemSink → List ℕ
written_to sink = sink.bytes.items

-- the most bytes that a write takes
abbrev pub piece_of : MemSink → ℕ
piece_of sink = sink.piece

-- how many writes failed
abbrev pub faults_of : MemSink → ℕ
faults_of sink = sink.faults

-- how many writes there were
abbrev pub calls_of : MemSink → ℕ
calls_of sink = sink.calls

-- the numbers of the writes that are to fail, counted from 1
abbrev pub failing_of : MemSink → List ℕ
failing_of sink = sink.failing.items

-- the next write is one of those that are to fail
abbrev pub fails_next : MemSink → Bool
fails_next sink = list_any (λ number. number == raised (calls_of sink)) (failing_of sink)
