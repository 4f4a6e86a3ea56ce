-- What a source in memory holds.
use Rattle.std.specs.Prelude.{ℕ, Bool, ◌==◌, List}
use Rattle.std.specs.List.{list_any}
use Rattle.ltm_io.specs.Faults.{raised}
use Rattle.ltm_io.specs.declared.mem_source.MemSource.{MemSource}
use Rattle.ltm_io.specs.SureSource as sure

-- the bytes that are left
abbrev pub left_of : MemSource → List ℕ
left_of source = sure.left_of source.sure

-- the most bytes that a read gives
abbrev pub piece_of : MemSource → ℕ
piece_of source = sure.piece_of source.sure

-- how many reads failed
abbrev pub faults_of : MemSource → ℕ
faults_of source = source.faults

-- how many reads there were
abbrev pub calls_of : MemSource → ℕ
calls_of source = source.calls

-- the numbers of the reads that are to fail, counted from 1
abbrev pub failing_of : MemSource → List ℕ
failing_of source = source.failing.items

-- the next read is one of those that are to fail
abbrev pub fails_next : MemSource → Bool
fails_next source = list_any (λ number. number == raised (calls_of source)) (failing_of source)
