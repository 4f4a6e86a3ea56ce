-- What an output holds.
use Rattle.std.specs.Prelude.{ℕ}
use Rattle.ltm_io.specs.declared.real_output.RealOutput.{RealOutput}

-- the writer to which the bytes go
abbrev pub writer_of : {W : Type 0} → RealOutput W → W
writer_of output = output.writer

-- how many writes failed
abbrev pub faults_of : {W : Type 0} → RealOutput W → ℕ
faults_of output = output.faults
