-- What an open file counts.
use Rattle.std.specs.Prelude.{ℕ}
use Rattle.ltm_io.specs.declared.real_file.RealFile.{RealFile}

-- how many reads failed
abbrev pub faults_of : {R : Type 0} → RealFile R → ℕ
faults_of file = file.faults
