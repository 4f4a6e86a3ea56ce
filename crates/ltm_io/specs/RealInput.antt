-- What an input holds.
use Rattle.std.specs.Prelude.{ℕ}
use Rattle.ltm_io.specs.declared.real_input.RealInput.{RealInput}

-- the reader from which the bytes come
abbrev pub reader_of : {R : Type 0} → RealInput R → R
reader_of input = input.reader

-- how many reads failed
abbrev pub faults_of : {R : Type 0} → RealInput R → ℕ
faults_of input = input.faults
