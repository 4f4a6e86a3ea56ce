-- What the current folder counts.
use Rattle.std.specs.Prelude.{ℕ, slice_index}
use Rattle.ltm_io.specs.declared.doc.Doc.{Doc}
use Rattle.ltm_io.specs.declared.real_folder.RealFolder.{RealFolder}
use Rattle.ltm_io.specs.Doc.{place_of}

-- how many fetches of a file failed
abbrev pub faults_of : {R F D : Type 0} → RealFolder R F D → Doc → ℕ
faults_of folder doc = slice_index folder.faults (place_of doc)
