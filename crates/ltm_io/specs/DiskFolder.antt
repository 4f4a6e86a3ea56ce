-- What the current folder counts.
use Rattle.std.specs.Prelude.{ℕ, ◌+◌, slice_index}
use Rattle.ltm_io.specs.declared.doc.Doc.{Doc}
use Rattle.ltm_io.specs.Doc.{place_of}
use Rattle.ltm_io.specs.RealFolder as real
use Rattle.ltm_io.specs.declared.disk_folder.DiskFolder.{DiskFolder}

-- how many fetches of a file failed, and how many times it was not opened or not read
abbrev pub faults_of : {R F D : Type 0} → DiskFolder R F D → Doc → ℕ
faults_of folder doc = real.faults_of folder.folder doc + slice_index folder.faults (place_of doc)
