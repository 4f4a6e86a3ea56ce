-- What a folder in memory holds.
use Rattle.std.specs.Prelude.{ℕ, Bool, ◌==◌, ◌||◌, List, slice_index, slice_index_or, Option, None, option_map, is_none}
use Rattle.std.specs.List.{list_any}
use Rattle.ltm_io.specs.declared.doc.Doc.{Doc}
use Rattle.ltm_io.specs.declared.mem_folder.MemFolder.{MemFolder}
use Rattle.ltm_io.specs.Doc.{place_of}
use Rattle.ltm_io.specs.Faults.{raised}

-- the bytes of a file, where the folder has it
abbrev pub file_of : MemFolder → Doc → Option (List ℕ)
file_of folder doc = option_map (λ v. v.items) (slice_index_or folder.files (place_of doc) None)

-- how many fetches of a file failed
abbrev pub faults_of : MemFolder → Doc → ℕ
faults_of folder doc = slice_index folder.faults (place_of doc)

-- how many fetches there were
abbrev pub calls_of : MemFolder → ℕ
calls_of folder = folder.calls

-- the numbers of the fetches that are to fail, counted from 1
abbrev pub failing_of : MemFolder → List ℕ
failing_of folder = folder.failing.items

-- the next fetch is one of those that are to fail
abbrev pub fails_next : MemFolder → Bool
fails_next folder = list_any (λ number. number == raised (calls_of folder)) (failing_of folder)

-- the next fetch of a file fails: it is to fail, or the file is not there
abbrev pub is_fault : MemFolder → Doc → Bool
is_fault folder doc = fails_next folder || is_none (file_of folder doc)
