-- What a fetch from a folder in memory answers, with ample memory.
use Rattle.std.specs.Prelude.{ℕ, Bool, true, false, nat_lt, if◌then◌else◌, List, length, Option, Some, None}
use Rattle.ltm_io.specs.declared.folder.Fetched.{Fetched}
use Rattle.ltm_io.specs.declared.folder.Fetched.TheVariants.{Found, TooLong, Failed}

-- the answer, by whether the fetch is to fail, the file where it is there, and the most bytes
abbrev pub answer_of : Bool → Option (List ℕ) → ℕ → Fetched
answer_of true file max = Failed
answer_of false None max = Failed
answer_of false (Some bytes) max = if nat_lt max (length bytes) then TooLong else Found
