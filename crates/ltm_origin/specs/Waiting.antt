-- What has left the origin of a node.
use Rattle.std.specs.Prelude.{◌≡◌, ℕ, ◌<◌, List, length, slice_index}
use Rattle.ltm_curve.specs.Counts.{Counts, total}
use Rattle.ltm_loading.specs.Setting.{Setting}
use Rattle.ltm_loading.specs.Groups.{dep_of}

-- what has left the origin of a node by a boundary, in all and by place in a list
pub record HasLeft (s : Setting) (c : Counts) (u k : ℕ) (ds : List ℕ) (left : ℕ) (gone : List ℕ) : Type 0 where
  pub all : left ≡ total s.destinations (c (dep_of s u)) k
  pub each : (i : ℕ) → i < length ds → slice_index gone i ≡ c (dep_of s u) (slice_index ds i) k
