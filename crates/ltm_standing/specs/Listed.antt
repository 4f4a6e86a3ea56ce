-- The destinations of a link, in order, and what stands there of a loading.
use Rattle.std.specs.Prelude.{◌≡◌, ◌≢◌, ℕ, ◌+◌, ◌<◌, ◌≤◌, List, [], ◌∷◌, length, slice_index}
use Rattle.ltm_curve.specs.Counts.{Counts, total}
use Rattle.ltm_loading.specs.Setting.{Setting, IsSetting}
use Rattle.ltm_loading.specs.Groups.{up_of, down_of}
use Rattle.ltm_loading.specs.Flows.{link_goal}
use Rattle.ltm_loading.specs.Loading.{IsLoading}
use Rattle.ltm_standing.specs.Standing.{StandsAt}
use Rattle.ltm_standing.specs.declared.standing.Standing.{Standing}

-- numbers in order, each once, from one on and before another
abbrev pub Ascends : ℕ → ℕ → List ℕ → Type 0
Ascends from before [] = Unit {0}
Ascends from before (d ∷ ds) = (from ≤ d) × ((d < before) × Ascends (d + 1) before ds)

abbrev pub NotIn : List ℕ → ℕ → Type 0
NotIn ds d = (i : ℕ) → i < length ds → slice_index ds i ≢ d

-- a link of a loading, and destinations in order, so that no other is ever on the link
pub record IsListed (s : Setting) (c : Counts) (l : ℕ) (ds : List ℕ) : Type 0 where
  pub setting : IsSetting s
  pub loading : IsLoading s c
  pub link : l < s.links
  pub order : Ascends 0 s.destinations ds
  pub others : (d k : ℕ) → d < s.destinations → k ≤ s.slots → NotIn ds d → c (up_of l) d k ≡ 0

-- what entered and what left the link, by place in the list
abbrev pub listed : Counts → ℕ → List ℕ → ℕ → ℕ → ℕ
listed c g ds i k = c g (slice_index ds i) k

-- what stands on a link is that of these counts at boundary t, where the rows of all slots before k are taken in
abbrev pub Stands : Counts → ℕ → List ℕ → ℕ → ℕ → Standing → Type 0
Stands c l ds k t standing = StandsAt (length ds) (listed c (up_of l) ds) (listed c (down_of l) ds) k t standing

-- what entered a link in a slot, in all and by place; where nothing entered no place is told
pub record HasEntered (s : Setting) (c : Counts) (l : ℕ) (ds : List ℕ) (k came : ℕ) (mail : List ℕ) : Type 0 where
  pub all : total s.destinations (c (up_of l)) (k + 1) ≡ total s.destinations (c (up_of l)) k + came
  pub each : 0 < came → (i : ℕ) → i < length ds → listed c (up_of l) ds i (k + 1) ≡ listed c (up_of l) ds i k + slice_index mail i

-- what left a link in a slot, by place
abbrev pub HasGone : Counts → ℕ → List ℕ → ℕ → List ℕ → Type 0
HasGone c l ds t left = (i : ℕ) → i < length ds → listed c (down_of l) ds i (t + 1) ≡ listed c (down_of l) ds i t + slice_index left i

-- how many units may have left a link by the end of a slot, how many have by its beginning, and its exit limit
pub record IsAsked (s : Setting) (c : Counts) (l t goal gone limit : ℕ) : Type 0 where
  pub may_leave : goal ≡ link_goal s c l t
  pub have_left : gone ≡ total s.destinations (c (down_of l)) t
  pub at_most : limit ≡ s.exit_limit l t
