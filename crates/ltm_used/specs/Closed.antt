-- Lists of destinations by link, outside which nothing is ever on a link.
use Rattle.std.specs.Prelude.{◌≡◌, ◌≢◌, ℕ, ◌<◌, ◌≤◌, List, length, slice_index, Some}
use Rattle.ltm_curve.specs.Counts.{Counts}
use Rattle.ltm_loading.specs.Setting.{Setting, IsSetting}
use Rattle.ltm_loading.specs.Groups.{up_of, down_of}
use Rattle.ltm_loading.specs.Loading.{IsLoading}
use Rattle.ltm_standing.specs.Listed.{NotIn}

-- a destination is on a list
abbrev pub IsIn : List ℕ → ℕ → Type 0
IsIn ds d = (i : ℕ) × ((i < length ds) × (slice_index ds i ≡ d))

-- a node produces something of a destination
abbrev pub HasDemand : Setting → ℕ → ℕ → Type 0
HasDemand s u d = 0 < s.produced u d s.slots

-- a node that is not the destination sends something of it by an out-link in some slot
pub record Leads (s : Setting) (u d j : ℕ) : Type 0 where
  pub slot : ℕ
  pub in_time : slot < s.slots
  pub weight : 0 < s.weight u d slot j
  pub passes : s.own u ≢ Some d

-- a list for each link: with what its origins produce, and with all that goes on from it
pub record AreClosed (s : Setting) (lists : ℕ → List ℕ) : Type 0 where
  pub origins : (u d j : ℕ) → u < s.nodes → d < s.destinations → j < s.outs u → HasDemand s u d → Leads s u d j → IsIn (lists (s.out_link u j)) d
  pub onward : (l d j : ℕ) → l < s.links → d < s.destinations → j < s.outs (s.head l) → IsIn (lists l) d → Leads s (s.head l) d j → IsIn (lists (s.out_link (s.head l) j)) d

-- what is on no list of closed ones never enters the link, and so never leaves it
abbrev pub NothingElse : Type 0
NothingElse =
    (s : Setting) (c : Counts) (lists : ℕ → List ℕ) → IsSetting s → IsLoading s c → AreClosed s lists →
    (l d k : ℕ) → l < s.links → d < s.destinations → k ≤ s.slots → NotIn (lists l) d → (c (up_of l) d k ≡ 0) × (c (down_of l) d k ≡ 0)
