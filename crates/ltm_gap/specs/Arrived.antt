-- What has arrived at a destination, from the totals of the links at its node and of its origin.
use Rattle.std.specs.Prelude.{◌≡◌, ℕ, ◌+◌, ◌<◌, ◌≤◌}
use Rattle.ltm_units.specs.Sums.{sum_below}
use Rattle.ltm_curve.specs.Counts.{Counts}
use Rattle.ltm_loading.specs.Setting.{Setting, IsSetting}
use Rattle.ltm_loading.specs.Groups.{arr_of}
use Rattle.ltm_loading.specs.Loading.{IsLoading}
use Rattle.ltm_loading.specs.Totals.{entered_link, left_link}
use Rattle.ltm_flows.specs.Origins.{departed_from}
use Rattle.ltm_flows.specs.declared.loading.Loading.{Loading}
use Rattle.ltm_flows.specs.Counted.{departed_by, entered_by, left_by}

-- what has come to a node by a boundary: out of its in-links and from its own origin
abbrev pub came_to : Setting → Counts → ℕ → ℕ → ℕ
came_to s c node k = sum_below (s.ins node) (λ i. left_link s c (s.in_link node i) k) + departed_from s c node k

-- what has gone on from it: into its out-links
abbrev pub went_on : Setting → Counts → ℕ → ℕ → ℕ
went_on s c node k = sum_below (s.outs node) (λ j. entered_link s c (s.out_link node j) k)

-- what has come to the node of a destination has gone on or has arrived: nobody else arrives there
abbrev pub CameAndStayed : Type 0
CameAndStayed =
    (s : Setting) (c : Counts) → IsSetting s → IsLoading s c → (destination k : ℕ) → destination < s.destinations → k ≤ s.slots →
    came_to s c (s.place destination) k ≡ went_on s c (s.place destination) k + c (arr_of s) destination k

-- ---- the same as it is read from a loading
abbrev pub read_came : Setting → Loading → ℕ → ℕ → ℕ
read_came s l node k = sum_below (s.ins node) (λ i. left_by l (s.in_link node i) k) + departed_by l node k

abbrev pub read_went : Setting → Loading → ℕ → ℕ → ℕ
read_went s l node k = sum_below (s.outs node) (λ j. entered_by l (s.out_link node j) k)
