-- What a commit of a pair changes: counts of its node, at the boundary behind its slot.
use Rattle.std.specs.Prelude.{◌≡◌, ◌≢◌, ℕ, zero, suc, ◌<◌, ◌≤◌, ◌==◌, ◌||◌, not, Bool, false}
use Rattle.ltm_curve.specs.Counts.{Counts}
use Rattle.ltm_loading.specs.Setting.{Setting}
use Rattle.ltm_loading.specs.Groups.{up_of, arr_of, groups}
use Rattle.ltm_loading.specs.Pairs.{arms_of, arm_group}
use Rattle.ltm_loading.specs.NextPair.{IsOf}

-- some number below n passes the test
abbrev pub some_below : ℕ → (ℕ → Bool) → Bool
some_below zero f = false
some_below (suc n) f = some_below n f || f n

-- some count of the group differs at the boundary
abbrev pub differs_at : Setting → Counts → Counts → ℕ → ℕ → Bool
differs_at s a b g k = some_below s.destinations (λ d. not (a g d k == b g d k))

-- some count of the node differs at the boundary: of what has left an arm, has entered an out-link, or has arrived
abbrev pub node_differs : Setting → Counts → Counts → ℕ → ℕ → Bool
node_differs s a b u k =
    some_below (arms_of s u) (λ i. differs_at s a b (arm_group s u i) k)
    || (some_below (s.outs u) (λ j. differs_at s a b (up_of (s.out_link u j)) k) || differs_at s a b (arr_of s) k)

-- counts of a node change at one boundary, and no others; nothing is counted at the start
pub record ChangesNode (s : Setting) (u k : ℕ) (old new : Counts) : Type 0 where
  pub is_node : u < s.nodes
  pub some : 0 < k
  pub empty : (g d : ℕ) → g < groups s → d < s.destinations → old g d 0 ≡ 0
  pub later : (g d j : ℕ) → g < groups s → d < s.destinations → j ≤ s.slots → j ≢ k → new g d j ≡ old g d j
  pub others : (g d : ℕ) → g < groups s → d < s.destinations → (IsOf s u g d → ⊥) → new g d k ≡ old g d k
