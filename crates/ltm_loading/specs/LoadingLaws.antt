-- What holds of every loading.
use Rattle.std.specs.Prelude.{◌≡◌, ℕ, ◌+◌, ◌-◌, ◌<◌, ◌≤◌}
use Rattle.ltm_units.specs.Sums.{sum_below}
use Rattle.ltm_curve.specs.Counts.{Counts, total}
use Rattle.ltm_curve.specs.First.{first_units}
use Rattle.ltm_loading.specs.Setting.{Setting, IsSetting}
use Rattle.ltm_loading.specs.Groups.{up_of, down_of, dep_of, arr_of, groups}
use Rattle.ltm_loading.specs.Flows.{link_goal, origin_goal}
use Rattle.ltm_loading.specs.Loading.{IsFront, OriginsWithoutOutsAreEmpty, IsLoading}
use Rattle.ltm_loading.specs.Totals.{generated, departed, arrived, on_links, waiting}

-- no count falls
abbrev pub NeverFall : Type 0
NeverFall =
    (s : Setting) (c : Counts) → IsSetting s → IsLoading s c →
    (g d k : ℕ) → g < groups s → d < s.destinations → k < s.slots → c g d k ≤ c g d (k + 1)

-- a destination leaves a link or an origin only out of the first units
abbrev pub FirstInFirstOut : Type 0
FirstInFirstOut =
    (s : Setting) (c : Counts) → IsSetting s → IsLoading s c → (t d : ℕ) → t < s.slots → d < s.destinations →
    ((l : ℕ) → l < s.links → c (down_of l) d (t + 1) ≤ first_units s.destinations (c (up_of l)) (link_goal s c l t) t d)
    × ((u : ℕ) → u < s.nodes → 0 < s.outs u → c (dep_of s u) d (t + 1) ≤ first_units s.destinations (s.produced u) (origin_goal s c u t) (t + 1) d)

-- what leaves a link in a slot is at most its exit limit
abbrev pub WithinExit : Type 0
WithinExit =
    (s : Setting) (c : Counts) → IsSetting s → IsLoading s c → (t l : ℕ) → t < s.slots → l < s.links →
    total s.destinations (c (down_of l)) (t + 1) ≤ total s.destinations (c (down_of l)) t + s.exit_limit l t

-- what is on a link is at most its storage
abbrev pub WithinStorage : Type 0
WithinStorage =
    (s : Setting) (c : Counts) → IsSetting s → IsLoading s c → (l k : ℕ) → l < s.links → k ≤ s.slots →
    total s.destinations (c (up_of l)) k ≤ total s.destinations (c (down_of l)) k + s.storage l

-- what left the origins of a destination has arrived or is on a link
abbrev pub Conserved : Type 0
Conserved =
    (s : Setting) (c : Counts) → IsSetting s → IsLoading s c → (d k : ℕ) → d < s.destinations → k ≤ s.slots →
    sum_below s.nodes (λ u. c (dep_of s u) d k) ≡ c (arr_of s) d k + sum_below s.links (λ l. c (up_of l) d k - c (down_of l) d k)

-- no more leaves an origin than was produced
abbrev pub WithinProduced : Type 0
WithinProduced =
    (s : Setting) (c : Counts) → IsSetting s → IsLoading s c → (u d k : ℕ) → u < s.nodes → d < s.destinations → k ≤ s.slots →
    c (dep_of s u) d k ≤ s.produced u d k

-- two loadings of one setting are equal
abbrev pub OneLoading : Type 0
OneLoading =
    (s : Setting) (a b : Counts) → IsSetting s → IsLoading s a → IsLoading s b →
    (g d k : ℕ) → g < groups s → d < s.destinations → k ≤ s.slots → a g d k ≡ b g d k

-- two fronts of one setting up to a slot are equal up to it
abbrev pub OneFront : Type 0
OneFront =
    (s : Setting) (a b : Counts) (slot : ℕ) → IsSetting s → slot ≤ s.slots →
    IsFront s a slot → OriginsWithoutOutsAreEmpty s a → IsFront s b slot → OriginsWithoutOutsAreEmpty s b →
    (g d k : ℕ) → g < groups s → d < s.destinations → k ≤ slot → a g d k ≡ b g d k

-- no more has left a link than has entered it
abbrev pub LeftHasEntered : Type 0
LeftHasEntered =
    (s : Setting) (c : Counts) → IsSetting s → IsLoading s c → (l d k : ℕ) → l < s.links → d < s.destinations → k ≤ s.slots →
    c (down_of l) d k ≤ c (up_of l) d k

-- what was produced has left its origin or waits there, and what has left has arrived or is on a link
abbrev pub AddsUp : Type 0
AddsUp =
    (s : Setting) (c : Counts) → IsSetting s → IsLoading s c → (k : ℕ) → k ≤ s.slots →
    (generated s k ≡ departed s c k + waiting s c k) × (departed s c k ≡ arrived s c k + on_links s c k)
