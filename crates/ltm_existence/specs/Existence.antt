-- What there is: shares of a node's arms, the step of a node, the next boundary of a front, and a loading.
use Rattle.std.specs.Prelude.{◌≡◌, ℕ, ◌+◌, ◌<◌, ◌≤◌}
use Rattle.ltm_curve.specs.Counts.{Counts}
use Rattle.ltm_shares.specs.Shares.{Demands, AreShares}
use Rattle.ltm_shares.specs.Demands.{IsSmall}
use Rattle.ltm_node.specs.Inputs.{Inputs}
use Rattle.ltm_node.specs.Outputs.{Outputs}
use Rattle.ltm_node.specs.Solvable.{IsSolvable}
use Rattle.ltm_node.specs.Step.{IsNodeStep}
use Rattle.ltm_loading.specs.Setting.{Setting, IsSetting}
use Rattle.ltm_loading.specs.Groups.{groups}
use Rattle.ltm_loading.specs.Loading.{IsFront, OriginsWithoutOutsAreEmpty, IsLoading}

-- shares of these demands
pub record HasShares (n : Demands) : Type 0 where
  pub denominator : ℕ
  pub numerators : ℕ → ℕ
  pub shares : AreShares n denominator numerators

-- demands in the range of a node have shares
abbrev pub ThereAreShares : Type 0
ThereAreShares = (n : Demands) → IsSmall n → HasShares n

-- the node step of these inputs
pub record HasStep (n : Inputs) : Type 0 where
  pub outputs : Outputs
  pub step : IsNodeStep n outputs

-- inputs in the range of a node step have one
abbrev pub ThereIsAStep : Type 0
ThereIsAStep = (n : Inputs) → IsSolvable n → HasStep n

-- a front that is one slot longer: counts that are these up to the slot, and a front past it
pub record HasNextFront (s : Setting) (c : Counts) (t : ℕ) : Type 0 where
  pub counts : Counts
  pub same : (g d k : ℕ) → g < groups s → d < s.destinations → k ≤ t → counts g d k ≡ c g d k
  pub front : IsFront s counts (t + 1)
  pub no_origin : OriginsWithoutOutsAreEmpty s counts

-- a front of a setting before its last slot goes on
abbrev pub ThereIsANextFront : Type 0
ThereIsANextFront =
    (s : Setting) (c : Counts) (t : ℕ) → IsSetting s → IsFront s c t → OriginsWithoutOutsAreEmpty s c → t < s.slots → HasNextFront s c t

-- a loading of this setting
pub record HasLoading (s : Setting) : Type 0 where
  pub counts : Counts
  pub loading : IsLoading s counts

-- every setting has a loading
abbrev pub ThereIsALoading : Type 0
ThereIsALoading = (s : Setting) → IsSetting s → HasLoading s
