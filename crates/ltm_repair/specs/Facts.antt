-- What holds of a desk at any time.
use Rattle.std.specs.Prelude.{◌≡◌, ◌≢◌, ℕ, ◌+◌, ◌<◌, ◌⊎◌, List, Some, None, true}
use Rattle.ltm_curve.specs.Counts.{Counts}
use Rattle.ltm_node.specs.Inputs.{Inputs}
use Rattle.ltm_node.specs.Solvable.{IsSolvable}
use Rattle.ltm_node.specs.Step.{IsNodeStep}
use Rattle.ltm_loading.specs.Setting.{Setting}
use Rattle.ltm_loading.specs.Groups.{groups}
use Rattle.ltm_loading.specs.Pairs.{shape_at, pair_row, pair_outputs}
use Rattle.ltm_loading.specs.Loading.{OriginsWithoutOutsAreEmpty}
use Rattle.ltm_loading.specs.NextPair.{IsOf}
use Rattle.ltm_repair.specs.Desk.{Desk, IsSettled, IsIdle, IsIdleBefore}

-- a row of numbers as the inputs of a node
abbrev pub inputs_from : Setting → ℕ → List ℕ → Inputs
inputs_from s u row = record { shape = shape_at s u; row = row; room = 0 }

-- the counts of a node at the end of a slot are the node step of this row, which is in the range of one
pub record IsStepOf (s : Setting) (c : Counts) (u t : ℕ) (row : List ℕ) : Type 0 where
  pub in_range : IsSolvable (inputs_from s u row)
  pub step : IsNodeStep (inputs_from s u row) (pair_outputs s c u (t + 1))

-- the counts of a node at the end of a slot are 0
abbrev pub IsUnset : Setting → Counts → ℕ → ℕ → Type 0
IsUnset s c u t = (g e : ℕ) → IsOf s u g e → e < s.destinations → c g e (t + 1) ≡ 0

-- counts at the start are 0; where a pair has kept inputs, the counts that it sets are their step; where it has none, they are 0
-- or the step of inputs that it had; all other counts are 0
pub record CountsAreSteps (s : Setting) (d : Desk) : Type 0 where
  pub empty : (g e : ℕ) → g < groups s → e < s.destinations → d.counts g e 0 ≡ 0
  pub steps : (u t : ℕ) → u < s.nodes → t < s.slots → (row : List ℕ) → d.kept u t ≡ Some row → IsStepOf s d.counts u t row
  pub unset : (u t : ℕ) → u < s.nodes → t < s.slots → d.kept u t ≡ None →
      IsUnset s d.counts u t ⊎ ((row : List ℕ) × IsStepOf s d.counts u t row)
  pub sinks : OriginsWithoutOutsAreEmpty s d.counts

-- each pair that is not settled is active or claimed, and none is both
pub record UnsettledAreActive (s : Setting) (d : Desk) : Type 0 where
  pub idle_is_settled : (u t : ℕ) → u < s.nodes → t < s.slots → IsIdle d u t → IsSettled s d u t
  pub apart : (u t : ℕ) → d.active u t ≡ true → d.claimed u t ≡ None

-- a claim may be of this pair with this row: the pair is of the front slot, and the row is what it reads now, which is not
-- what is kept of it
pub record IsClaim (s : Setting) (d : Desk) (u t : ℕ) (row : List ℕ) : Type 0 where
  pub is_node : u < s.nodes
  pub is_slot : t < s.slots
  pub front : IsIdleBefore s d t
  pub now : row ≡ pair_row s d.counts u t
  pub changed : d.kept u t ≢ Some row

-- each pair is claimed once, with what it still reads
abbrev pub ClaimsAreCurrent : Setting → Desk → Type 0
ClaimsAreCurrent s d = (u t : ℕ) (row : List ℕ) → d.claimed u t ≡ Some row → IsClaim s d u t row

pub record IsSound (s : Setting) (d : Desk) : Type 0 where
  pub counts : CountsAreSteps s d
  pub active : UnsettledAreActive s d
  pub claims : ClaimsAreCurrent s d
