-- What is said of counts: that they are a loading, or why not.
use Rattle.std.specs.Prelude.{ℕ, ◌≡◌, ◌<◌}
use Rattle.ltm_curve.specs.Counts.{Counts}
use Rattle.ltm_loading.specs.Setting.{Setting, IsSetting}
use Rattle.ltm_loading.specs.Groups.{groups}
use Rattle.ltm_loading.specs.Pairs.{MeetsStep}
use Rattle.ltm_loading.specs.Loading.{OriginsWithoutOutsAreEmpty, IsLoading}
use Rattle.ltm_loading.specs.NextPair.{IsFrontTo}
use Rattle.ltm_units.specs.declared.places.Pair.{Pair}
use Rattle.ltm_check.specs.Kept.{AreKept}
use Rattle.ltm_check.specs.declared.faults.Checked.{Checked}
use Rattle.ltm_check.specs.declared.faults.Checked.TheVariants.{Yes, Start, No}

-- nothing is counted at the start, and nothing ever leaves the origin of a node without out-links
pub record StartsRight (s : Setting) (c : Counts) : Type 0 where
  pub empty : (g d : ℕ) → g < groups s → d < s.destinations → c g d 0 ≡ 0
  pub no_origin : OriginsWithoutOutsAreEmpty s c

-- of the nodes of a slot the first whose counts at the slot's end are not its node step
pub record IsFirstWrongNode (s : Setting) (c : Counts) (slot node : ℕ) : Type 0 where
  pub node_there : node < s.nodes
  pub before : IsFrontTo s c slot node
  pub wrong : MeetsStep s c node slot → ⊥

-- the first pair, by slot and then by node, whose counts at the slot's end are not its node step
pub record IsFirstWrong (s : Setting) (c : Counts) (pair : Pair) : Type 0 where
  pub starts : StartsRight s c
  pub slot : pair.slot < s.slots
  pub node : IsFirstWrongNode s c pair.slot pair.node.0

abbrev pub IsVerdict : Setting → Counts → Checked → Type 0
IsVerdict s c Yes = IsLoading s c
IsVerdict s c Start = StartsRight s c → ⊥
IsVerdict s c (No pair) = IsFirstWrong s c pair

-- what is said of counts as they are kept holds of the counts themselves
abbrev pub KeptAnswersAlike : Type 0
KeptAnswersAlike = (s : Setting) (told c : Counts) (said : Checked) → IsSetting s → AreKept s told c → IsVerdict s c said → IsVerdict s told said
