-- How far a cold loading has come.
use Rattle.std.specs.Prelude.{◌≡◌, ℕ, ◌+◌, ◌<◌, ◌≤◌}
use Rattle.ltm_curve.specs.Counts.{Counts}
use Rattle.ltm_curve.specs.declared.curves.Curves.{Curves}
use Rattle.ltm_curve.specs.Table.{counts_of}
use Rattle.ltm_node.specs.Shape.{width}
use Rattle.ltm_loading.specs.Setting.{Setting}
use Rattle.ltm_loading.specs.Pairs.{shape_at}
use Rattle.ltm_loading.specs.Loading.{IsFront, OriginsWithoutOutsAreEmpty}
use Rattle.ltm_loading.specs.NextPair.{IsOf, IsFrontTo}
use Rattle.ltm_loading.specs.Shaped.{IsShaped}

-- all slots before one are done
pub record IsWorking (s : Setting) (c : Curves) (slot : ℕ) : Type 0 where
  pub shape : IsShaped s c
  pub front : IsFront s (counts_of c) slot
  pub no_origins : OriginsWithoutOutsAreEmpty s (counts_of c)

-- the counts of the later nodes stand at the end of a slot as at its beginning
abbrev pub AreCarried : Setting → Counts → ℕ → ℕ → Type 0
AreCarried s c slot nodes =
    (u g d : ℕ) → nodes ≤ u → u < s.nodes → IsOf s u g d → d < s.destinations → c g d (slot + 1) ≡ c g d slot

-- within a slot the first nodes are done, and the counts of the others are carried on
pub record IsWorkingAt (s : Setting) (c : Curves) (slot nodes : ℕ) : Type 0 where
  pub shape : IsShaped s c
  pub front : IsFrontTo s (counts_of c) slot nodes
  pub no_origins : OriginsWithoutOutsAreEmpty s (counts_of c)
  pub carried : AreCarried s (counts_of c) slot nodes

-- there is room for the inputs of each node
abbrev pub HasRoom : Setting → ℕ → Type 0
HasRoom s room = (u : ℕ) → u < s.nodes → width (shape_at s u) ≤ room
