-- What stands before the first slot.
use Rattle.std.specs.Prelude.{◌≡◌, ℕ, ◌<◌, slice_index_or}
use Rattle.ltm_curve.specs.Counts.{Counts}
use Rattle.ltm_loading.specs.Setting.{Setting}
use Rattle.ltm_loading.specs.Loading.{IsLoading}
use Rattle.ltm_lean.specs.declared.incoming.Incoming.{Incoming}
use Rattle.ltm_lean.specs.declared.outgoing.Outgoing.{Outgoing}
use Rattle.ltm_lean.specs.declared.tables.Tables.{Tables}
use Rattle.ltm_lean.specs.declared.node.LeanNode.{LeanNode}
use Rattle.ltm_lean.specs.Nodes.{StandsAtNode}

-- in every loading this stands at the node before the first slot
abbrev pub StandsFirst : Setting → Tables → LeanNode → Type 0
StandsFirst s x n = (c : Counts) → IsLoading s c → StandsAtNode s c x 0 0 n

-- nothing has moved at a node
pub record IsStill (s : Setting) (n : LeanNode) : Type 0 where
  pub gone : (i : ℕ) (d : Incoming) → i < s.ins n.node.0 → (slice_index_or n.ins.items i d).gone ≡ 0
  pub came : (j : ℕ) (d : Outgoing) → j < s.outs n.node.0 → (slice_index_or n.outs.items j d).mail.came ≡ 0
