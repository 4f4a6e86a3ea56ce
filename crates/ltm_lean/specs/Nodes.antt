-- What all nodes read in a slot, and what stands at a node.
use Rattle.std.specs.Prelude.{◌≡◌, ℕ, ◌+◌, ◌*◌, ◌<◌, List, length, slice_index, slice_index_or}
use Rattle.ltm_curve.specs.Counts.{Counts, total}
use Rattle.ltm_node.specs.Shape.{is_this}
use Rattle.ltm_loading.specs.Setting.{Setting}
use Rattle.ltm_loading.specs.Flows.{link_sending}
use Rattle.ltm_loading.specs.Groups.{up_of, down_of}
use Rattle.ltm_loading.specs.Loading.{IsLoading}
use Rattle.ltm_standing.specs.Listed.{Ascends, IsListed, Stands, HasEntered}
use Rattle.ltm_node.specs.Outputs.{Outputs}
use Rattle.ltm_thin.specs.NodeLists.{IsNodeList, MovesInLoading}
use Rattle.ltm_totals.specs.Totals.{total_links, total_slots, AreTotals}
use Rattle.ltm_used.specs.Lists.{links_of, list_of}
use Rattle.ltm_origin.specs.Waiting.{HasLeft}
use Rattle.ltm_lean_node.specs.Kept.{AreKept}
use Rattle.ltm_lean_link.specs.Moved.{HasCome}
use Rattle.ltm_lean.specs.declared.mail.Mail.{Mail}
use Rattle.ltm_lean.specs.declared.incoming.Incoming.{Incoming}
use Rattle.ltm_lean.specs.declared.outgoing.Outgoing.{Outgoing}
use Rattle.ltm_lean.specs.declared.tables.Tables.{Tables}
use Rattle.ltm_lean.specs.declared.node.LeanNode.{LeanNode}
use Rattle.ltm_lean.specs.Ends.{mail_width, IsIncoming, IsOutgoing}

-- the lists, totals and mails of a setting: a list for each link and each node, a total for each link and boundary, and a mail
-- for each link
pub record AreTables (s : Setting) (x : Tables) : Type 0 where
  pub link_lists : links_of x.links ≡ s.links
  pub link_order : (l : ℕ) → l < s.links → Ascends 0 s.destinations (list_of x.links l)
  pub link_listed : (c : Counts) (l : ℕ) → IsLoading s c → l < s.links → IsListed s c l (list_of x.links l)
  pub node_lists : links_of x.nodes ≡ s.nodes
  pub node_order : (u : ℕ) → u < s.nodes → Ascends 0 s.destinations (list_of x.nodes u)
  pub node_listed : (c : Counts) (u : ℕ) → IsLoading s c → u < s.nodes → IsNodeList s c u (list_of x.nodes u)
  pub entered_links : total_links x.entered ≡ s.links
  pub entered_slots : total_slots x.entered ≡ s.slots
  pub left_links : total_links x.left ≡ s.links
  pub left_slots : total_slots x.left ≡ s.slots
  pub mail_count : length x.mails.items ≡ s.links
  pub mail_wide : (l : ℕ) (d : Mail) → l < s.links → mail_width (slice_index_or x.mails.items l d) ≡ length (list_of x.links l)

-- they are those of these counts at the beginning of a slot: all totals up to it, and what entered in the slot before
pub record IsFrozen (s : Setting) (c : Counts) (t : ℕ) (x : Tables) : Type 0 where
  pub up : AreTotals s c up_of t x.entered
  pub down : AreTotals s c down_of t x.left
  pub came : (l : ℕ) (d : Mail) → l < s.links → HasCome s c l (list_of x.links l) t (slice_index_or x.mails.items l d).came (slice_index_or x.mails.items l d).numbers.items

-- the links into a node
pub record AreIncoming (s : Setting) (x : Tables) (u : ℕ) (ins : List Incoming) : Type 0 where
  pub count : length ins ≡ s.ins u
  pub each : (i : ℕ) (d : Incoming) → i < s.ins u → IsIncoming (s.in_link u i) (list_of x.links (s.in_link u i)) (list_of x.nodes u) (slice_index_or ins i d)

-- the links out of a node
pub record AreOutgoing (s : Setting) (x : Tables) (u : ℕ) (outs : List Outgoing) : Type 0 where
  pub count : length outs ≡ s.outs u
  pub each : (j : ℕ) (d : Outgoing) → j < s.outs u → IsOutgoing (s.out_link u j) (list_of x.links (s.out_link u j)) (list_of x.nodes u) (slice_index_or outs j d)

-- what stands on them at boundary t, where all that entered before boundary k is taken in
abbrev pub StandAt : Setting → Counts → Tables → ℕ → ℕ → ℕ → List Incoming → Type 0
StandAt s c x u k t ins = (i : ℕ) (d : Incoming) → i < s.ins u → Stands c (s.in_link u i) (list_of x.links (s.in_link u i)) k t (slice_index_or ins i d).standing

-- a row begins with what they send in a slot
abbrev pub LinksSend : Setting → Counts → Tables → ℕ → ℕ → List ℕ → Type 0
LinksSend s c x u t row = (i k : ℕ) → i < s.ins u → k < length (list_of x.nodes u) → slice_index row (i * length (list_of x.nodes u) + k) ≡ link_sending s c (s.in_link u i) t (slice_index (list_of x.nodes u) k)

-- a node: its number, its place in its list, the links into it and out of it, what has left its origin, and its weights
pub record IsNodeAt (s : Setting) (x : Tables) (n : LeanNode) : Type 0 where
  pub there : n.node.0 < s.nodes
  pub own_place : (k : ℕ) → k < length (list_of x.nodes n.node.0) → is_this n.own k ≡ is_this (s.own n.node.0) (slice_index (list_of x.nodes n.node.0) k)
  pub gone_wide : length n.gone.items ≡ length (list_of x.nodes n.node.0)
  pub incoming : AreIncoming s x n.node.0 n.ins.items
  pub outgoing : AreOutgoing s x n.node.0 n.outs.items
  pub weights : AreKept s n.node.0 (list_of x.nodes n.node.0) n.kept

-- what stands at a node of these counts
pub record StandsAtNode (s : Setting) (c : Counts) (x : Tables) (k t : ℕ) (n : LeanNode) : Type 0 where
  pub links : StandAt s c x n.node.0 k t n.ins.items
  pub origin : 0 < s.outs n.node.0 → HasLeft s c n.node.0 t (list_of x.nodes n.node.0) n.left n.gone.items

-- what moved there in a slot: in all what left each link into it, and what entered each link out of it
pub record MovedAtNode (s : Setting) (c : Counts) (x : Tables) (t : ℕ) (n : LeanNode) : Type 0 where
  pub gone : (i : ℕ) (d : Incoming) → i < s.ins n.node.0 →
      total s.destinations (c (down_of (s.in_link n.node.0 i))) (t + 1) ≡ total s.destinations (c (down_of (s.in_link n.node.0 i))) t + (slice_index_or n.ins.items i d).gone
  pub came : (j : ℕ) (d : Outgoing) → j < s.outs n.node.0 →
      HasEntered s c (s.out_link n.node.0 j) (list_of x.links (s.out_link n.node.0 j)) t (slice_index_or n.outs.items j d).mail.came (slice_index_or n.outs.items j d).mail.numbers.items

-- this moves at a node in a slot of a loading, told over its list
pub record IsMoving (s : Setting) (c : Counts) (x : Tables) (u t : ℕ) (o : Outputs) : Type 0 where
  pub tables : AreTables s x
  pub there : u < s.nodes
  pub in_time : t < s.slots
  pub loading : IsLoading s c
  pub wide : o.shape.destinations ≡ length (list_of x.nodes u)
  pub moves : MovesInLoading s c u t (list_of x.nodes u) o

-- the same node with the same lists; what stands there may differ
pub record SameNode (old new : LeanNode) : Type 0 where
  pub node : new.node ≡ old.node
  pub own : new.own ≡ old.own
  pub outs : new.outs.items ≡ old.outs.items
  pub left : new.left ≡ old.left
  pub gone : new.gone.items ≡ old.gone.items
  pub kept : new.kept ≡ old.kept

-- the same node, whose weights may have been looked up anew
pub record SameButWeights (old new : LeanNode) : Type 0 where
  pub node : new.node ≡ old.node
  pub own : new.own ≡ old.own
  pub ins : new.ins.items ≡ old.ins.items
  pub outs : new.outs.items ≡ old.outs.items
  pub left : new.left ≡ old.left
  pub gone : new.gone.items ≡ old.gone.items
