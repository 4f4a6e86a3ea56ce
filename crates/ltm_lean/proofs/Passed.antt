-- A node by which something has passed.
use Rattle.std.proofs.Common.{◌≡◌, ℕ, ◌+◌, ◌<◌, List, Option, length, slice_index, slice_index_or, sym, ap, subst, ◌∙◌}
use Rattle.ltm_units.specs.declared.places.NodeId.{NodeId}
use Rattle.ltm_curve.specs.Counts.{Counts, total}
use Rattle.ltm_node.specs.Shape.{is_this}
use Rattle.ltm_loading.specs.Setting.{Setting}
use Rattle.ltm_loading.specs.Groups.{down_of}
use Rattle.ltm_standing.specs.Listed.{HasEntered}
use Rattle.ltm_used.specs.Lists.{list_of}
use Rattle.ltm_origin.specs.Waiting.{HasLeft}
use Rattle.ltm_lean_node.specs.Kept.{AreKept}
use Rattle.ltm_lean.specs.declared.incoming.Incoming.{Incoming}
use Rattle.ltm_lean.specs.declared.node.LeanNode.{LeanNode}
use Rattle.ltm_lean.specs.declared.outgoing.Outgoing.{Outgoing}
use Rattle.ltm_lean.specs.declared.tables.Tables.{Tables}
use Rattle.ltm_lean.specs.Nodes.{AreIncoming, AreOutgoing, StandAt, IsNodeAt, StandsAtNode, MovedAtNode, SameButWeights}

-- the place of a node in its list
abbrev IsOwnPlace : Setting → Tables → NodeId → Option ℕ → Type 0
IsOwnPlace s x n own = (k : ℕ) → k < length (list_of x.nodes n.0) → is_this own k ≡ is_this (s.own n.0) (slice_index (list_of x.nodes n.0) k)

-- it is the same node with the same lists
pub passed_node : (s : Setting) (x : Tables) (old new : LeanNode) → new.node ≡ old.node → new.own ≡ old.own → length new.gone.items ≡ length old.gone.items → new.kept ≡ old.kept
    → AreIncoming s x old.node.0 new.ins.items → AreOutgoing s x old.node.0 new.outs.items → IsNodeAt s x old → IsNodeAt s x new
passed_node s x old new node own gone kept ins outs h = record {
  there = subst (λ (q : NodeId). q.0 < s.nodes) (sym node) h.there;
  own_place = subst (λ (q : NodeId). IsOwnPlace s x q new.own) (sym node) (subst (IsOwnPlace s x old.node) (sym own) h.own_place);
  gone_wide = gone ∙ (h.gone_wide ∙ ap (λ (q : NodeId). length (list_of x.nodes q.0)) (sym node));
  incoming = subst (λ (q : NodeId). AreIncoming s x q.0 new.ins.items) (sym node) ins;
  outgoing = subst (λ (q : NodeId). AreOutgoing s x q.0 new.outs.items) (sym node) outs;
  weights = subst (λ (q : NodeId). AreKept s q.0 (list_of x.nodes q.0) new.kept) (sym node) (subst (AreKept s old.node.0 (list_of x.nodes old.node.0)) (sym kept) h.weights);
}

pub passed_stands : (s : Setting) (c : Counts) (x : Tables) (k t : ℕ) (n : NodeId) (new : LeanNode) → new.node ≡ n → StandAt s c x n.0 k t new.ins.items → (0 < s.outs n.0 → HasLeft s c n.0 t (list_of x.nodes n.0) new.left new.gone.items)
    → StandsAtNode s c x k t new
passed_stands s c x k t n new node links origin = record {
  links = subst (λ (q : NodeId). StandAt s c x q.0 k t new.ins.items) (sym node) links;
  origin = subst (λ (q : NodeId). 0 < s.outs q.0 → HasLeft s c q.0 t (list_of x.nodes q.0) new.left new.gone.items) (sym node) origin;
}

-- the same stands at a node whose weights have been looked up anew
pub renewed_stands : (s : Setting) (c : Counts) (x : Tables) (k t : ℕ) (old new : LeanNode) → SameButWeights old new → StandsAtNode s c x k t old → StandsAtNode s c x k t new
renewed_stands s c x k t old new same h =
    let us : List ℕ = list_of x.nodes old.node.0 in
    passed_stands s c x k t old.node new same.node (subst (StandAt s c x old.node.0 k t) (sym same.ins) h.links)
    (λ some. subst (λ (q : ℕ). HasLeft s c old.node.0 t us q new.gone.items) (sym same.left) (subst (HasLeft s c old.node.0 t us old.left) (sym same.gone) (h.origin some)))

-- what left the links into a node, and what entered those out of it
abbrev pub HasLeftLinks : Setting → Counts → ℕ → ℕ → List Incoming → Type 0
HasLeftLinks s c u t ins = (i : ℕ) (d : Incoming) → i < s.ins u → total s.destinations (c (down_of (s.in_link u i))) (t + 1) ≡ total s.destinations (c (down_of (s.in_link u i))) t + (slice_index_or ins i d).gone

abbrev pub HasEnteredLinks : Setting → Counts → Tables → ℕ → ℕ → List Outgoing → Type 0
HasEnteredLinks s c x u t outs = (j : ℕ) (d : Outgoing) → j < s.outs u → HasEntered s c (s.out_link u j) (list_of x.links (s.out_link u j)) t (slice_index_or outs j d).mail.came (slice_index_or outs j d).mail.numbers.items

pub passed_moved : (s : Setting) (c : Counts) (x : Tables) (t : ℕ) (n : NodeId) (new : LeanNode) → new.node ≡ n → HasLeftLinks s c n.0 t new.ins.items → HasEnteredLinks s c x n.0 t new.outs.items → MovedAtNode s c x t new
passed_moved s c x t n new node gone came = record {
  gone = subst (λ (q : NodeId). HasLeftLinks s c q.0 t new.ins.items) (sym node) gone;
  came = subst (λ (q : NodeId). HasEnteredLinks s c x q.0 t new.outs.items) (sym node) came;
}
