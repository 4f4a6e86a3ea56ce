-- A slot of all nodes, node by node.
use Rattle.std.proofs.Common.{◌≡◌, ℕ, ◌+◌, ◌<◌, ◌≤◌, List, None, length, slice_index_or, slice_set, arith, refl, sym, ap, subst, ◌∙◌, inl, inr, get_or-set_same, get_or-set_other}
use Rattle.std.proofs.lemmas.Bool.{cases_eq}
use Rattle.std.proofs.lemmas.List.{length-set}
use Rattle.ltm_units.specs.declared.places.NodeId.{NodeId}
use Rattle.ltm_curve.specs.Counts.{Counts}
use Rattle.ltm_loading.specs.Setting.{Setting}
use Rattle.ltm_loading.specs.Loading.{IsLoading}
use Rattle.ltm_node.specs.Shape.{width, counts_width}
use Rattle.ltm_used.specs.declared.used.Used.{Used}
use Rattle.ltm_used.specs.Lists.{list_of}
use Rattle.ltm_lean_node.specs.Rows.{listed_shape}
use Rattle.ltm_lean.specs.declared.node.LeanNode.{LeanNode}
use Rattle.ltm_lean.specs.declared.room.NodeRoom.{NodeRoom}
use Rattle.ltm_lean.specs.declared.tables.Tables.{Tables}
use Rattle.ltm_lean.specs.Nodes.{IsNodeAt, StandsAtNode, MovedAtNode}
use Rattle.ltm_lean.specs.Rooms.{HasRoomFor, SameRoom}
use Rattle.ltm_lean_kept.specs.Kept.{AreNodes}
use Rattle.ltm_lean_load.specs.Nodes.{HasRoomForAll}

pub same_room_none : (room : NodeRoom) → SameRoom room room
same_room_none room = record { takes = refl; row = refl; inputs = refl; outputs = refl }

pub same_room_more : (a b c : NodeRoom) → SameRoom a b → SameRoom b c → SameRoom a c
same_room_more a b c f g = record { takes = g.takes ∙ f.takes; row = g.row ∙ f.row; inputs = g.inputs ∙ f.inputs; outputs = g.outputs ∙ f.outputs }

pub room_for : (s : Setting) (x : Tables) (u : ℕ) (old new : NodeRoom) → SameRoom old new → HasRoomFor s x u old → HasRoomFor s x u new
room_for s x u old new same h = record {
  takes = omega (arith, h.takes, same.takes);
  row = omega (arith, h.row, same.row);
  inputs = omega (arith, h.inputs, same.inputs);
  outputs = omega (arith, h.outputs, same.outputs);
}

-- and at tables with the same lists
pub room_at : (s : Setting) (x y : Tables) (old new : NodeRoom) → y.nodes ≡ x.nodes → SameRoom old new → HasRoomForAll s x old → HasRoomForAll s y new
room_at s x y old new lists same h u l =
    let here : HasRoomFor s x u new = room_for s x u old new same (h u l) in
    record {
      takes = here.takes;
      row = subst (λ (q : Used). width (listed_shape s u (length (list_of q u)) None) ≤ length new.row.items) (sym lists) here.row;
      inputs = subst (λ (q : Used). width (listed_shape s u (length (list_of q u)) None) ≤ new.inputs.room) (sym lists) here.inputs;
      outputs = subst (λ (q : Used). counts_width (listed_shape s u (length (list_of q u)) None) ≤ new.outputs.room) (sym lists) here.outputs;
    }

-- the first n nodes have moved
pub record MovedTo (s : Setting) (x : Tables) (t n : ℕ) (old now : List LeanNode) : Type 0 where
  pub nodes : AreNodes s x now
  pub later : (u : ℕ) (d : LeanNode) → n ≤ u → slice_index_or now u d ≡ slice_index_or old u d
  pub stands : (c : Counts) → IsLoading s c → (u : ℕ) (d : LeanNode) → u < n → StandsAtNode s c x t (t + 1) (slice_index_or now u d)
  pub moved : (c : Counts) → IsLoading s c → (u : ℕ) (d : LeanNode) → u < n → MovedAtNode s c x t (slice_index_or now u d)

pub moved_none : (s : Setting) (x : Tables) (t : ℕ) (nodes : List LeanNode) → AreNodes s x nodes → MovedTo s x t 0 nodes nodes
moved_none s x t nodes h = record {
  nodes = h;
  later = λ u d l. refl;
  stands = λ c load u d l. absurd (omega (arith, l));
  moved = λ c load u d l. absurd (omega (arith, l));
}

-- a node that is put in the place of one that is the same
pub put_node : (s : Setting) (x : Tables) (n : ℕ) (now : List LeanNode) (y z : LeanNode) → AreNodes s x now → n < length now → ((d : LeanNode) → y ≡ slice_index_or now n d) → IsNodeAt s x z → z.node ≡ y.node → AreNodes s x (slice_set now n z)
put_node s x n now y z h l is node same = record {
  count = length-set now n z ∙ h.count;
  each = λ u d m. elim (cases_eq u n) [
    | inl e ↦ subst (IsNodeAt s x) (sym (ap (λ (q : ℕ). slice_index_or (slice_set now n z) q d) e ∙ get_or-set_same now n z d l)) node
    | inr other ↦ subst (IsNodeAt s x) (sym (get_or-set_other now n u z d other)) (h.each u d m)
  ];
  number = λ u d m. elim (cases_eq u n) [
    | inl e ↦
        let here : slice_index_or (slice_set now n z) u d ≡ z = ap (λ (q : ℕ). slice_index_or (slice_set now n z) q d) e ∙ get_or-set_same now n z d l in
        ap (λ (q : LeanNode). q.node.0) here
        ∙ (ap (λ (q : NodeId). q.0) same ∙ (ap (λ (q : LeanNode). q.node.0) (is d) ∙ (ap (λ (q : ℕ). (slice_index_or now q d).node.0) (sym e) ∙ h.number u d m)))
    | inr other ↦ ap (λ (q : LeanNode). q.node.0) (get_or-set_other now n u z d other) ∙ h.number u d m
  ];
}

pub moved_more : (s : Setting) (x : Tables) (t n : ℕ) (old now : List LeanNode) (y z : LeanNode) → MovedTo s x t n old now → n < length now → ((d : LeanNode) → y ≡ slice_index_or now n d) → IsNodeAt s x z → z.node ≡ y.node
    → ((c : Counts) → IsLoading s c → StandsAtNode s c x t (t + 1) z) → ((c : Counts) → IsLoading s c → MovedAtNode s c x t z) → MovedTo s x t (n + 1) old (slice_set now n z)
moved_more s x t n old now y z h l is node same stands moved = record {
  nodes = put_node s x n now y z h.nodes l is node same;
  later = λ u d m. get_or-set_other now n u z d (λ e. omega (arith, e, m)) ∙ h.later u d (omega (arith, m));
  stands = λ c load u d m. elim (cases_eq u n) [
    | inl e ↦ subst (StandsAtNode s c x t (t + 1)) (sym (ap (λ (q : ℕ). slice_index_or (slice_set now n z) q d) e ∙ get_or-set_same now n z d l)) (stands c load)
    | inr other ↦ subst (StandsAtNode s c x t (t + 1)) (sym (get_or-set_other now n u z d other)) (h.stands c load u d (omega (arith, m, other)))
  ];
  moved = λ c load u d m. elim (cases_eq u n) [
    | inl e ↦ subst (MovedAtNode s c x t) (sym (ap (λ (q : ℕ). slice_index_or (slice_set now n z) q d) e ∙ get_or-set_same now n z d l)) (moved c load)
    | inr other ↦ subst (MovedAtNode s c x t) (sym (get_or-set_other now n u z d other)) (h.moved c load u d (omega (arith, m, other)))
  ];
}
