-- A slot of nodes that follow one another, node by node.
use Rattle.std.proofs.Common.{◌≡◌, ℕ, zero, suc, ◌+◌, ◌<◌, ◌≤◌, List, [], ◌∷◌, ◌++◌, None, All, map, length, slice_index_or, slice_set, arith, refl, sym, ap, ap₂, subst, ◌∙◌, inl, inr, get_or-set_same, get_or-set_other}
use Rattle.std.proofs.lemmas.Bool.{cases_eq}
use Rattle.std.proofs.lemmas.List.{length-set, length-map, length-append, map-append, get_or-map}
use Rattle.std.proofs.lemmas.List.Elements.{All-set, All-append, All-push, All-same}
use Rattle.ltm_loading.specs.Setting.{Setting}
use Rattle.ltm_node.specs.Shape.{width, counts_width}
use Rattle.ltm_used.specs.declared.used.Used.{Used}
use Rattle.ltm_used.specs.Lists.{list_of}
use Rattle.ltm_lean_node.specs.Rows.{listed_shape}
use Rattle.ltm_lean.specs.declared.node.LeanNode.{LeanNode}
use Rattle.ltm_lean.specs.declared.room.NodeRoom.{NodeRoom}
use Rattle.ltm_lean.specs.declared.tables.Tables.{Tables}
use Rattle.ltm_lean.specs.Nodes.{IsNodeAt}
use Rattle.ltm_lean_kept.specs.Kept.{AreNodes}
use Rattle.ltm_lean.specs.Rooms.{HasRoomFor, SameRoom}
use Rattle.ltm_lean_load.specs.Nodes.{HasRoomForAll}
use Rattle.ltm_lean_threads.specs.declared.parts.Part.{Part}
use Rattle.ltm_lean_threads.specs.Runs.{AreSame, CanMove, HasMoved, HasRoom, number_of}

-- room for all nodes is so with other numbers in it
pub room_again : (s : Setting) (x : Tables) (old new : NodeRoom) → SameRoom old new → HasRoomForAll s x old → HasRoomForAll s x new
room_again s x old new same h u l =
    let here : HasRoomFor s x u old = h u l in
    record {
      takes = omega (arith, here.takes, same.takes);
      row = omega (arith, here.row, same.row);
      inputs = omega (arith, here.inputs, same.inputs);
      outputs = omega (arith, here.outputs, same.outputs);
    }

-- the numbers stay where a node is put in the place of one with the same number
pub numbers_set : (xs : List LeanNode) (k : ℕ) (z : LeanNode) → k < length xs → ((d : LeanNode) → number_of z ≡ number_of (slice_index_or xs k d)) → map number_of (slice_set xs k z) ≡ map number_of xs
numbers_set [] k z l h = absurd (omega (arith, l))
numbers_set (x ∷ xs) zero z l h = ap (λ (n : ℕ). n ∷ map number_of xs) (h x)
numbers_set (x ∷ xs) (suc k) z l h = ap (λ (ns : List ℕ). number_of x ∷ ns) (numbers_set xs k z (omega (arith, l)) h)

-- the first k have moved
pub record MovedTo (s : Setting) (x : Tables) (t k : ℕ) (old now : List LeanNode) : Type 0 where
  pub nodes : All (IsNodeAt s x) now
  pub numbers : map number_of now ≡ map number_of old
  pub long : length now ≡ length old
  pub later : (i : ℕ) (d : LeanNode) → k ≤ i → slice_index_or now i d ≡ slice_index_or old i d
  pub moved : (i : ℕ) (d : LeanNode) → i < k → HasMoved s x t (slice_index_or now i d)

pub moved_none : (s : Setting) (x : Tables) (t : ℕ) (ns : List LeanNode) → All (CanMove s x t) ns → MovedTo s x t 0 ns ns
moved_none s x t ns h = record {
  nodes = λ i d l. (h i d l).node;
  numbers = refl;
  long = refl;
  later = λ i d l. refl;
  moved = λ i d l. absurd (omega (arith, l));
}

pub moved_more : (s : Setting) (x : Tables) (t k : ℕ) (old now : List LeanNode) (z : LeanNode) → MovedTo s x t k old now → k < length now
    → IsNodeAt s x z → ((d : LeanNode) → number_of z ≡ number_of (slice_index_or now k d)) → HasMoved s x t z → MovedTo s x t (k + 1) old (slice_set now k z)
moved_more s x t k old now z h l node same has = record {
  nodes = All-set (IsNodeAt s x) now k z node h.nodes;
  numbers = numbers_set now k z l same ∙ h.numbers;
  long = length-set now k z ∙ h.long;
  later = λ i d m. get_or-set_other now k i z d (λ e. omega (arith, e, m)) ∙ h.later i d (omega (arith, m));
  moved = λ i d m. elim (cases_eq i k) [
    | inl e ↦ subst (HasMoved s x t) (sym (ap (λ (q : ℕ). slice_index_or (slice_set now k z) q d) e ∙ get_or-set_same now k z d l)) has
    | inr other ↦ subst (HasMoved s x t) (sym (get_or-set_other now k i z d other)) (h.moved i d (omega (arith, m, other)))
  ];
}

-- parts and nodes that are the same in two runs are so together
pub join_same : (s : Setting) (x : Tables) (ps low high low_then high_then : List Part) (ns front back front_then back_then : List LeanNode) → ps ≡ low ++ high → ns ≡ front ++ back
    → AreSame s x low front low_then front_then → AreSame s x high back high_then back_then → AreSame s x ps ns (low_then ++ high_then) (front_then ++ back_then)
join_same s x ps low high low_then high_then ns front back front_then back_then p n a b = record {
  count = length-append low_then high_then ∙ (ap₂ ◌+◌ a.count b.count ∙ sym (ap length p ∙ length-append low high));
  rooms = All-append (HasRoom s x) low_then high_then a.rooms b.rooms;
  nodes = All-append (IsNodeAt s x) front_then back_then a.nodes b.nodes;
  numbers = map-append number_of front_then back_then ∙ (ap₂ ◌++◌ a.numbers b.numbers ∙ sym (ap (map number_of) n ∙ map-append number_of front back));
}

-- nodes with the numbers of a node for each number are so too
pub numbered : (s : Setting) (x : Tables) (old new : List LeanNode) → AreNodes s x old → All (IsNodeAt s x) new → map number_of new ≡ map number_of old → AreNodes s x new
numbered s x old new h is same =
    let long : length new ≡ length old = sym (length-map new number_of) ∙ (ap length same ∙ length-map old number_of) in
    record {
      count = long ∙ h.count;
      each = λ u d l. is u d (omega (arith, l, long, h.count));
      number = λ u d l.
          sym (get_or-map number_of new u d 0 (omega (arith, l, long, h.count)))
          ∙ (ap (λ (ks : List ℕ). slice_index_or ks u 0) same ∙ (get_or-map number_of old u d 0 (omega (arith, l, h.count)) ∙ h.number u d l));
    }

-- room at tables with the same lists
pub rooms_at : (s : Setting) (x y : Tables) (ps : List Part) → y.nodes ≡ x.nodes → All (HasRoom s x) ps → All (HasRoom s y) ps
rooms_at s x y ps lists h k d l u there =
    let here : HasRoomFor s x u (slice_index_or ps k d).room = h k d l u there in
    record {
      takes = here.takes;
      row = subst (λ (q : Used). width (listed_shape s u (length (list_of q u)) None) ≤ length (slice_index_or ps k d).room.row.items) (sym lists) here.row;
      inputs = subst (λ (q : Used). width (listed_shape s u (length (list_of q u)) None) ≤ (slice_index_or ps k d).room.inputs.room) (sym lists) here.inputs;
      outputs = subst (λ (q : Used). counts_width (listed_shape s u (length (list_of q u)) None) ≤ (slice_index_or ps k d).room.outputs.room) (sym lists) here.outputs;
    }

-- one more part, with room
pub filled_more : (s : Setting) (x : Tables) (n : ℕ) (ps new : List Part) (p : Part) → new ≡ ps ++ p ∷ [] → HasRoomForAll s x p.room → length ps ≡ n → All (HasRoom s x) ps → (length new ≡ n + 1) × All (HasRoom s x) new
filled_more s x n ps new p e r l h = (ap length e ∙ (length-append ps (p ∷ []) ∙ ap (λ (k : ℕ). k + 1) l), All-same (HasRoom s x) new (ps ++ p ∷ []) e (All-push (HasRoom s x) ps p h r))
