-- The rows that are kept of pairs of node and slot.
use Rattle.std.specs.Prelude.{◌≡◌, ℕ, ◌<◌, ◌==◌, ◌&&◌, not, nat_le, nat_lt, List, ◌++◌, Bool, true, Option, Some, None, if◌then◌else◌}
use Rattle.ltm_inputs.specs.Setting.{Setting}
use Rattle.ltm_marks.specs.Marks.{is_marked}
use Rattle.ltm_rows.specs.declared.layout.Part.TheVariants.{Amounts, Weights}
use Rattle.ltm_rows.specs.declared.rows.KeptRows.{KeptRows}
use Rattle.ltm_rows.specs.Layouts.{nodes_in, width_in, row_in, LiesAs}

-- for how many nodes there are rows
abbrev pub nodes_kept : KeptRows → ℕ
nodes_kept k = nodes_in k.narrow

-- for how many slots there are rows
abbrev pub slots_kept : KeptRows → ℕ
slots_kept k = k.slots

-- for how many slots there is room
abbrev pub row_room : KeptRows → ℕ
row_room k = k.room

-- how many amounts a row of the node has
abbrev pub amounts_width : KeptRows → ℕ → ℕ
amounts_width k u = width_in k.narrow u

-- how many weights a row of the node has
abbrev pub weights_width : KeptRows → ℕ → ℕ
weights_width k u = width_in k.wide u

-- the amounts in the place of a pair
unfoldable pub amounts_of : KeptRows → ℕ → ℕ → List ℕ
amounts_of k u t = row_in k.narrow k.amounts.items u t

-- the weights in the place of a pair
unfoldable pub weights_of : KeptRows → ℕ → ℕ → List ℕ
weights_of k u t = row_in k.wide k.weights.items u t

-- the row in the place of a pair
abbrev pub row_of : KeptRows → ℕ → ℕ → List ℕ
row_of k u t = amounts_of k u t ++ weights_of k u t

-- whether a row was put there
abbrev pub has_row : KeptRows → ℕ → ℕ → Bool
has_row k u t = is_marked k.there u t

-- whether a pair is weighed: its weights are marked as those of the setting
abbrev pub is_weighed : KeptRows → ℕ → ℕ → Bool
is_weighed k u t = is_marked k.weighed u t

-- the row of a pair, if one was put there
abbrev pub kept_row : KeptRows → ℕ → ℕ → Option (List ℕ)
kept_row k u t = if has_row k u t then Some (row_of k u t) else None

-- rows of each node for so many slots, as wide as the amounts and the weights of its inputs
pub record HasRows (s : Setting) (slots : ℕ) (k : KeptRows) : Type 0 where
  pub amounts : LiesAs s Amounts k.narrow
  pub weights : LiesAs s Weights k.wide
  pub same_slots : slots_kept k ≡ slots

-- rows lie where they lay
pub record SamePlaces (old new : KeptRows) : Type 0 where
  pub narrow : new.narrow ≡ old.narrow
  pub wide : new.wide ≡ old.wide

-- every row stays, and none is put or weighed
pub record SameRows (old new : KeptRows) : Type 0 where
  pub places : SamePlaces old new
  pub amounts : (w v : ℕ) → w < nodes_kept old → v < slots_kept old → amounts_of new w v ≡ amounts_of old w v
  pub weights : (w v : ℕ) → w < nodes_kept old → v < slots_kept old → weights_of new w v ≡ weights_of old w v
  pub there : (w v : ℕ) → has_row new w v ≡ has_row old w v
  pub weighed : (w v : ℕ) → is_weighed new w v ≡ is_weighed old w v

-- the amounts of one pair are written in their place, and nothing else changes
pub record PutsAmounts (old new : KeptRows) (u t : ℕ) (amounts : List ℕ) : Type 0 where
  pub places : SamePlaces old new
  pub slots : new.slots ≡ old.slots
  pub here : amounts_of new u t ≡ amounts
  pub others : (w v : ℕ) → w < nodes_kept old → v < slots_kept old → (u ≡ w → t ≡ v → ⊥) → amounts_of new w v ≡ amounts_of old w v
  pub weights : new.weights ≡ old.weights
  pub there : new.there ≡ old.there
  pub weighed : new.weighed ≡ old.weighed

-- the weights of one pair are written in their place, and nothing else changes
pub record PutsWeights (old new : KeptRows) (u t : ℕ) (weights : List ℕ) : Type 0 where
  pub places : SamePlaces old new
  pub slots : new.slots ≡ old.slots
  pub here : weights_of new u t ≡ weights
  pub others : (w v : ℕ) → w < nodes_kept old → v < slots_kept old → (u ≡ w → t ≡ v → ⊥) → weights_of new w v ≡ weights_of old w v
  pub amounts : new.amounts ≡ old.amounts
  pub there : new.there ≡ old.there
  pub weighed : new.weighed ≡ old.weighed

-- one row is put in its place and weighed, and no other changes
pub record PutsRow (old new : KeptRows) (u t : ℕ) (row : List ℕ) : Type 0 where
  pub places : SamePlaces old new
  pub slots : new.slots ≡ old.slots
  pub here : row_of new u t ≡ row
  pub there : has_row new u t ≡ true
  pub weighed : is_weighed new u t ≡ true
  pub others_amounts : (w v : ℕ) → w < nodes_kept old → v < slots_kept old → (u ≡ w → t ≡ v → ⊥) → amounts_of new w v ≡ amounts_of old w v
  pub others_weights : (w v : ℕ) → w < nodes_kept old → v < slots_kept old → (u ≡ w → t ≡ v → ⊥) → weights_of new w v ≡ weights_of old w v
  pub others_there : (w v : ℕ) → w < nodes_kept old → v < slots_kept old → (u ≡ w → t ≡ v → ⊥) → has_row new w v ≡ has_row old w v
  pub others_weighed : (w v : ℕ) → w < nodes_kept old → v < slots_kept old → (u ≡ w → t ≡ v → ⊥) → is_weighed new w v ≡ is_weighed old w v

-- the row of one pair is there no more, if there is such a pair, and no other changes; weights stay
pub record ForgetsRow (old new : KeptRows) (u t : ℕ) : Type 0 where
  pub places : SamePlaces old new
  pub slots : new.slots ≡ old.slots
  pub gone : u < nodes_kept old → t < slots_kept old → kept_row new u t ≡ None
  pub others : (w v : ℕ) → w < nodes_kept old → v < slots_kept old → (u ≡ w → t ≡ v → ⊥) → kept_row new w v ≡ kept_row old w v
  pub weights : (w v : ℕ) → w < nodes_kept old → v < slots_kept old → weights_of new w v ≡ weights_of old w v
  pub weighed : (w v : ℕ) → is_weighed new w v ≡ is_weighed old w v

-- the pairs of a node in some slots, the last not included
abbrev pub in_slots : ℕ → ℕ → ℕ → ℕ → ℕ → Bool
in_slots u from to w v = (u == w) && (nat_le from v && nat_lt v to)

-- the pairs of a node in some slots, the last not included, are weighed no more; no row changes
pub record Unweighs (old new : KeptRows) (u from to : ℕ) : Type 0 where
  pub places : SamePlaces old new
  pub slots : new.slots ≡ old.slots
  pub room : row_room new ≡ row_room old
  pub amounts : (w v : ℕ) → amounts_of new w v ≡ amounts_of old w v
  pub weights : (w v : ℕ) → weights_of new w v ≡ weights_of old w v
  pub there : (w v : ℕ) → has_row new w v ≡ has_row old w v
  pub weighed : (w v : ℕ) → w < nodes_kept old → v < slots_kept old → is_weighed new w v ≡ (is_weighed old w v && not (in_slots u from to w v))

-- these weights are written in the place of one pair, which is weighed, and no others change
pub record Weighs (old new : KeptRows) (u t : ℕ) (weights : List ℕ) : Type 0 where
  pub places : SamePlaces old new
  pub slots : new.slots ≡ old.slots
  pub here : weights_of new u t ≡ weights
  pub weighed : is_weighed new u t ≡ true
  pub others_weights : (w v : ℕ) → w < nodes_kept old → v < slots_kept old → (u ≡ w → t ≡ v → ⊥) → weights_of new w v ≡ weights_of old w v
  pub others_weighed : (w v : ℕ) → w < nodes_kept old → v < slots_kept old → (u ≡ w → t ≡ v → ⊥) → is_weighed new w v ≡ is_weighed old w v
  pub amounts : (w v : ℕ) → amounts_of new w v ≡ amounts_of old w v
  pub there : (w v : ℕ) → has_row new w v ≡ has_row old w v
