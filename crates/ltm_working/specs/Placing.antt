-- The positions of pairs are placed in the index, and their inputs are kept.
use Rattle.std.specs.Prelude.{◌≡◌, ℕ, ◌<◌, ◌≤◌, Some, true, replicate}
use Rattle.ltm_curve.specs.Counts.{Counts}
use Rattle.ltm_loading.specs.Setting.{Setting}
use Rattle.ltm_loading.specs.Flows.{position}
use Rattle.ltm_loading.specs.Pairs.{pair_row}
use Rattle.ltm_index.specs.declared.read_index.ReadIndex.{ReadIndex}
use Rattle.ltm_index.specs.Lists.{links_listed, entry_of, SameSize}
use Rattle.ltm_rows.specs.declared.rows.KeptRows.{KeptRows}
use Rattle.ltm_rows.specs.Rows.{amounts_width, amounts_of, is_weighed, kept_row, HasRows}
use Rattle.ltm_working.specs.Desks.{row_without_counts}
use Rattle.ltm_working.specs.Ready.{HasLists, WeightsAreCurrent}

-- the slot stands in the list of its position of each of the first in-links of a node
abbrev pub StandsAt : Setting → Counts → ReadIndex → ℕ → ℕ → ℕ → Type 0
StandsAt s c x u t places = (i : ℕ) → i < places → entry_of x (s.in_link u i) t ≡ Some (position s c (s.in_link u i) t)

-- a slot stands in the list of a boundary, and no other entry changes
pub record PlacesAt (old new : ReadIndex) (l v k : ℕ) : Type 0 where
  pub size : SameSize old new
  pub entry : entry_of new l v ≡ Some k
  pub other_entries : (m w : ℕ) → m < links_listed old → (m ≡ l → w ≡ v → ⊥) → entry_of new m w ≡ entry_of old m w

-- the positions of a pair are placed for the first in-links of its node, and no other entry changes
pub record PlacesPair (s : Setting) (c : Counts) (old new : ReadIndex) (u t places : ℕ) : Type 0 where
  pub lists : HasLists s new
  pub placed : StandsAt s c new u t places
  pub others : (l v : ℕ) → l < s.links → ((i : ℕ) → i < places → s.in_link u i ≡ l → v ≡ t → ⊥) → entry_of new l v ≡ entry_of old l v

-- the inputs of a pair are kept but for its counts, with weights that need not be read again, and its positions are placed
pub record KeepsPair (s : Setting) (c : Counts) (k : KeptRows) (x : ReadIndex) (u t : ℕ) : Type 0 where
  pub row : kept_row k u t ≡ Some (row_without_counts s u (pair_row s c u t))
  pub weighed : is_weighed k u t ≡ true
  pub placed : StandsAt s c x u t (s.ins u)

-- zeros stand in the place of a pair's amounts
abbrev pub HasZeros : KeptRows → ℕ → ℕ → Type 0
HasZeros k u t = amounts_of k u t ≡ replicate (amounts_width k u) 0

-- so it is with all pairs of earlier slots, and with the first nodes of this one; of the others no amounts were put
pub record KeepsSlots (s : Setting) (c : Counts) (k : KeptRows) (x : ReadIndex) (slot nodes : ℕ) : Type 0 where
  pub rows : HasRows s s.slots k
  pub lists : HasLists s x
  pub weights : WeightsAreCurrent s k
  pub earlier : (w v : ℕ) → w < s.nodes → v < slot → KeepsPair s c k x w v
  pub here : (w : ℕ) → w < nodes → KeepsPair s c k x w slot
  pub rest : (w : ℕ) → nodes ≤ w → w < s.nodes → slot < s.slots → HasZeros k w slot
  pub later : (w v : ℕ) → w < s.nodes → slot < v → v < s.slots → HasZeros k w v
