-- The lists of the index: for each link and boundary the slots that read there.
use Rattle.std.specs.Prelude.{◌≡◌, ◌≢◌, ◌↔◌, ℕ, ◌<◌, ◌≤◌, List, [], ◌∷◌, Option, Some, None, Contains}
use Rattle.ltm_index.specs.declared.read_index.ReadIndex.{ReadIndex}
use Rattle.ltm_index.specs.Chains.{times, without, pointed_at}
use Rattle.ltm_index.specs.Cells.{list_at, entry_at}

-- how many links there are
abbrev pub links_listed : ReadIndex → ℕ
links_listed x = x.cells.links

-- the horizon: how many slots there are; there is one boundary more
abbrev pub slots_listed : ReadIndex → ℕ
slots_listed x = x.slots

-- the greatest horizon that fits
abbrev pub index_room : ReadIndex → ℕ
index_room x = x.cells.room

-- the slots in the list of a link and a boundary, in order
unfoldable pub list_of : ReadIndex → ℕ → ℕ → List ℕ
list_of x l k = list_at x.cells l k

-- the boundary in whose list a slot stands, if it stands in one
unfoldable pub entry_of : ReadIndex → ℕ → ℕ → Option ℕ
entry_of x l v = pointed_at (entry_at x.cells l v)

-- ---- what calls change
-- links, horizon and room stay
pub record SameSize (old new : ReadIndex) : Type 0 where
  pub links : links_listed new ≡ links_listed old
  pub slots : slots_listed new ≡ slots_listed old
  pub room : index_room new ≡ index_room old

-- a slot is taken out of the list of the link in which it stands, and put first in that of a boundary
pub record Places (old new : ReadIndex) (l v k : ℕ) : Type 0 where
  pub size : SameSize old new
  pub list : list_of new l k ≡ v ∷ without v (list_of old l k)
  pub other_lists : (j : ℕ) → j ≢ k → list_of new l j ≡ without v (list_of old l j)
  pub other_links : (m j : ℕ) → m < links_listed old → m ≢ l → list_of new m j ≡ list_of old m j
  pub entry : entry_of new l v ≡ Some k
  pub other_entries : (m w : ℕ) → m < links_listed old → (m ≡ l → w ≡ v → ⊥) → entry_of new m w ≡ entry_of old m w

-- every list and every entry stays
pub record SameLists (old new : ReadIndex) : Type 0 where
  pub links : links_listed new ≡ links_listed old
  pub lists : (l k : ℕ) → l < links_listed old → list_of new l k ≡ list_of old l k
  pub entries : (l v : ℕ) → l < links_listed old → entry_of new l v ≡ entry_of old l v

-- no slot from one on stands in a list, and the lists of the boundaries past it are empty
pub record IsEmptyFrom (x : ReadIndex) (slot : ℕ) : Type 0 where
  pub lists : (l k : ℕ) → l < links_listed x → slot < k → list_of x l k ≡ []
  pub entries : (l v : ℕ) → l < links_listed x → slot ≤ v → entry_of x l v ≡ None

-- every list is empty
pub record IsEmpty (x : ReadIndex) : Type 0 where
  pub lists : (l k : ℕ) → l < links_listed x → list_of x l k ≡ []
  pub entries : (l v : ℕ) → l < links_listed x → entry_of x l v ≡ None

-- ---- what holds of every index
-- a slot stands in the list of a boundary exactly where that is its entry
abbrev pub StandsByEntry : ReadIndex → Type 0
StandsByEntry x = (l k v : ℕ) → l < links_listed x → Contains (list_of x l k) v ↔ (entry_of x l v ≡ Some k)

-- it stands there at most once
abbrev pub StandsOnce : ReadIndex → Type 0
StandsOnce x = (l k v : ℕ) → l < links_listed x → times v (list_of x l k) ≤ 1

-- a list without a slot that has another entry, or none, is that list
abbrev pub StaysWithout : ReadIndex → Type 0
StaysWithout x = (l k v : ℕ) → l < links_listed x → entry_of x l v ≢ Some k → without v (list_of x l k) ≡ list_of x l k

-- slots and boundaries of the lists lie within the horizon
abbrev pub WithinHorizon : ReadIndex → Type 0
WithinHorizon x = (l k v : ℕ) → l < links_listed x → entry_of x l v ≡ Some k → (v < slots_listed x) × (k ≤ slots_listed x)
