-- The numbers that the index keeps of a link.
use Rattle.std.specs.Prelude.{◌≡◌, ℕ, ◌+◌, ◌*◌, ◌/◌, ◌%◌, ◌<◌, ◌≤◌, ◌==◌, ◌≢◌, cond, List, ◌∷◌, slice_index_or}
use Rattle.std.proofs.Common.{zero, suc}
use Rattle.ltm_index.specs.declared.cells.Cell.{Cell}
use Rattle.ltm_index.specs.declared.cells.Cells.{Cells}
use Rattle.std.specs.Coded.{Π_prop}
use Rattle.ltm_index.specs.Chains.{walk, times, without, IsChain, IsChain-prop}

-- nothing is named
abbrev pub empty_cell : Cell
empty_cell = record { first = 0; next = 0; previous = 0; entry = 0 }

-- where the numbers of a link for boundary k lie: in blocks of 16 boundaries, link after link
abbrev pub place_of : ℕ → ℕ → ℕ → ℕ
place_of links l k = (k / 16 * links + l) * 16 + k % 16

-- the numbers of a link for boundary k and for slot k; past the table they are 0
unfoldable pub cell_at : Cells → ℕ → ℕ → Cell
cell_at c l k = slice_index_or c.cells.items (place_of c.links l k) empty_cell

-- the first slot in the list of a boundary
abbrev pub first_at : Cells → ℕ → ℕ → ℕ
first_at c l k = (cell_at c l k).first

-- the slot that follows a slot in its list
abbrev pub next_at : Cells → ℕ → ℕ → ℕ
next_at c l v = (cell_at c l v).next

-- the slot before a slot in its list
abbrev pub previous_at : Cells → ℕ → ℕ → ℕ
previous_at c l v = (cell_at c l v).previous

-- the boundary in whose list a slot stands
abbrev pub entry_at : Cells → ℕ → ℕ → ℕ
entry_at c l v = (cell_at c l v).entry

-- where the list of a boundary leads on to from a pointer: from 0, which stands before the list, to its first slot
abbrev pub after_at : Cells → ℕ → ℕ → ℕ → ℕ
after_at c l k zero = first_at c l k
after_at c l k (suc v) = next_at c l v

-- the list of a link and a boundary
unfoldable pub list_at : Cells → ℕ → ℕ → List ℕ
list_at c l k = walk (after_at c l k) c.room (first_at c l k)

-- links and room stay
pub record SameShape (old new : Cells) : Type 0 where
  pub links : new.links ≡ old.links
  pub room : new.room ≡ old.room

-- the same links, and in every cell the same
pub record SameCells (old new : Cells) : Type 0 where
  pub links : new.links ≡ old.links
  pub cells : (l k : ℕ) → cell_at new l k ≡ cell_at old l k

-- one cell is written, and no other changes
pub record PutsCell (old new : Cells) (l k : ℕ) (cell : Cell) : Type 0 where
  pub shape : SameShape old new
  pub here : cell_at new l k ≡ cell
  pub others : (m j : ℕ) → m < old.links → (m ≡ l → j ≡ k → ⊥) → cell_at new m j ≡ cell_at old m j

-- each list is a chain
abbrev pub IsChained : Cells → Type 0
IsChained c = (l k : ℕ) → l < c.links → IsChain (after_at c l k) (previous_at c l) 0 (list_at c l k)

pub IsChained-prop : (c : Cells) → IsProp (IsChained c)
IsChained-prop c = Π_prop (λ l. Π_prop (λ k. Π_prop (λ _. IsChain-prop (after_at c l k) (previous_at c l) 0 (list_at c l k))))

-- each slot stands once in the list of its entry, and in no other of its link
abbrev pub IsEntered : Cells → Type 0
IsEntered c = (l k v : ℕ) → l < c.links → times v (list_at c l k) ≡ cond (entry_at c l v == suc k) 1 0

-- slots have entries up to a horizon only, and these lie within it
abbrev pub IsUpTo : Cells → ℕ → Type 0
IsUpTo c slots = (l v : ℕ) → l < c.links → (slots ≤ v → entry_at c l v ≡ 0) × (entry_at c l v ≤ suc slots)

-- the cells hold lists of slots below the room
pub record AreLists (c : Cells) : Type 0 where
  pub chained : IsChained c
  pub entered : IsEntered c
  pub unset : (l v : ℕ) → l < c.links → c.room ≤ v → entry_at c l v ≡ 0

-- in the list of boundary k a pointer now leads on to another one
pub record SetsAfter (old new : Cells) (l k pointer to : ℕ) : Type 0 where
  pub shape : SameShape old new
  pub here : after_at new l k pointer ≡ to
  pub firsts : (m j : ℕ) → m < old.links → (m ≡ l → j ≡ k → pointer ≡ 0 → ⊥) → first_at new m j ≡ first_at old m j
  pub nexts : (m w : ℕ) → m < old.links → (m ≡ l → suc w ≡ pointer → ⊥) → next_at new m w ≡ next_at old m w
  pub previous : (m w : ℕ) → m < old.links → previous_at new m w ≡ previous_at old m w
  pub entries : (m w : ℕ) → m < old.links → entry_at new m w ≡ entry_at old m w

-- the slot that a pointer names, if any, now leads back to another one
pub record SetsBefore (old new : Cells) (l pointer to : ℕ) : Type 0 where
  pub shape : SameShape old new
  pub here : (w : ℕ) → suc w ≡ pointer → previous_at new l w ≡ to
  pub firsts : (m j : ℕ) → m < old.links → first_at new m j ≡ first_at old m j
  pub nexts : (m w : ℕ) → m < old.links → next_at new m w ≡ next_at old m w
  pub previous : (m w : ℕ) → m < old.links → (m ≡ l → suc w ≡ pointer → ⊥) → previous_at new m w ≡ previous_at old m w
  pub entries : (m w : ℕ) → m < old.links → entry_at new m w ≡ entry_at old m w

-- a slot is taken out of every list of a link
pub record TakesOut (old new : Cells) (l v : ℕ) : Type 0 where
  pub shape : SameShape old new
  pub lists : (k : ℕ) → list_at new l k ≡ without v (list_at old l k)
  pub other_links : (m k : ℕ) → m < old.links → m ≢ l → list_at new m k ≡ list_at old m k
  pub entry : entry_at new l v ≡ 0
  pub entries : (m w : ℕ) → m < old.links → (m ≡ l → w ≡ v → ⊥) → entry_at new m w ≡ entry_at old m w

-- a slot is put first in the list of a boundary
pub record PutsFirst (old new : Cells) (l v k : ℕ) : Type 0 where
  pub shape : SameShape old new
  pub list : list_at new l k ≡ v ∷ list_at old l k
  pub other_lists : (m j : ℕ) → m < old.links → (m ≡ l → j ≡ k → ⊥) → list_at new m j ≡ list_at old m j
  pub entry : entry_at new l v ≡ suc k
  pub entries : (m w : ℕ) → m < old.links → (m ≡ l → w ≡ v → ⊥) → entry_at new m w ≡ entry_at old m w
