-- Marks of places in rows, as bits: those of one row lie side by side.
use Rattle.std.specs.Prelude.{◌≡◌, ℕ, ◌+◌, ◌*◌, ◌/◌, ◌%◌, ◌<◌, ◌≤◌, ◌⊎◌, ◌==◌, Bool, true, false, slice_index}
use Rattle.std.specs.Int.{bit_at}
use Rattle.ltm_marks.specs.declared.marks.Marks.{Marks}

-- how many places a row has
abbrev pub width_of : Marks → ℕ
width_of m = m.width

-- how many rows there are
abbrev pub rows_of : Marks → ℕ
rows_of m = m.rows

-- for how many rows there is room
abbrev pub room_of : Marks → ℕ
room_of m = m.room

-- the word in which a place has its bit
abbrev pub word_of : Marks → ℕ → ℕ → ℕ
word_of m place row = row * m.words + place / 64

-- whether a place of a row is marked
unfoldable pub is_marked : Marks → ℕ → ℕ → Bool
is_marked m place row = bit_at (slice_index m.bits.items (word_of m place row)) (place % 64) == 1

-- rows, width and room stay
pub record SameSize (old new : Marks) : Type 0 where
  pub width : new.width ≡ old.width
  pub rows : new.rows ≡ old.rows
  pub room : new.room ≡ old.room

-- one place is marked or not, and no other changes
pub record SetsMark (old new : Marks) (place row : ℕ) (value : Bool) : Type 0 where
  pub size : SameSize old new
  pub here : is_marked new place row ≡ value
  pub others : (p r : ℕ) → p < width_of old → r < rows_of old → (place ≡ p → row ≡ r → ⊥) → is_marked new p r ≡ is_marked old p r

-- no place of some rows is marked any more, the last row not included, and no mark of another row changes
pub record ClearsRows (old new : Marks) (from to : ℕ) : Type 0 where
  pub size : SameSize old new
  pub none : (p r : ℕ) → p < width_of old → from ≤ r → r < to → is_marked new p r ≡ false
  pub others : (p r : ℕ) → p < width_of old → (r < from) ⊎ (to ≤ r) → is_marked new p r ≡ is_marked old p r

-- width, rows and marks stay
pub record SameMarks (old new : Marks) : Type 0 where
  pub width : new.width ≡ old.width
  pub rows : new.rows ≡ old.rows
  pub marks : (p r : ℕ) → is_marked new p r ≡ is_marked old p r

-- the first marked place of a row, not below one
pub record IsNext (m : Marks) (row from place : ℕ) : Type 0 where
  pub least : from ≤ place
  pub inside : place < width_of m
  pub marked : is_marked m place row ≡ true
  pub before : (p : ℕ) → from ≤ p → p < place → is_marked m p row ≡ false

-- no place of a row is marked from one on
abbrev pub HasNone : Marks → ℕ → ℕ → Type 0
HasNone m row from = (p : ℕ) → from ≤ p → p < width_of m → is_marked m p row ≡ false

-- the first marked place within the word of a place, where the last word may go past the places of the row
pub record IsNextInWord (m : Marks) (row from place : ℕ) : Type 0 where
  pub least : from ≤ place
  pub in_word : place / 64 ≡ from / 64
  pub marked : is_marked m place row ≡ true
  pub before : (p : ℕ) → from ≤ p → p < place → is_marked m p row ≡ false

-- no place within the word of a place is marked from it on
abbrev pub HasNoneInWord : Marks → ℕ → ℕ → Type 0
HasNoneInWord m row from = (p : ℕ) → from ≤ p → p / 64 ≡ from / 64 → is_marked m p row ≡ false

-- no place of a row within the word of a place is marked from it on
abbrev pub HasNoneNear : Marks → ℕ → ℕ → Type 0
HasNoneNear m row from = (p : ℕ) → from ≤ p → p / 64 ≡ from / 64 → p < width_of m → is_marked m p row ≡ false
