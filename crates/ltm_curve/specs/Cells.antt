-- Which cells are changed: a cell is a group at a boundary.
use Rattle.std.specs.Prelude.{◌≡◌, ◌≢◌, ℕ, ◌-◌, ◌<◌, ◌≤◌, ◌⊎◌, ◌&&◌, nat_lt, Bool, true, false}
use Rattle.ltm_curve.specs.MarkedCount.{marked_count}
use Rattle.ltm_marks.specs.Marks.{width_of, rows_of, room_of, is_marked}
use Rattle.ltm_curve.specs.declared.changed.Changed.{Changed}

-- for how many groups there are cells
abbrev pub cell_groups : Changed → ℕ
cell_groups c = width_of c.marks

-- up to which boundary there are cells
abbrev pub cell_slots : Changed → ℕ
cell_slots c = rows_of c.marks - 1

-- up to which boundary there is room for cells
abbrev pub cell_room : Changed → ℕ
cell_room c = room_of c.marks - 1

-- whether there is such a cell, and it is changed
unfoldable pub is_changed : Changed → ℕ → ℕ → Bool
is_changed c group boundary = (nat_lt group (width_of c.marks) && nat_lt boundary (rows_of c.marks)) && is_marked c.marks group boundary

-- how many cells are changed
abbrev pub changed_count : Changed → ℕ
changed_count c = marked_count c.marks

-- there is such a cell
pub record IsCell (c : Changed) (group boundary : ℕ) : Type 0 where
  pub is_group : group < cell_groups c
  pub is_boundary : boundary ≤ cell_slots c

-- cells of so many groups and slots
pub record HasCells (c : Changed) (groups slots : ℕ) : Type 0 where
  pub same_groups : cell_groups c ≡ groups
  pub same_slots : cell_slots c ≡ slots

-- no cell is changed
abbrev pub NoneChanged : Changed → Type 0
NoneChanged c = (g k : ℕ) → is_changed c g k ≡ false

-- the same groups and slots, and the same cells are changed
pub record SameCells (old new : Changed) : Type 0 where
  pub shape : HasCells new (cell_groups old) (cell_slots old)
  pub cells : (g k : ℕ) → is_changed new g k ≡ is_changed old g k

-- one cell is changed, and of no other it is told otherwise
pub record PutsCell (old new : Changed) (group boundary : ℕ) : Type 0 where
  pub shape : HasCells new (cell_groups old) (cell_slots old)
  pub here : is_changed new group boundary ≡ true
  pub others : (g k : ℕ) → IsCell old g k → (g ≢ group) ⊎ (k ≢ boundary) → is_changed new g k ≡ is_changed old g k

-- the first changed cell of a boundary, not below a group
pub record IsNextCell (c : Changed) (group boundary found : ℕ) : Type 0 where
  pub least : group ≤ found
  pub inside : found < cell_groups c
  pub changed : is_changed c found boundary ≡ true
  pub before : (g : ℕ) → group ≤ g → g < found → is_changed c g boundary ≡ false

-- no cell of a boundary is changed from a group on
abbrev pub NoNextCell : Changed → ℕ → ℕ → Type 0
NoNextCell c group boundary = (g : ℕ) → group ≤ g → g < cell_groups c → is_changed c g boundary ≡ false
