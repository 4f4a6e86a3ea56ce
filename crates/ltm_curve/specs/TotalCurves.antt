-- The totals of a value of TotalCurves, as a function of group and boundary.
use Rattle.std.specs.Prelude.{◌≡◌, ◌≢◌, ℕ, ◌+◌, ◌*◌, ◌^◌, ◌<◌, ◌≤◌, ◌⊎◌, slice_index, if◌then◌else◌, nat_le, false}
use Rattle.ltm_curve.specs.Table.{groups_of, slots_of, total_of}
use Rattle.ltm_curve.specs.Cells.{is_changed}
use Rattle.ltm_curve.specs.declared.curves.Curves.{Curves}
use Rattle.ltm_curve.specs.declared.changed.Changed.{Changed}
use Rattle.ltm_curve.specs.declared.total_curves.TotalCurves.{TotalCurves}

-- the groups: those that are kept in 32 bits, and the last
abbrev pub total_groups : TotalCurves → ℕ
total_groups t = t.narrow + 1

abbrev pub total_slots : TotalCurves → ℕ
total_slots t = t.slots

-- for how many slots there is room
abbrev pub total_room : TotalCurves → ℕ
total_room t = t.room

-- the total of a group at a boundary
unfoldable pub total_at : TotalCurves → ℕ → ℕ → ℕ
total_at t group boundary =
    if nat_le t.narrow group then slice_index t.last.items boundary else slice_index t.totals.items (boundary * t.narrow + group)

-- so many groups and slots
pub record HasTotals (t : TotalCurves) (groups slots : ℕ) : Type 0 where
  pub same_groups : total_groups t ≡ groups
  pub same_slots : total_slots t ≡ slots

-- there is such a total
pub record IsTotal (t : TotalCurves) (group boundary : ℕ) : Type 0 where
  pub is_group : group < total_groups t
  pub is_boundary : boundary ≤ total_slots t

-- the totals of these curves
pub record AreTotalsOf (t : TotalCurves) (c : Curves) : Type 0 where
  pub shape : HasTotals t (groups_of c) (slots_of c)
  pub totals : (g k : ℕ) → g < groups_of c → k ≤ slots_of c → total_at t g k ≡ total_of c g k

-- the totals of all groups but the last fit in 32 bits
abbrev pub AreNarrow : Curves → Type 0
AreNarrow c = (g k : ℕ) → g + 1 < groups_of c → k ≤ slots_of c → total_of c g k < 2 ^ 32

-- one total is set, and no other
pub record SetsTotal (old new : TotalCurves) (group boundary total : ℕ) : Type 0 where
  pub shape : HasTotals new (total_groups old) (total_slots old)
  pub here : total_at new group boundary ≡ total
  pub others : (g k : ℕ) → IsTotal old g k → (g ≢ group) ⊎ (k ≢ boundary) → total_at new g k ≡ total_at old g k

-- the totals of curves at all boundaries before one
pub record TotalsBefore (t : TotalCurves) (c : Curves) (boundary : ℕ) : Type 0 where
  pub shape : HasTotals t (groups_of c) (slots_of c)
  pub totals : (g k : ℕ) → g < groups_of c → k ≤ slots_of c → k < boundary → total_at t g k ≡ total_of c g k

-- the totals of curves in all cells but the changed ones from a boundary on
pub record TotalsBut (t : TotalCurves) (c : Curves) (changed : Changed) (boundary : ℕ) : Type 0 where
  pub shape : HasTotals t (groups_of c) (slots_of c)
  pub totals : (g k : ℕ) → g < groups_of c → k ≤ slots_of c → (is_changed changed g k ≡ false) ⊎ (k < boundary) → total_at t g k ≡ total_of c g k
