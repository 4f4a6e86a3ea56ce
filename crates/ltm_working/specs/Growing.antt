-- A table whose horizon grows.
use Rattle.std.specs.Prelude.{◌≡◌, ℕ, ◌<◌, ◌≤◌, false}
use Rattle.ltm_curve.specs.Table.{groups_of, destinations_of, slots_of, room_of, counts_of, HasShape, IsIn}
use Rattle.ltm_curve.specs.Cells.{cell_groups, cell_slots, cell_room, is_changed, HasCells}
use Rattle.ltm_loading.specs.Setting.{Setting, IsSetting}
use Rattle.ltm_frontier.specs.Frontier.{slots_in, slot_room, SamePairs}
use Rattle.ltm_index.specs.Lists.{slots_listed, index_room, SameLists}
use Rattle.ltm_working.specs.declared.table.Table.{Table}
use Rattle.ltm_rows.specs.Rows.{nodes_kept, slots_kept, row_room, has_row, is_weighed, SameRows}
use Rattle.ltm_working.specs.Desks.{desk_at, changed_at}
use Rattle.ltm_working.specs.Ready.{FitsTable, IsReady}

-- for how many slots a table is
abbrev pub horizon_of : Table → ℕ
horizon_of t = slots_of t.curves

-- its parts have room for so many slots
pub record TableHasRoom (t : Table) (slots : ℕ) : Type 0 where
  pub curves : slots ≤ room_of t.curves
  pub kept : slots ≤ row_room t.kept
  pub frontier : slots ≤ slot_room t.frontier
  pub index : slots ≤ index_room t.index
  pub changed : slots ≤ cell_room t.changed

-- the setting with another horizon
abbrev pub at_horizon : Setting → ℕ → Setting
at_horizon s slots = record s { slots = slots }

-- all but room is as before
pub record TableSeenAs (old new : Table) : Type 0 where
  pub horizon : horizon_of new ≡ horizon_of old
  pub fits : (s : Setting) → FitsTable s old → FitsTable s new
  pub ready : (s : Setting) → IsSetting s → IsReady s old → IsReady s new
  pub desk : (s : Setting) → FitsTable s old → desk_at s new ≡ desk_at s old
  pub changed : (s : Setting) → changed_at s new ≡ changed_at s old

-- the horizon is longer: what was there stays, new counts are 0, no inputs are kept of a new pair, and none is active
pub record Lengthens (old new : Table) (slots : ℕ) : Type 0 where
  pub curves : HasShape new.curves (groups_of old.curves) (destinations_of old.curves) slots
  pub counts : (g d k : ℕ) → IsIn old.curves g d k → counts_of new.curves g d k ≡ counts_of old.curves g d k
  pub no_counts : (g d k : ℕ) → IsIn new.curves g d k → slots_of old.curves < k → counts_of new.curves g d k ≡ 0
  pub kept : SameRows old.kept new.kept
  pub kept_slots : slots_kept new.kept ≡ slots
  pub none_kept : (u t : ℕ) → u < nodes_kept old.kept → slots_kept old.kept ≤ t → has_row new.kept u t ≡ false
  pub none_weighed : (u t : ℕ) → u < nodes_kept old.kept → slots_kept old.kept ≤ t → is_weighed new.kept u t ≡ false
  pub claims : new.claims ≡ old.claims
  pub pairs : SamePairs old.frontier new.frontier
  pub pair_slots : slots_in new.frontier ≡ slots
  pub lists : SameLists old.index new.index
  pub list_slots : slots_listed new.index ≡ slots
  pub cells : HasCells new.changed (cell_groups old.changed) slots
  pub same_cells : (g k : ℕ) → is_changed new.changed g k ≡ is_changed old.changed g k
  pub no_cells : (g k : ℕ) → g < cell_groups old.changed → cell_slots old.changed < k → is_changed new.changed g k ≡ false
