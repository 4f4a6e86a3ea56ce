-- A table as the desk of a repair.
use Rattle.std.specs.Prelude.{ℕ, ◌^◌, List, ◌++◌, take, drop, Option, Some, None, option_map, Bool, false, if◌then◌else◌, unwrap_or}
use Rattle.ltm_curve.specs.declared.curves.Curves.{Curves}
use Rattle.ltm_curve.specs.declared.changed.Changed.{Changed}
use Rattle.ltm_curve.specs.Counts.{Counts}
use Rattle.ltm_curve.specs.Table.{counts_of}
use Rattle.ltm_curve.specs.Cells.{is_changed}
use Rattle.ltm_node.specs.Shape.{counts_begin}
use Rattle.ltm_loading.specs.Setting.{Setting}
use Rattle.ltm_loading.specs.Pairs.{shape_at, count_row}
use Rattle.ltm_frontier.specs.Frontier.{is_active, is_claimed}
use Rattle.ltm_index.specs.declared.read_index.ReadIndex.{ReadIndex}
use Rattle.ltm_index.specs.Lists.{entry_of}
use Rattle.ltm_repair.specs.Desk.{Desk}
use Rattle.ltm_working.specs.declared.table.Table.{Table}
use Rattle.ltm_rows.specs.Claims.{claim_row}
use Rattle.ltm_rows.specs.Parts.{without_counts}
use Rattle.ltm_rows.specs.Rows.{kept_row}
use Rattle.ltm_working.specs.Pairs.{of_pairs, of_cells}

-- what a pair reads but for the counts of its node
abbrev pub row_without_counts : Setting → ℕ → List ℕ → List ℕ
row_without_counts s u row = without_counts (shape_at s u) row

-- the counts of the node at the slot's beginning put in their place
abbrev pub with_node_counts : Setting → Counts → ℕ → ℕ → List ℕ → List ℕ
with_node_counts s c u t row = take (counts_begin (shape_at s u)) row ++ (count_row s c u t ++ drop (counts_begin (shape_at s u)) row)

-- what is kept of a pair, with the counts of its node at the slot's beginning
abbrev pub kept_of : Setting → Table → ℕ → ℕ → Option (List ℕ)
kept_of s t u v = option_map (with_node_counts s (counts_of t.curves) u v) (kept_row t.kept u v)

-- the inputs with which a pair is claimed, if it is. All claims are of one slot, so there is one row for each node
abbrev pub claim_of : Table → ℕ → ℕ → Option (List ℕ)
claim_of t u v = if is_claimed t.frontier u v then Some (claim_row t.claims u) else None

-- the desk: counts, kept inputs, active pairs and claims
unfoldable pub desk_at : Setting → Table → Desk
desk_at s t = record {
  counts = counts_of t.curves;
  kept = of_pairs s None (kept_of s t);
  active = of_pairs s false (is_active t.frontier);
  claimed = of_pairs s None (claim_of t);
}

abbrev pub curves_of : Table → Curves
curves_of t = t.curves

abbrev pub cells_of : Table → Changed
cells_of t = t.changed

-- the cells, each a group at a boundary, in which a commit has changed some count since they were last cleared
unfoldable pub changed_at : Setting → Table → ℕ → ℕ → Bool
changed_at s t = of_cells s (is_changed t.changed)

-- the boundary in whose list of a link a slot stands; past every horizon where it stands in none
unfoldable pub place_of : ReadIndex → ℕ → ℕ → ℕ
place_of x l v = unwrap_or (entry_of x l v) (2 ^ 32)
