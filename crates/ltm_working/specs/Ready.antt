-- What holds of a table at any time.
use Rattle.std.specs.Prelude.{◌≡◌, ◌≢◌, ℕ, ◌<◌, None, false, true}
use Rattle.ltm_curve.specs.Cells.{HasCells}
use Rattle.ltm_loading.specs.Setting.{Setting}
use Rattle.ltm_loading.specs.Groups.{groups}
use Rattle.ltm_loading.specs.Loading.{IsLoading}
use Rattle.ltm_loading.specs.Shaped.{IsShaped}
use Rattle.ltm_inputs.specs.Parts.{weights_part}
use Rattle.ltm_frontier.specs.declared.frontier.Frontier.{Frontier}
use Rattle.ltm_frontier.specs.Frontier.{nodes_in, slots_in}
use Rattle.ltm_index.specs.declared.read_index.ReadIndex.{ReadIndex}
use Rattle.ltm_index.specs.Lists.{links_listed, slots_listed}
use Rattle.ltm_repair.specs.Desk.{Desk, IsSettled, IsIdle}
use Rattle.ltm_repair.specs.Facts.{IsSound}
use Rattle.ltm_repair.specs.Index.{IsPlaced, IndexIsCurrent}
use Rattle.ltm_working.specs.declared.table.Table.{Table}
use Rattle.ltm_rows.specs.declared.rows.KeptRows.{KeptRows}
use Rattle.ltm_rows.specs.Claims.{HasClaims}
use Rattle.ltm_rows.specs.Rows.{HasRows, is_weighed, weights_of}
use Rattle.ltm_working.specs.Desks.{desk_at, place_of, changed_at}

-- the pairs of the setting
pub record HasPairs (s : Setting) (f : Frontier) : Type 0 where
  pub nodes : nodes_in f ≡ s.nodes
  pub slots : slots_in f ≡ s.slots

-- lists of the setting's links and slots
pub record HasLists (s : Setting) (x : ReadIndex) : Type 0 where
  pub links : links_listed x ≡ s.links
  pub slots : slots_listed x ≡ s.slots

-- the parts have the sizes of the setting
pub record FitsTable (s : Setting) (t : Table) : Type 0 where
  pub curves : IsShaped s t.curves
  pub kept : HasRows s s.slots t.kept
  pub claims : HasClaims s t.claims
  pub frontier : HasPairs s t.frontier
  pub index : HasLists s t.index
  pub changed : HasCells t.changed (groups s) s.slots

-- each claimed pair stands in the index with its positions
abbrev pub ClaimsArePlaced : Setting → Desk → (ℕ → ℕ → ℕ) → Type 0
ClaimsArePlaced s d places = (u t : ℕ) → u < s.nodes → t < s.slots → d.claimed u t ≢ None → IsPlaced s d places u t

-- the weights of a pair that is marked as weighed are those of the setting
abbrev pub WeightsAreCurrent : Setting → KeptRows → Type 0
WeightsAreCurrent s k = (u t : ℕ) → u < s.nodes → t < s.slots → is_weighed k u t ≡ true → weights_of k u t ≡ weights_part s u t

-- a sound desk, and each pair that is not active stands in the index with its positions; weights that are not read again are
-- those of the setting
pub record IsReady (s : Setting) (t : Table) : Type 0 where
  pub fits : FitsTable s t
  pub sound : IsSound s (desk_at s t)
  pub index : IndexIsCurrent s (desk_at s t) (place_of t.index)
  pub claims : ClaimsArePlaced s (desk_at s t) (place_of t.index)
  pub weights : WeightsAreCurrent s t.kept

-- the table of a loading at rest: all inputs are kept, no pair is active or claimed, and no cell is changed
pub record IsOpened (s : Setting) (t : Table) : Type 0 where
  pub ready : IsReady s t
  pub loading : IsLoading s (desk_at s t).counts
  pub kept : (u v : ℕ) → u < s.nodes → v < s.slots → IsSettled s (desk_at s t) u v
  pub idle : (u v : ℕ) → IsIdle (desk_at s t) u v
  pub none_changed : (g k : ℕ) → changed_at s t g k ≡ false
