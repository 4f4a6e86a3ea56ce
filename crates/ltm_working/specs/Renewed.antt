-- What a renewal of a pair's counts asks of a table, and what it makes of it.
use Rattle.std.specs.Prelude.{◌≡◌, ℕ, ◌+◌, ◌&&◌, ◌<◌, ◌^◌, List, slice_index, Bool, None, false}
use Rattle.ltm_curve.specs.Table.{counts_of}
use Rattle.ltm_node.specs.Outputs.{Outputs, left_after, entered_after, arrived_after}
use Rattle.ltm_loading.specs.Setting.{Setting}
use Rattle.ltm_loading.specs.Groups.{dep_of}
use Rattle.ltm_loading.specs.Pairs.{arm_group, shape_at}
use Rattle.ltm_loading.specs.NextPair.{Applies}
use Rattle.ltm_setting.specs.Setting.{setting_of}
use Rattle.ltm_flows.specs.Applying.{out_group, SetsGroups}
use Rattle.ltm_frontier.specs.Frontier.{is_pair, Activates, Releases}
use Rattle.ltm_pairs.specs.Changes.{some_below}
use Rattle.ltm_rows.specs.Rows.{PutsRow}
use Rattle.ltm_working.specs.declared.renewal.Renewal.{Renewal}
use Rattle.ltm_working.specs.declared.table.Table.{Table}
use Rattle.ltm_working.specs.Counted.{counts_by_form}
use Rattle.ltm_working.specs.Desks.{place_of}
use Rattle.ltm_working.specs.Ready.{FitsTable}
use Rattle.ltm_working.specs.Waking.{arm_differs, out_differs, any_differs, PutsCells, changes_arms, changes_outs, changes, wakes_tails, wakes_heads, wakes_others, wakes, ForgetsIf}

-- the counts at the end of a pair's slot, of those of a table as they stand
abbrev pub renewed_counts : Renewal → Table → Outputs
renewed_counts r t = counts_by_form r.given (setting_of r.scenario.now) (counts_of t.curves) r.pair.node.0 r.pair.slot r.outputs.now

-- a table of the scenario, one of its pairs, outputs of the node, and counts below 2 ^ 31
pub record FitsRenewal (r : Renewal) (t : Table) : Type 0 where
  pub fits : FitsTable (setting_of r.scenario.now) t
  pub node : r.pair.node.0 < (setting_of r.scenario.now).nodes
  pub slot : r.pair.slot < (setting_of r.scenario.now).slots
  pub outputs : r.outputs.now.shape ≡ shape_at (setting_of r.scenario.now) r.pair.node.0
  pub small : (i : ℕ) → slice_index (renewed_counts r t).row i < 2 ^ 31
  pub no_sink : (setting_of r.scenario.now).own r.pair.node.0 ≡ None → arrived_after r.outputs.now ≡ 0

-- ---- counts o of node u are set at boundary k; whether some was another one
-- all but counts, cells and active pairs stays
abbrev pub SameButCounts : Table → Table → Type 0
SameButCounts old new = new ≡ record old { curves = new.curves; changed = new.changed; frontier = new.frontier }

-- of the first in-links
pub record RenewsTails (s : Setting) (u k : ℕ) (o : Outputs) (ins : ℕ) (old : Table) (any : Bool) (new : Table) : Type 0 where
  pub fits : FitsTable s new
  pub same : SameButCounts old new
  pub value : any ≡ some_below ins (arm_differs s (counts_of old.curves) u k o)
  pub sets : SetsGroups s k ins (arm_group s u) (left_after o) (counts_of old.curves) (counts_of new.curves)
  pub cells : PutsCells old.changed new.changed (changes_arms s (counts_of old.curves) u k o ins)
  pub wakes : Activates old.frontier new.frontier (wakes_tails s (counts_of old.curves) u k o ins)

-- of the first out-links
pub record RenewsHeads (s : Setting) (u k : ℕ) (o : Outputs) (outs : ℕ) (old : Table) (any : Bool) (new : Table) : Type 0 where
  pub fits : FitsTable s new
  pub same : SameButCounts old new
  pub value : any ≡ some_below outs (out_differs s (counts_of old.curves) u k o)
  pub sets : SetsGroups s k outs (out_group s u) (entered_after o) (counts_of old.curves) (counts_of new.curves)
  pub cells : PutsCells old.changed new.changed (changes_outs s (counts_of old.curves) u k o outs)
  pub wakes : Activates old.frontier new.frontier (wakes_heads s (counts_of old.curves) (place_of old.index) u k o outs)

-- of the origin, where the node has out-links
pub record RenewsOrigin (s : Setting) (u k : ℕ) (o : Outputs) (old : Table) (any : Bool) (new : Table) : Type 0 where
  pub fits : FitsTable s new
  pub same : new ≡ record old { curves = new.curves; changed = new.changed }
  pub origin : 0 < s.outs u → any ≡ arm_differs s (counts_of old.curves) u k o (s.ins u)
  pub none : s.outs u ≡ 0 → any ≡ false
  pub sets : 0 < s.outs u → SetsGroups s k 1 (λ i. dep_of s u) (λ i. left_after o (s.ins u)) (counts_of old.curves) (counts_of new.curves)
  pub stays : s.outs u ≡ 0 → counts_of new.curves ≡ counts_of old.curves
  pub cells : PutsCells old.changed new.changed (λ g b. any && is_pair (dep_of s u) k g b)

-- of the whole node
pub record RenewsNode (s : Setting) (u k : ℕ) (o : Outputs) (old : Table) (any : Bool) (new : Table) : Type 0 where
  pub fits : FitsTable s new
  pub same : SameButCounts old new
  pub value : any ≡ any_differs s (counts_of old.curves) u k o
  pub applies : Applies s u k o.row (counts_of old.curves) (counts_of new.curves)
  pub cells : PutsCells old.changed new.changed (changes s (counts_of old.curves) u k o)
  pub wakes : Activates old.frontier new.frontier (wakes_others s (counts_of old.curves) (place_of old.index) u k o)

-- and the node's own next slot wakes, of which nothing is kept then
pub record RenewsPair (s : Setting) (u k : ℕ) (o : Outputs) (old new : Table) : Type 0 where
  pub fits : FitsTable s new
  pub same : new ≡ record old { curves = new.curves; changed = new.changed; frontier = new.frontier; kept = new.kept }
  pub applies : Applies s u k o.row (counts_of old.curves) (counts_of new.curves)
  pub cells : PutsCells old.changed new.changed (changes s (counts_of old.curves) u k o)
  pub wakes : Activates old.frontier new.frontier (wakes s (counts_of old.curves) (place_of old.index) u k o)
  pub kept : ForgetsIf (any_differs s (counts_of old.curves) u k o) old.kept new.kept u k

-- ---- the counts of pair (u, t) are set at its slot's end, the inputs in this row are kept, and its claim is gone
pub record Settles (s : Setting) (u t : ℕ) (o : Outputs) (row : List ℕ) (old new : Table) : Type 0 where
  pub between : Table
  pub renews : RenewsPair s u (t + 1) o old between
  pub puts : PutsRow between.kept new.kept u t row
  pub frees : Releases between.frontier new.frontier u t
  pub same : new ≡ record between { kept = new.kept; frontier = new.frontier }
