use Rattle.std.proofs.Common.{◌≡◌, ◌<◌, ◌+◌, ℕ, option_map}
use Rattle.ltm_curve.specs.Table.{counts_of}
use Rattle.ltm_loading.specs.NodeGroups.{node_group}
use Rattle.ltm_setting.specs.Setting.{setting_of}
use Rattle.ltm_check.specs.Moves.{moving}
use Rattle.ltm_check.proofs.rows.groups_grow.Given as goal

abbrev pub invariant-loop-place : goal.invariant-loop-place
invariant-loop-place l = (i d : ℕ) → i < l.place → d < (setting_of l.scenario).destinations
    → counts_of l.curves (node_group (setting_of l.scenario) l.fn.pair.node.0 i) d (l.fn.pair.slot + 1)
    ≡ counts_of l.curves (node_group (setting_of l.scenario) l.fn.pair.node.0 i) d l.fn.pair.slot + moving (setting_of l.scenario).destinations (option_map (λ m. m.now) l.fn.moves) i d
