use Rattle.std.proofs.Common.{List, ℕ, subst}
use Rattle.ltm_setting.specs.Setting.{setting_of}
use Rattle.ltm_rows.specs.Rows.{PutsWeights}
use Rattle.ltm_rows.proofs.KeptPlaces.{as_before}
use Rattle.ltm_rows.proofs.rows.KeptRows.write_weights.Goals as goal

pub returns-then-are_as_before : goal.returns-then-are_as_before
returns-then-are_as_before c =
    let same = c.are_as_before.ensures c.if-are_as_before.true in
    let u = c.args.pair.node.0 in
    subst (λ (z : List ℕ). PutsWeights c.args.self.now c.copy_weights.new.self u c.args.pair.slot z)
    (as_before (setting_of c.args.scenario.now) c.args.begins.now c.args.self.now u c.args.pair.slot c.requires.begins c.requires.node c.requires.slot c.requires.before same.0 same.1) c.copy_weights.ensures
