use Rattle.std.proofs.Common.{arith}
use Rattle.ltm_setting.specs.Setting.{setting_of}
use Rattle.ltm_gap.proofs.Adding.{nothing_added}
use Rattle.ltm_gap.proofs.pair.Pair.add_slot.Goals as goal

pub returns-then-after-before-clause-adds : goal.returns-then-after-before-clause-adds
returns-then-after-before-clause-adds c =
    let before = c.produced_total-before.ensures.value in
    let after = c.produced_total-after.ensures.value in
    nothing_added (setting_of c.args.scenario.now) c.args.loading.now c.args.origin.0 c.args.slot c.args.sums.now.items c.is_setting.ensures.setting c.requires.origin c.requires.slot (omega arith)
