use Rattle.std.proofs.Common.{◌≤◌, ◌+◌, length, arith, ap}
use Rattle.ltm_setting.specs.Setting.{setting_of}
use Rattle.ltm_lean.proofs.Widths.{few_listed, width_small}
use Rattle.ltm_lean.proofs.slot.shape_at.Goals as goal

pub overflow_cast-destinations : goal.overflow_cast-destinations
overflow_cast-destinations c =
    omega (arith, ap length c.on.ensures, few_listed (setting_of c.args.scenario.now) c.args.tables.now c.args.node.now.node.0 c.is_setting.ensures.setting c.requires.tables c.requires.node.there)

pub returns-clause-small : goal.returns-clause-small
returns-clause-small c =
    let s = setting_of c.args.scenario.now in
    let many : length c.on.result.now ≤ 2000 =
    omega (arith, ap length c.on.ensures, few_listed s c.args.tables.now c.args.node.now.node.0 c.is_setting.ensures.setting c.requires.tables c.requires.node.there) in
    let ins : c.len.result ≤ 4 =
    omega (arith, c.len.ensures, c.args.node.now.ins.ok.0, c.requires.node.incoming.count, c.is_setting.ensures.setting.small.few_ins c.args.node.now.node.0 c.requires.node.there) in
    let outs : c.len-outs.result ≤ 4 =
    omega (arith, c.len-outs.ensures, c.args.node.now.outs.ok.0, c.requires.node.outgoing.count, c.is_setting.ensures.setting.small.few_outs c.args.node.now.node.0 c.requires.node.there) in
    width_small (c.len.result + c.min.result) c.len-outs.result (length c.on.result.now) (omega (arith, ins, c.min.ensures)) outs many
