use Rattle.std.proofs.Common.{sym, ◌∙◌, inl, inr, arith}
use Rattle.ltm_setting.specs.Setting.{setting_of}
use Rattle.ltm_working.proofs.Desks.{active_is, active_past}
use Rattle.ltm_working.proofs.table.Table.is_active.Goals as goal

pub returns-then-pair-node_count : goal.returns-then-pair-node_count
returns-then-pair-node_count c = sym (active_past (setting_of c.args.scenario.now) c.args.self.now c.args.pair.node.0 c.args.pair.slot (inl (omega (arith, c.if-pair-node_count.true, c.node_count.ensures.value))))

pub returns-then-pair-slot_count : goal.returns-then-pair-slot_count
returns-then-pair-slot_count c = sym (active_past (setting_of c.args.scenario.now) c.args.self.now c.args.pair.node.0 c.args.pair.slot (inr (omega (arith, c.if-pair-slot_count.true, c.slot_count.ensures.value))))

pub returns : goal.returns
returns c =
    c.is_active.ensures ∙ sym (active_is (setting_of c.args.scenario.now) c.args.self.now c.args.pair.node.0 c.args.pair.slot
    (omega (arith, c.if-pair-node_count.false, c.node_count.ensures.value)) (omega (arith, c.if-pair-slot_count.false, c.slot_count.ensures.value)))
