use Rattle.std.proofs.Common.{arith}
use Rattle.ltm_setting.specs.Setting.{setting_of}
use Rattle.ltm_flows.proofs.Progress.{working_begin}
use Rattle.ltm_flows.proofs.cold_loading.begin_slot.Goals as goal

pub returns-clause-working : goal.returns-clause-working
returns-clause-working c =
    working_begin (setting_of c.args.scenario.now) c.args.curves.now c.carry.new.self c.args.slot c.inputs_read_only.ensures c.counts_set_only.ensures c.set_by_one_pair.ensures c.requires.setting c.requires.slot c.requires.working c.carry.ensures

pub returns-clause-stays : goal.returns-clause-stays
returns-clause-stays c = λ g d j x m l.
    let shape = c.requires.working.shape in
    c.carry.ensures.others g d j (record { is_group = omega (arith, shape.same_groups); is_destination = omega (arith, shape.same_destinations); is_boundary = omega (arith, shape.same_slots) }) (λ e. absurd (omega arith))
