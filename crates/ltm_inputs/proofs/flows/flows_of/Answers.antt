use Rattle.std.proofs.Common.{ap, arith, refl}
use Rattle.ltm_curve.specs.Table.{counts_of}
use Rattle.ltm_node.specs.Lending.{with_numbers}
use Rattle.ltm_node.specs.Shape.{width}
use Rattle.ltm_setting.specs.Setting.{setting_of}
use Rattle.ltm_inputs.proofs.Weighing.{written_flows}
use Rattle.ltm_inputs.proofs.flows.flows_of.Goals as goal

pub returns-clause-flows : goal.returns-clause-flows
returns-clause-flows c =
    written_flows (setting_of c.args.scenario.now) (counts_of c.args.curves.now) c.args.pair.node.0 c.args.pair.slot c.reshape.new.self (with_numbers c.reshape.new.self c.put_flows_in_front.new.room) c.put_flows_in_front.new.room c.shape_of-shape.result
    c.shape_of-shape.ensures.shape c.reshape.ensures.shape refl (omega (arith, c.put_flows_in_front.auto.room, c.numbers_mut.ensures.room, c.numbers_mut.ensures.fits, ap width c.reshape.ensures.shape)) c.put_flows_in_front.ensures.sends c.put_flows_in_front.ensures.limits
