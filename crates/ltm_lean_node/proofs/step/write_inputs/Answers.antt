use Rattle.std.proofs.Common.{◌-◌, ap, sym, subst, arith}
use Rattle.ltm_node.specs.Shape.{width}
use Rattle.ltm_setting.specs.Setting.{setting_of}
use Rattle.ltm_lean_node.specs.Rows.{IsWritten}
use Rattle.ltm_lean_node.proofs.Written.{front_written}
use Rattle.ltm_lean_node.proofs.step.write_inputs.Goals as goal

pub returns-clause-row : goal.returns-clause-row
returns-clause-row c =
    subst (IsWritten (setting_of c.args.scenario.now) c.args.pair.node.0 c.args.pair.slot c.args.shape c.args.sends.now c.args.takes.now c.args.weights.now)
    (sym (front_written (width c.reshape.new.self.shape) (c.width.result - 0) c.numbers_mut-numbers.result.now c.write_row.new.row _ (omega (arith, c.write_row.auto.row, c.width.ensures, ap width c.reshape.ensures.shape, c.numbers_mut-numbers.ensures.room, c.numbers_mut-numbers.ensures.fits))))
    c.write_row.ensures
