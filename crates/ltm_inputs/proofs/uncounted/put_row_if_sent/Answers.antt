use Rattle.std.proofs.Common.{◌≡◌, ℕ, List, ◌++◌, length, arith}
use Rattle.ltm_curve.specs.Table.{counts_of}
use Rattle.ltm_node.specs.Shape.{counts_width}
use Rattle.ltm_setting.specs.Setting.{setting_of}
use Rattle.ltm_inputs.proofs.Idle.{idle_of_zeros, zeros_of_idle}
use Rattle.ltm_inputs.proofs.Told.{parts_written, uncounted_from}
use Rattle.ltm_inputs.proofs.uncounted.put_row_if_sent.Goals as goal

pub returns-then-sent-clause-row : goal.returns-then-sent-clause-row
returns-then-sent-clause-row g c is =
    let s = setting_of c.args.scenario.now in
    let counts = counts_of c.args.curves.now in
    let u = c.args.pair.node.0 in
    let t = c.args.pair.slot in
    let row : List ℕ = c.put_sending.new.into ++ (c.split_at_mut-counts.result.0.now ++ c.put_limits.new.into) in
    let between : length c.split_at_mut-counts.result.0.now ≡ counts_width c.args.shape = omega (arith, c.split_at_mut-counts.ensures.front_len, c.counts_width.ensures) in
    uncounted_from s counts u t c.args.shape row c.requires.shape
    (parts_written s counts u t c.args.shape c.put_sending.new.into c.split_at_mut-counts.result.0.now c.put_limits.new.into c.requires.shape between c.put_sending.ensures c.put_limits.ensures)

pub returns-then-sent-clause-idle : goal.returns-then-sent-clause-idle
returns-then-sent-clause-idle g c =
    let s = setting_of c.args.scenario.now in
    let counts = counts_of c.args.curves.now in
    let u = c.args.pair.node.0 in
    let t = c.args.pair.slot in (
      λ is. idle_of_zeros s counts u t c.put_sending.new.into c.put_sending.ensures (c.is_any_sent-sent.ensures.0 is),
      λ idle. c.is_any_sent-sent.ensures.1 (zeros_of_idle s counts u t c.put_sending.new.into c.put_sending.ensures idle),
    )

pub returns-else-sent-clause-idle : goal.returns-else-sent-clause-idle
returns-else-sent-clause-idle g c =
    let s = setting_of c.args.scenario.now in
    let counts = counts_of c.args.curves.now in
    let u = c.args.pair.node.0 in
    let t = c.args.pair.slot in (
      λ is. idle_of_zeros s counts u t c.put_sending.new.into c.put_sending.ensures (c.is_any_sent-sent.ensures.0 is),
      λ idle. c.is_any_sent-sent.ensures.1 (zeros_of_idle s counts u t c.put_sending.new.into c.put_sending.ensures idle),
    )
