use Rattle.std.proofs.Common.{◌+◌, arith}
use Rattle.ltm_curve.specs.Table.{counts_of}
use Rattle.ltm_setting.specs.Setting.{setting_of}
use Rattle.ltm_flows.proofs.Steps.{idle_meets}
use Rattle.ltm_flows.proofs.Progress.{working_idle}
use Rattle.ltm_working.proofs.Openings.{keeps_still}
use Rattle.ltm_working.proofs.opening.Opening.open_pair.Goals as goal

pub returns-then-sent : goal.returns-then-sent
returns-then-sent c = record {
  working = c.move_pair.ensures.working;
  keeps = keeps_still (setting_of c.args.scenario.now) (counts_of c.args.self.now.curves) (counts_of c.move_pair.new.curves) c.keep_pair-sent.new.kept c.keep_pair-sent.new.index c.args.pair.slot (c.args.pair.node.0 + 1)
      c.requires.setting (omega (arith, c.requires.node)) c.move_pair.ensures.stays c.keep_pair-sent.ensures.keeps;
  begins = c.requires.so_far.begins;
  inputs = λ u x. omega (arith, c.keep_pair-sent.ensures.room, c.requires.so_far.inputs u x);
  outputs = λ u x. omega (arith, c.move_pair.ensures.room, c.requires.so_far.outputs u x);
}

pub returns-else-sent : goal.returns-else-sent
returns-else-sent c =
    let s = setting_of c.args.scenario.now in
    let counts = counts_of c.args.self.now.curves in
    let u = c.args.pair.node.0 in
    let at = c.requires.so_far.working in
    record {
      working = working_idle s c.args.self.now.curves c.args.pair.slot u at
          (idle_meets s counts u c.args.pair.slot c.inputs_by_place.ensures c.counts_by_place.ensures c.nothing_moves.ensures c.requires.setting c.requires.node (c.keep_pair-sent.ensures.idle c.if-sent.false)
          (λ g d of m. at.carried u g d (omega arith) c.requires.node of m));
      keeps = c.keep_pair-sent.ensures.keeps;
      begins = c.requires.so_far.begins;
      inputs = λ w x. omega (arith, c.keep_pair-sent.ensures.room, c.requires.so_far.inputs w x);
      outputs = c.requires.so_far.outputs;
    }
