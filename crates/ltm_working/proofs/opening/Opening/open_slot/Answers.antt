use Rattle.std.proofs.Common.{◌≡◌, arith}
use Rattle.ltm_curve.specs.Table.{counts_of}
use Rattle.ltm_setting.specs.Setting.{setting_of}
use Rattle.ltm_flows.proofs.Progress.{working_leave}
use Rattle.ltm_working.proofs.Beginnings.{keeps_slot}
use Rattle.ltm_working.proofs.Openings.{keeps_still}
use Rattle.ltm_working.proofs.opening.Opening.open_slot.Goals as goal

pub loop-node-init : goal.loop-node-init
loop-node-init c = record {
  working = c.begin_slot.ensures.working;
  keeps = keeps_still (setting_of c.args.scenario.now) (counts_of c.args.self.now.curves) (counts_of c.begin_slot.new.curves) c.args.self.now.kept c.args.self.now.index c.args.slot 0
      c.requires.setting (omega arith) c.begin_slot.ensures.stays c.requires.so_far.keeps;
  begins = c.requires.so_far.begins;
  inputs = c.requires.so_far.inputs;
  outputs = c.requires.so_far.outputs;
}

pub returns : goal.returns
returns c =
    let s = setting_of c.args.scenario.now in
    let all : c.loop-node.node ≡ s.nodes = omega (arith, c.loop-node-test.false, c.loop-node.auto.node-end, c.node_count-node-end.ensures.value) in
    record {
      working = working_leave s c.loop-node.self.curves c.args.slot c.loop-node.node c.next_slot.ensures all c.loop-node.invariant.working;
      keeps = keeps_slot s (counts_of c.loop-node.self.curves) c.loop-node.self.kept c.loop-node.self.index c.args.slot c.loop-node.node all c.loop-node.invariant.keeps;
      begins = c.loop-node.invariant.begins;
      inputs = c.loop-node.invariant.inputs;
      outputs = c.loop-node.invariant.outputs;
    }
