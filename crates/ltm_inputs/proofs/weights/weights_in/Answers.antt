use Rattle.std.proofs.Common.{arith}
use Rattle.ltm_setting.specs.Setting.{setting_of}
use Rattle.ltm_inputs.proofs.Filling.{filled_more}
use Rattle.ltm_inputs.proofs.weights.weights_in.Goals as goal

pub loop-destination-preserved : goal.loop-destination-preserved
loop-destination-preserved c =
    let s = setting_of c.args.scenario.now in
    let u = c.args.pair.node.0 in
    let t = c.args.pair.slot in
    filled_more c.loop-destination.into c.loop-destination.place c.loop-destination.destination (s.outs u) _ _ s.destinations (λ d j. s.weight u d t j) c.copy_weights_of.new.into c.loop-destination.invariant
    (omega (arith, c.loop-destination-test.true, c.destination_count-destination-end.ensures.value, c.loop-destination.auto.destination-end)) (omega (arith, c.loop-destination.auto.into, c.requires.room)) c.out_links-outs.ensures.count (omega (arith, c.out_links-outs.ensures.count)) c.copy_weights_of.ensures
