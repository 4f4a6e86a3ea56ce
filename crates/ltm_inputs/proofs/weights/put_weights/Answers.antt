use Rattle.std.proofs.Common.{◌≡◌, ℕ, ◌*◌, ap, arith}
use Rattle.ltm_setting.specs.Setting.{setting_of}
use Rattle.ltm_inputs.proofs.Filling.{filled_more, written_one}
use Rattle.ltm_inputs.proofs.weights.put_weights.Goals as goal

pub loop-destination-preserved : goal.loop-destination-preserved
loop-destination-preserved c =
    let s = setting_of c.args.scenario.now in
    let u = c.args.pair.node.0 in
    let t = c.args.pair.slot in
    filled_more c.loop-destination.into c.loop-destination.place c.loop-destination.destination (s.outs u) _ _ s.destinations (λ d j. s.weight u d t j) c.put_weights_of-in-loop-destination.new.into c.loop-destination.invariant
    (omega (arith, c.loop-destination-test.true, c.destination_count-destinations.ensures.value)) (omega (arith, c.loop-destination.auto.into, c.requires.room)) c.requires.outs (omega (arith, c.requires.outs)) c.put_weights_of-in-loop-destination.ensures

pub put_weights_of-requires-clause-room : goal.put_weights_of-requires-clause-room
put_weights_of-requires-clause-room c =
    let s = setting_of c.args.scenario.now in
    let one : s.destinations ≡ 1 = omega (arith, c.destination_count-destinations.ensures.value, c.if-destinations-eq1.true) in
    let rows : s.destinations * s.outs c.args.pair.node.0 ≡ 1 * s.outs c.args.pair.node.0 = ap (λ (z : ℕ). z * s.outs c.args.pair.node.0) one in
    omega (arith, c.requires.room, rows)

pub returns-then-destinations-eq1 : goal.returns-then-destinations-eq1
returns-then-destinations-eq1 c =
    let s = setting_of c.args.scenario.now in
    let u = c.args.pair.node.0 in
    written_one c.put_weights_of.new.into s.destinations (s.outs u) (λ d j. s.weight u d c.args.pair.slot j) (omega (arith, c.destination_count-destinations.ensures.value, c.if-destinations-eq1.true)) c.put_weights_of.ensures
