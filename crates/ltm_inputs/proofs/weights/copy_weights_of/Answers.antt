use Rattle.std.proofs.Common.{◌≡◌, ◌∙◌, sym, arith, slice_index}
use Rattle.std.proofs.lemmas.Grind.{common_steps}
use Rattle.ltm_curve.proofs.Lists.{list_from}
use Rattle.ltm_setting.specs.Setting.{setting_of}
use Rattle.ltm_inputs.proofs.weights.copy_weights_of.Goals as goal

pub returns-in-None : goal.returns-in-None
returns-in-None c =
    let s = setting_of c.args.scenario.now in
    list_from (s.outs c.args.pair.node.0) (s.weight c.args.pair.node.0 c.args.destination c.args.pair.slot) c.fill.new.self (omega (arith, c.fill.ensures.len, c.requires.room)) (λ k l.
    let here : slice_index c.fill.new.self k ≡ 0 = grind (arith, common_steps) in here ∙ sym (c.weights.ensures.none c.in-None.is k))
