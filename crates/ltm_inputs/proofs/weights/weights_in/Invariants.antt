use Rattle.ltm_setting.specs.Setting.{setting_of}
use Rattle.ltm_inputs.proofs.Filling.{IsFilledTo}
use Rattle.ltm_inputs.proofs.weights.weights_in.Given as goal

abbrev pub invariant-loop-destination : goal.invariant-loop-destination
invariant-loop-destination l =
    let s = setting_of l.scenario in
    IsFilledTo l.into l.place l.destination (s.outs l.pair.node.0) (λ d j. s.weight l.pair.node.0 d l.pair.slot j)
