use Rattle.std.proofs.Common.{slice_index}
use Rattle.ltm_node.specs.declared.portion.Portion.TheVariants.{Share}
use Rattle.ltm_node.specs.Tally.{IsLeftOf}
use Rattle.ltm_node.proofs.Whole.{share_step}
use Rattle.ltm_node.proofs.node_step.step_by_turn.Goals as goal

pub returns-clause-step : goal.returns-clause-step
returns-clause-step c =
    let n = c.args.inputs.now in
    let shares = c.args.shares in
    share_step n shares.now.denominator (slice_index shares.now.numerators) (IsLeftOf c.advance.new.tally n (Share shares)) c.advance.new.self c.requires.solvable.few_arms c.requires.shares c.advance.ensures.shape c.advance.ensures.after
