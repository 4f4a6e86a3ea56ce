use Rattle.ltm_node.proofs.Stays.{step_laid}
use Rattle.ltm_node.proofs.outputs.NodeOutputs.write_narrow.Goals as goal

pub returns-clause-step : goal.returns-clause-step
returns-clause-step c = λ t. step_laid c.args.narrow.now.inputs.now c.write_over.new.self c.write_over.ensures.shape (c.write_over.ensures.step t)
