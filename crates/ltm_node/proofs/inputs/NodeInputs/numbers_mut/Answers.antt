use Rattle.std.proofs.Common.{refl, rules}
use Rattle.ltm_node.proofs.Lent.{inputs_lent}
use Rattle.ltm_node.proofs.inputs.NodeInputs.numbers_mut.Goals as goal

pub returns : goal.returns
returns c = ((refl, λ ws. inputs_lent c.self.inside.shape c.self.inside.numbers c.args.self.now ws c.self.view_is c.self.invariant), search rules)
