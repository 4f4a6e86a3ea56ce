use Rattle.std.proofs.Common.{arith, ◌∙◌, true, false}
use Rattle.ltm_frontier.proofs.Counting.{few_marked, set_counts}
use Rattle.ltm_frontier.proofs.claims.Claims.put.Goals as goal

pub overflow_add-self : goal.overflow_add-self
overflow_add-self c = omega (arith, few_marked c.args.self.now.nodes, c.args.self.now.counted, c.width-width.ensures.small, c.width-width.ensures.value)

pub invariant_of-self : goal.invariant_of-self
invariant_of-self c = record {
  one_row = c.mark.ensures.size.rows ∙ c.args.self.now.one_row;
  counted = omega (arith, c.args.self.now.counted, set_counts c.args.self.now.nodes _ c.args.node false true c.args.self.now.one_row c.requires.node c.requires.free c.mark.ensures);
}
