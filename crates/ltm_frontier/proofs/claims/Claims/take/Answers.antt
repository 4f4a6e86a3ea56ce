use Rattle.std.proofs.Common.{refl, sym, arith, ◌∙◌, true, false}
use Rattle.ltm_frontier.proofs.Counting.{some_marked, set_counts}
use Rattle.ltm_frontier.proofs.claims.Claims.take.Goals as goal

pub overflow_sub-self : goal.overflow_sub-self
overflow_sub-self c = omega (arith, c.args.self.now.counted, some_marked c.args.self.now.nodes c.args.node c.requires.node c.requires.claimed)

pub invariant_of-self : goal.invariant_of-self
invariant_of-self c = record {
  one_row = c.unmark.ensures.size.rows ∙ c.args.self.now.one_row;
  counted = omega (arith, c.args.self.now.counted, set_counts c.args.self.now.nodes _ c.args.node true false c.args.self.now.one_row c.requires.node c.requires.claimed c.unmark.ensures);
}

pub returns : goal.returns
returns c = record {
  nodes = c.unmark.ensures.size.width;
  slot = refl;
  count = omega (arith, set_counts c.args.self.now.nodes _ c.args.node true false c.args.self.now.one_row c.requires.node c.requires.claimed c.unmark.ensures);
  here = c.unmark.ensures.here;
  others = λ w x other. c.unmark.ensures.others w 0 x (omega (arith, c.args.self.now.one_row)) (λ e z. other (sym e));
}
