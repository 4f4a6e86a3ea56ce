use Rattle.std.proofs.Common.{rules}
use Rattle.ltm_node.specs.Solvable.{IsSolvable}
use Rattle.ltm_node.specs.Portion.{denominator, numerator}
use Rattle.ltm_node.proofs.Ways.{idle_to}
use Rattle.ltm_node.proofs.moves.Mover.move_next.Goals as goal

pub move_some-requires-clause-before : goal.move_some-requires-clause-before
move_some-requires-clause-before g c =
    let n = c.args.self.now.inputs.now in
    let q = c.args.self.now.portion in
    let s : IsSolvable n = search rules in
    idle_to n (denominator q) (numerator q) (g.T.Tally.stands c.args.tally.now n q) c.args.from c.next_sent-next.result c.args.row.now s (c.passes.ensures c.args.tally.now n q) c.requires.before
    c.next_sent-next.ensures.behind c.next_sent-next.ensures.within c.next_sent-next.ensures.nothing
