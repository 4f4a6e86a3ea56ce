use Rattle.std.proofs.Common.{ℕ, arith, rules}
use Rattle.ltm_node.specs.Solvable.{IsSolvable}
use Rattle.ltm_node.specs.Portion.{denominator, numerator}
use Rattle.ltm_node.proofs.Ways.{unsent_on}
use Rattle.ltm_node.proofs.moves.Mover.send.Goals as goal

pub returns-else-load-gt0 : goal.returns-else-load-gt0
returns-else-load-gt0 g c =
    let n = c.args.self.now.inputs.now in
    let q = c.args.self.now.portion in
    let e : ℕ = denominator c.args.self.now.portion in
    let p : ℕ → ℕ = numerator c.args.self.now.portion in
    let s : IsSolvable n = search rules in
    record {
      after = unsent_on n e p (g.T.Tally.stands c.args.tally.now n q) c.args.load.destination c.args.load.arm c.args.row.now s (c.passes.ensures c.args.tally.now n q) c.requires.before c.requires.load.arm c.requires.load.destination
          (omega (arith, c.requires.load.amount, c.if-load-gt0.false));
    }
