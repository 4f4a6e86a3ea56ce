use Rattle.std.proofs.Common.{◌≡◌, ℕ, suc, ◌+◌, ap, arith, rules, List, sum, drop}
use Rattle.ltm_node.specs.Solvable.{IsSolvable}
use Rattle.ltm_node.specs.Portion.{denominator, numerator}
use Rattle.ltm_node.proofs.Splitting.{rest_split}
use Rattle.ltm_node.proofs.Ways.{idle_on, unweighted_on}
use Rattle.ltm_node.proofs.moves.Mover.send_all.Goals as goal

pub returns-then-not-is_sent_to : goal.returns-then-not-is_sent_to
returns-then-not-is_sent_to g c =
    let n = c.args.self.now.inputs.now in
    let q = c.args.self.now.portion in
    let e : ℕ = denominator c.args.self.now.portion in
    let p : ℕ → ℕ = numerator c.args.self.now.portion in
    let s : IsSolvable n = search rules in
    record {
      after = idle_on n e p (g.T.Tally.stands c.args.tally.now n q) c.args.destination c.args.row.now s (c.passes.ensures c.args.tally.now n q) c.requires.before c.requires.destination (c.is_sent_to.ensures c.if-not-is_sent_to.true);
    }

pub returns-then-whole-eq0 : goal.returns-then-whole-eq0
returns-then-whole-eq0 g c =
    let n = c.args.self.now.inputs.now in
    let q = c.args.self.now.portion in
    let e : ℕ = denominator c.args.self.now.portion in
    let p : ℕ → ℕ = numerator c.args.self.now.portion in
    let s : IsSolvable n = search rules in
    record {
      after = unweighted_on n e p (g.T.Tally.stands c.args.tally.now n q) c.args.destination c.args.row.now s (c.passes.ensures c.args.tally.now n q) c.requires.before c.requires.destination c.requires.elsewhere
          (omega (arith, c.whole_weight-whole.ensures, c.if-whole-eq0.true));
    }

pub next_above-other-requires-clause-some : goal.next_above-other-requires-clause-some
next_above-other-requires-clause-some g c =
    let ws : List ℕ = c.weights-weights.result.now in
    let out : ℕ = c.next_above-out.result in
    let next : suc out ≡ out + 1 = omega arith in
    omega (
      arith,
      c.whole_weight-whole.ensures,
      ap sum c.weights-weights.ensures.weights,
      c.next_above-out.ensures.rest,
      c.if-weight-whole.false,
      rest_split ws out c.next_above-out.ensures.within,
      ap (λ z. sum (drop z ws)) next,
    )
