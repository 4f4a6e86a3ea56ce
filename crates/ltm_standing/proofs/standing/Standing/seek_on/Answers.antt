use Rattle.std.proofs.Common.{rules, arith, ◌∙◌}
use Rattle.ltm_standing.specs.Standing.{IsPassed, Passes}
use Rattle.ltm_standing.proofs.Moves.{passes_keeps}
use Rattle.ltm_standing.proofs.standing.Standing.seek_on.Goals as goal

pub loop-self-preserved : goal.loop-self-preserved
loop-self-preserved c =
    let passed : IsPassed c.args.goal c.loop-self.self = c.is_passed.ensures.yes (search rules) in
    let step : Passes c.loop-self.self c.pass.new.self = c.pass.ensures in
    record {
      wide = step.rows.wide ∙ c.loop-self.invariant.wide;
      before = λ x. omega (arith, step.base, passed.within);
      keeps = λ k t w up down h. passes_keeps k t c.loop-self.self c.pass.new.self passed.there step w up down (c.loop-self.invariant.keeps k t w up down h);
    }
