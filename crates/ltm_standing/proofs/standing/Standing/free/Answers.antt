use Rattle.std.proofs.Common.{rules, arith, ◌∙◌}
use Rattle.ltm_standing.specs.Standing.{HasLeft, Frees}
use Rattle.ltm_standing.proofs.Moves.{frees_keeps}
use Rattle.ltm_standing.proofs.standing.Standing.free.Goals as goal

pub loop-self-preserved : goal.loop-self-preserved
loop-self-preserved c =
    let left : HasLeft c.args.gone c.loop-self.self = c.has_left.ensures (search rules) in
    let step : Frees c.loop-self.self c.free_first.new.self = c.free_first.ensures in
    record {
      wide = step.rows.wide ∙ c.loop-self.invariant.wide;
      keeps = λ w up down k t x h. frees_keeps w up down k t c.loop-self.self c.free_first.new.self left.there step (omega (arith, step.low, left.within, x)) (c.loop-self.invariant.keeps w up down k t x h);
    }
