use Rattle.std.proofs.Common.{◌∙◌}
use Rattle.ltm_standing.proofs.Moves.{goes_back_keeps}
use Rattle.ltm_standing.proofs.standing.Standing.seek_back.Goals as goal

pub loop-self-preserved : goal.loop-self-preserved
loop-self-preserved c = record {
  wide = c.go_back.ensures.rows.wide ∙ c.loop-self.invariant.wide;
  keeps = λ k t w up down h. goes_back_keeps k t c.loop-self.self c.go_back.new.self c.loop-self-test.true c.go_back.ensures w up down (c.loop-self.invariant.keeps k t w up down h);
}
