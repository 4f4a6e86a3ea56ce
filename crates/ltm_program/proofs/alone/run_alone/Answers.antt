use Rattle.std.proofs.Common.{ap, sym, ◌∙◌}
use Rattle.ltm_program.specs.Ran.{without_threads}
use Rattle.ltm_program.proofs.Runs.{ran_as}
use Rattle.ltm_program.proofs.alone.run_alone.Goals as goal

pub returns-in-Some : goal.returns-in-Some
returns-in-Some g c = ran_as _ _ _ _ _ (ap without_threads (sym c.in-Some.is ∙ c.command_of.ensures.reading)) c.do_alone.ensures

pub returns-in-None : goal.returns-in-None
returns-in-None g c = ran_as _ _ _ _ _ (ap without_threads (sym c.in-None.is ∙ c.command_of.ensures.reading)) (c.refuse_words.ensures _ _ (g.S.Source.left c.args.input.now) (g.S.Source.faults c.args.input.now))
