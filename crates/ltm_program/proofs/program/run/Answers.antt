use Rattle.std.proofs.Common.{sym, ◌∙◌}
use Rattle.ltm_program.proofs.Runs.{ran_as}
use Rattle.ltm_program.proofs.program.run.Goals as goal

pub returns-in-Some : goal.returns-in-Some
returns-in-Some g c = ran_as _ _ _ _ _ (sym c.in-Some.is ∙ c.command_of.ensures.reading) c.do_command.ensures

pub returns-in-None : goal.returns-in-None
returns-in-None g c = ran_as _ _ _ _ _ (sym c.in-None.is ∙ c.command_of.ensures.reading) (c.refuse_words.ensures _ _ (g.S.Source.left c.args.input.now) (g.S.Source.faults c.args.input.now))
