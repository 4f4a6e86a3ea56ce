use Rattle.std.proofs.Common.{inr}
use Rattle.ltm_check_command.proofs.Said.{yes_loaded, step_refused, on_ok}
use Rattle.ltm_check_command.proofs.answer.answer_curves.Goals as goal

pub returns-in-Ok-Yes-clause-text : goal.returns-in-Ok-Yes-clause-text
returns-in-Ok-Yes-clause-text c =
    on_ok c.say_yes.result _ _
    (λ text is records kept. (is, yes_loaded c.args.scenario.now records c.args.curves.now c.in-Ok-Yes.field-0 c.in-Ok-Yes.field-0-is c.in-Ok-Yes.ensures.told kept)) c.say_yes.ensures.text

pub returns-in-Ok-No-clause-fault : goal.returns-in-Ok-No-clause-fault
returns-in-Ok-No-clause-fault c =
    inr (λ records kept. step_refused c.args.scenario.now records c.args.curves.now c.in-Ok-No.field-0 c.in-Ok-No.pair c.no_step.result c.in-Ok-No.field-0-is c.in-Ok-No.ensures.told c.no_step.ensures kept)
