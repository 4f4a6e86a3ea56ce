use Rattle.ltm_working.specs.declared.step_form.StepForm.{StepForm}
use Rattle.std.proofs.Common.{subst}
use Rattle.ltm_working.specs.Rewriting.{FitsRow}
use Rattle.ltm_working.proofs.differing.renew.Goals as goal

pub renew_moves-requires : goal.renew_moves-requires
renew_moves-requires c = subst (λ (z : StepForm). FitsRow z c.args.curves.now c.args.changed.now c.args.group c.args.slot c.args.numbers.now) c.in-Moved.is c.requires
