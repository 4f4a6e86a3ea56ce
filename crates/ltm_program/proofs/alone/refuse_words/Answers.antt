use Rattle.std.proofs.Common.{refl}
use Rattle.ltm_command.specs.declared.status.Status.TheVariants as ending
use Rattle.ltm_command.specs.Words.{usage_line}
use Rattle.ltm_command.proofs.Running.{run_written}
use Rattle.ltm_program.proofs.alone.refuse_words.Goals as goal

pub returns : goal.returns
returns g c = λ told faults left read_faults.
    run_written _ _ _ ending.Usage usage_line _ _ (refl, λ d out. refl) (refl, refl) tt (λ is. cc) (refl, refl) c.write_text.ensures.answers
    (λ ok. rw c.usage_text.ensures at (c.write_text.ensures.wrote (λ e. cc) (λ e. cc) ok)) (rw c.usage_text.ensures at c.write_text.ensures.front) (c.write_text.ensures.cause (λ e. cc))
