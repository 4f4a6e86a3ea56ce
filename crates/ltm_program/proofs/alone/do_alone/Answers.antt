use Rattle.std.proofs.Common.{ap, sym, ◌∙◌, Some}
use Rattle.ltm_program.specs.Ran.{without_threads}
use Rattle.ltm_program.proofs.Runs.{has_text, done_alone, starts_any, ran_as}
use Rattle.ltm_program.proofs.alone.do_alone.Goals as goal

pub returns-in-Session : goal.returns-in-Session
returns-in-Session g c =
    ran_as _ _ _ _ _ (starts_any c.in-Session.workers (λ is. c.in-Session.workers-test.1 (c.in-Session.workers-is ∙ is)) ∙ ap (λ x. without_threads (Some x)) (sym c.in-Session.is))
    (c.refuse_words.ensures _ _ (g.S.Source.left c.args.input.now) (g.S.Source.faults c.args.input.now))

pub returns-in-View : goal.returns-in-View
returns-in-View g c =
    ran_as _ _ _ _ _ (ap (λ x. without_threads (Some x)) (sym c.in-View.is)) (c.refuse_words-in-View.ensures _ _ (g.S.Source.left c.args.input.now) (g.S.Source.faults c.args.input.now))

pub returns-in-Editors : goal.returns-in-Editors
returns-in-Editors g c =
    ran_as _ _ _ _ _ (ap (λ x. without_threads (Some x)) (sym c.in-Editors.is)) (c.refuse_words-in-Editors.ensures _ _ (g.S.Source.left c.args.input.now) (g.S.Source.faults c.args.input.now))

pub returns-in_default : goal.returns-in_default
returns-in_default g c =
    done_alone c.args.command _ _ _ (has_text c.args.command c.in_default.not-Session c.in_default.not-View c.in_default.not-Editors) (c.run_command.ensures (g.S.Source.left c.args.input.now) (g.S.Source.faults c.args.input.now))
