use Rattle.std.proofs.Common.{◌≡◌, ◌++◌, List, ℕ, inr, ap, subst, ◌∙◌}
use Rattle.ltm_io.specs.Sink.{AppendsFront}
use Rattle.ltm_session_viewers.proofs.telling.push_last.Goals as goal

pub returns-clause-tells : goal.returns-clause-tells
returns-clause-tells g c =
    let (lines, tell, longer) = rw c.in-Ok.is at c.push_all.ensures in
    let whole : c.as_slice.result.now ≡ lines = c.as_slice.ensures.value ∙ (longer ∙ ap (λ (l : List ℕ). l ++ lines) c.new-text.ensures.items) in
    inr (lines, tell, inr (c.in-Err.ensures.end, subst (λ (l : List ℕ). AppendsFront (g.W.Sink.written c.args.sink.now) (g.W.Sink.written c.write_answer.new.sink) l) whole c.in-Err.ensures.err))
