use Rattle.std.proofs.Common.{ℕ, ◌≡◌, ◌<◌, ◌*◌, Some, None, arith, ap, sym, subst, ◌∙◌}
use Rattle.ltm_gap.specs.Steps.{first_open}
use Rattle.ltm_gap.proofs.Opening.{open_never, open_here, open_later, later_slot}
use Rattle.ltm_gap.proofs.leaving.opened.Goals as goal

pub returns-in-None-clause-moment : goal.returns-in-None-clause-moment
returns-in-None-clause-moment c = λ limit slots some at low next.
    sym (open_never limit c.args.step.0 slots c.args.moment.0 some (subst (λ k. first_open limit slots k ≡ None) at (sym next ∙ c.in-None.is)))

pub returns-then-open-slot-clause-moment : goal.returns-then-open-slot-clause-moment
returns-then-open-slot-clause-moment c = λ limit slots some at low next.
    let same : c.in-Some.open ≡ c.args.slot = c.if-open-slot.true in
    sym (open_here limit c.args.step.0 slots c.args.moment.0 some (subst (λ k. k < slots) at low) (subst (λ k. first_open limit slots k ≡ Some k) at (sym next ∙ c.in-Some.is ∙ ap Some same)))

pub returns-else-open-slot-clause-moment : goal.returns-else-open-slot-clause-moment
returns-else-open-slot-clause-moment c = λ limit slots some at low next.
    let first : ℕ = c.in-Some.open in
    let found : first_open limit slots c.args.slot ≡ Some first = sym next ∙ c.in-Some.is in
    let from = later_slot limit slots c.args.slot first found in
    let later : c.args.slot < first = omega arith in
    ap (λ n. Some (n * c.args.step.0)) c.from.ensures
    ∙ sym (open_later limit c.args.step.0 slots c.args.moment.0 first some (subst (λ k. k < first) at later) (subst (λ k. first_open limit slots k ≡ Some first) at found))
