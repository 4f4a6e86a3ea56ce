use Rattle.std.proofs.Common.{◌≡◌, ℕ, ◌+◌, ◌-◌, ◌<◌, arith, subst}
use Rattle.ltm_standing.specs.Listed.{Stands}
use Rattle.ltm_lean_link.proofs.send.take_in_last.Goals as goal

pub returns-then-slot-eq0-clause-ok : goal.returns-then-slot-eq0-clause-ok
returns-then-slot-eq0-clause-ok c = λ s counts l ds listed last come stands.
    let at : c.args.slot - 1 ≡ c.args.slot = omega (arith, c.if-slot-eq0.true) in
    subst (λ (k : ℕ). Stands counts l ds k c.args.slot c.args.standing.now) at stands

pub returns-clause-ok : goal.returns-clause-ok
returns-clause-ok c = λ s counts l ds listed last come stands.
    let some : 0 < c.args.slot = omega (arith, c.if-slot-eq0.false) in
    let at : c.args.slot - 1 + 1 ≡ c.args.slot = omega (arith, some) in
    subst (λ (k : ℕ). Stands counts l ds k c.args.slot c.take_in.new.self) at
    (c.in_ok-take_in.ensures.ok s counts l (c.args.slot - 1) c.args.slot ds listed (omega (arith, some, last)) (come some) stands)
