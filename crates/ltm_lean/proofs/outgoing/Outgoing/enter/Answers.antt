use Rattle.std.proofs.Common.{ℕ, List, sym, subst}
use Rattle.ltm_loading.specs.Groups.{up_of}
use Rattle.ltm_lean_link.specs.Moved.{IsMovedAt}
use Rattle.ltm_lean.proofs.outgoing.Outgoing.enter.Goals as goal

pub returns-clause-entered : goal.returns-clause-entered
returns-clause-entered c = λ s counts l t ds us moved.
    c.write.ensures.entered s counts l t ds us (subst (λ (xs : List ℕ). IsMovedAt s counts l (up_of l) t ds us xs c.args.moved.now) (sym c.deref.ensures.value) moved)
