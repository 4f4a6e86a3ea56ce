use Rattle.std.proofs.Common.{rules, ap, ◌∙◌, arith}
use Rattle.ltm_editors.specs.Boxes.{boxed}
use Rattle.ltm_editors.proofs.Splitting.{splits}
use Rattle.ltm_editors.proofs.desk.Desk.split.Goals as goal

pub split_seat-token-requires : goal.split_seat-token-requires
split_seat-token-requires g c = let e = c.args.first.now in
    (search rules, search rules, splits (boxed g.T.Recorded.opening) (boxed g.T.Recorded.history) g.T.Recorded.author _ e.seat.me.0 (e.first c.requires.first).0 e.sits.2 e.sits.3)

pub invariant_of-first-clause-first : goal.invariant_of-first-clause-first
invariant_of-first-clause-first g c = λ is. (ap (λ m. m.0.chair) c.split_seat-token.ensures.2 ∙ (c.args.first.now.first is).0, omega arith)
