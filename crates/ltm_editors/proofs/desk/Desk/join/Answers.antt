use Rattle.std.proofs.Common.{rules, ap, sym, subst, ◌∙◌}
use Rattle.ltm_editors.specs.Lists.{SeesBoth}
use Rattle.ltm_editors.specs.Boxes.{boxed}
use Rattle.ltm_editors.proofs.Joining.{joins}
use Rattle.ltm_editors.proofs.Takes.{tells}
use Rattle.ltm_editors.proofs.desk.Desk.join.Goals as goal

pub join_seat-requires : goal.join_seat-requires
join_seat-requires g c = let e = c.args.first.now in let w = c.open-token.result.0 in
    (search rules, search rules, search rules, search rules, joins (boxed g.T.Recorded.opening) (boxed g.T.Recorded.history) g.T.Recorded.author _ e.seat.me.0 _ w.me.0 (e.first c.requires.first).0 e.sits.2 (search rules) (search rules))

pub load-requires : goal.load-requires
load-requires g c = let m = c.join_seat.new.seat.me in
    (search rules, search rules, tells (boxed g.T.Recorded.opening) (boxed g.T.Recorded.history) g.T.Recorded.author _ _ m.0 m.1 (search rules) (search rules) (search rules))

pub invariant_of-first-clause-first : goal.invariant_of-first-clause-first
invariant_of-first-clause-first g c = λ is. let e = c.args.first.now.first is in
    (ap (λ m. m.0.chair) c.load.ensures.2.0 ∙ (ap (λ m. m.0.chair) c.join_seat.ensures.2 ∙ e.0), e.1)

pub returns-clause-seen : goal.returns-clause-seen
returns-clause-seen g c = let e = c.args.first.now.seat.me.0 in let m = c.join_seat.new.seat.me.0 in let now = c.load.new.seat.me.0.seen in let tells = c.load.ensures.2 in
    let here = subst (λ l. SeesBoth g.T.Recorded.author m.these m.before m.those m.guest l) (sym (ap (λ z. z.0.seen) tells.0)) tells.1 in
    let both = subst (λ z. SeesBoth g.T.Recorded.author z.0.these z.0.before z.0.those z.0.guest now) c.join_seat.ensures.2 here in
    subst (λ s. SeesBoth g.T.Recorded.author e.numbers e.seen s.me.0.numbers s.me.0.seen now) c.open-token.ensures.0 both
