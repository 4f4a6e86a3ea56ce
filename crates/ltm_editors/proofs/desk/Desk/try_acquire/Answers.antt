use Rattle.std.proofs.Common.{rules, Some}
use Rattle.ltm_editors.specs.Boxes.{boxed}
use Rattle.ltm_editors.proofs.Takes.{takes, won, slot_there}
use Rattle.ltm_editors.proofs.desk.Desk.try_acquire.Goals as goal

pub compare_exchange-requires : goal.compare_exchange-requires
compare_exchange-requires g c = (search rules, search rules, takes (boxed g.T.Recorded.opening) (boxed g.T.Recorded.history) g.T.Recorded.author _ _ c.args.seat.now.me.0 c.args.seat.now.me.1 (search rules) (search rules))

pub exchange-requires : goal.exchange-requires
exchange-requires g c =
    let m = c.args.seat.now.me in
    let m' = c.compare_exchange.new.seat.me in
    let w = won (boxed g.T.Recorded.opening) (boxed g.T.Recorded.history) g.T.Recorded.author m _ m' c.compare_exchange.ensures.2 c.if-compare_exchange-eq0.true in
    (search rules, (Some w.0, slot_there (boxed g.T.Recorded.opening) (boxed g.T.Recorded.history) g.T.Recorded.author m m' w))
