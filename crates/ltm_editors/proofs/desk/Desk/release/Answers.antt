use Rattle.std.proofs.Common.{rules}
use Rattle.ltm_editors.specs.Boxes.{boxed}
use Rattle.ltm_editors.proofs.Takes.{frees}
use Rattle.ltm_editors.proofs.desk.Desk.release.Goals as goal

pub store-requires : goal.store-requires
store-requires g c = let seat = c.exchange-taken.new.seat in
    (search rules, search rules, frees (boxed g.T.Recorded.opening) (boxed g.T.Recorded.history) g.T.Recorded.author _ _ seat.me.0 seat.me.1 c.args.value (search rules) (search rules) (search rules) (search rules) (search rules) (search rules))
