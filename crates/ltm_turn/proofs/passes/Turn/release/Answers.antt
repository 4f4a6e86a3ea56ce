use Rattle.std.proofs.Common.{rules}
use Rattle.ltm_turn.specs.Boxes.{boxed}
use Rattle.ltm_turn.proofs.Takes.{notes, frees}
use Rattle.ltm_turn.proofs.passes.Turn.release.Goals as goal

pub load-requires : goal.load-requires
load-requires g c = let seat = c.exchange-taken.new.seat in
    (search rules, search rules, notes (boxed g.T.Told.entries) (boxed g.T.Told.number) _ _ seat.me.0 seat.me.1 c.args.value (search rules) (search rules) (search rules) (search rules) (search rules))

pub store-requires : goal.store-requires
store-requires g c = let seat = c.load.new.seat in
    (search rules, search rules, frees (boxed g.T.Told.entries) (boxed g.T.Told.number) _ _ seat.me.0 seat.me.1 c.args.value (search rules) (search rules) (search rules) (search rules) (search rules))
