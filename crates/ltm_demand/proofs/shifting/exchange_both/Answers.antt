use Rattle.std.proofs.Common.{refl, arith, inl, inr}
use Rattle.ltm_demand.proofs.Cells.{next_slot, first_place, one_set, both_set}
use Rattle.ltm_demand.proofs.shifting.exchange_both.Goals as goal

pub exchange-requires-clause-place : goal.exchange-requires-clause-place
exchange-requires-clause-place c = omega (arith, next_slot c.args.slot c.args.width, c.requires.within, c.requires.own)

pub exchange-requires-clause-has : goal.exchange-requires-clause-has
exchange-requires-clause-has c = omega (arith, first_place c.args.units.now c.args.slot c.args.width, c.requires.has 0 (inl refl))

pub exchange-requires-clause-room : goal.exchange-requires-clause-room
exchange-requires-clause-room c = omega (arith, first_place c.args.units.now c.args.slot c.args.width, c.requires.room 0 (inl refl))

pub exchange-requires-2-clause-place : goal.exchange-requires-2-clause-place
exchange-requires-2-clause-place c = (one_set c.args.units.now c.exchange.new.units c.args.width c.args.own c.args.slot _ c.exchange.ensures c.requires.behind c.requires.own c.requires.within).0

pub exchange-requires-2-clause-has : goal.exchange-requires-2-clause-has
exchange-requires-2-clause-has c =
    let stays = (one_set c.args.units.now c.exchange.new.units c.args.width c.args.own c.args.slot _ c.exchange.ensures c.requires.behind c.requires.own c.requires.within).1 in
    omega (arith, stays, c.requires.has c.args.own (inr refl))

pub exchange-requires-2-clause-room : goal.exchange-requires-2-clause-room
exchange-requires-2-clause-room c =
    let stays = (one_set c.args.units.now c.exchange.new.units c.args.width c.args.own c.args.slot _ c.exchange.ensures c.requires.behind c.requires.own c.requires.within).1 in
    omega (arith, stays, c.requires.room c.args.own (inr refl))

pub returns : goal.returns
returns c =
    let all = both_set c.args.units.now c.exchange.new.units c.exchange-2.new.units c.args.width c.args.own c.args.slot c.args.gone c.args.come c.exchange.ensures c.exchange-2.ensures c.requires.behind c.requires.own c.requires.within c.requires.has in
    record { len = all.len; here = all.here; elsewhere = all.elsewhere; others = all.others }
