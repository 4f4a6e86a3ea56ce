use Rattle.std.proofs.Common.{◌∙◌, arith}
use Rattle.ltm_curve.proofs.Longer.{length_longer}
use Rattle.ltm_flows.proofs.Producing.{more_are, more_stay, more_long}
use Rattle.ltm_flows.proofs.production.Production.reserve.Goals as goal

pub add_zeros-requires : goal.add_zeros-requires
add_zeros-requires c = omega (arith, c.args.self.now.are.long, c.table_size.ensures, more_long c.args.self.now.nodes c.args.self.now.room c.args.room (omega (arith, c.if-room-self.false)))

pub invariant_of-self-2-clause-are : goal.invariant_of-self-2-clause-are
invariant_of-self-2-clause-are c =
    let more = more_long c.args.self.now.nodes c.args.self.now.room c.args.room (omega (arith, c.if-room-self.false)) in
    more_are c.args.self.now.nodes c.args.self.now.room c.args.room c.args.self.now.amounts.items c.add_zeros.new.amounts.items _ c.args.self.now.are (omega (arith, c.if-room-self.false)) c.in_ok-add_zeros.ensures.ok
    (length_longer c.args.self.now.amounts.items c.add_zeros.new.amounts.items c.table_size.result c.in_ok-add_zeros.ensures.ok (omega (arith, c.args.self.now.are.long, c.table_size.ensures, more)) ∙ c.table_size.ensures)

pub returns-clause-same : goal.returns-clause-same
returns-clause-same c = more_stay c.args.self.now.nodes c.args.self.now.room c.args.self.now.amounts.items c.add_zeros.new.amounts.items _ c.args.self.now.are c.in_ok-add_zeros.ensures.ok
