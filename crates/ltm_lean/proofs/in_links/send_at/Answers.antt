use Rattle.std.proofs.Common.{◌≡◌, ℕ, ◌+◌, ◌-◌, List, ◌++◌, length, take, arith, ◌∙◌, length-take-le}
use Rattle.ltm_lean_node.proofs.Written.{in_first, in_rest}
use borrow.Rule.Slice.PartMut.{post_of}
use Rattle.ltm_lean.proofs.in_links.send_at.Goals as goal

pub returns-clause-sends : goal.returns-clause-sends
returns-clause-sends c = λ counts us load frozen stood order placed long k l.
    let rest : List ℕ = post_of c.args.from (c.args.from + c.args.wide - c.args.from) c.args.row.now in
    let front : length (take c.args.from c.args.row.now) ≡ c.args.from = length-take-le c.args.from c.args.row.now (omega (arith, c.requires.room)) in
    let wide : length c.send.new.into ≡ c.args.wide = omega (arith, c.send.auto.into, c.requires.room) in
    in_rest (take c.args.from c.args.row.now) (c.send.new.into ++ rest) (c.args.from + k) k (omega (arith, front))
    ∙ (in_first c.send.new.into rest k (omega (arith, wide, l)) ∙ c.in_ok-send.ensures.sends counts us load frozen stood order placed (omega (arith, long, wide, c.send.auto.into)) k (omega (arith, long, l)))
