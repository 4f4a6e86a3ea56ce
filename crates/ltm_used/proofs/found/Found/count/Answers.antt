use Rattle.std.proofs.Common.{rules, arith, ◌≡◌, length}
use Rattle.ltm_used.proofs.Finding.{count_within}
use Rattle.ltm_used.proofs.found.Found.count.Goals as goal

pub returns-clause-within : goal.returns-clause-within
returns-clause-within c =
    let s = c.args.self.now in
    let e : c.len.result ≡ length s.order.items = search rules in
    omega (arith, e, count_within s)
