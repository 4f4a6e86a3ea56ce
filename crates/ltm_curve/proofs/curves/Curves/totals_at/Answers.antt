use Rattle.std.proofs.Common.{◌≡◌, ℕ, ◌+◌, ◌-◌, ◌*◌, List, take, drop, slice_index, arith, ap}
use Rattle.ltm_curve.proofs.Kept.{kept_at, counts_at}
use Rattle.ltm_curve.proofs.curves.Curves.totals_at.Goals as goal

pub returns-then-self-gt2-clause-totals : goal.returns-then-self-gt2-clause-totals
returns-then-self-gt2-clause-totals c = λ g l.
    let from : ℕ = c.args.boundary * c.args.self.now.groups in
    let row : List ℕ = take (from + c.args.self.now.groups - from) (drop from c.deref.result.now) in
    let here : g * 1 + 0 ≡ g = omega arith in
    omega (arith, ap (slice_index row) here, kept_at c.args.self.now c.args.boundary g c.deref.result.now c.deref.ensures.value c.if-self-gt2.true c.requires.boundary l)

pub returns-clause-totals : goal.returns-clause-totals
returns-clause-totals c = λ g l. counts_at c.args.self.now c.args.boundary g c.deref-2.result.now c.deref-2.ensures.value (omega (arith, c.if-self-gt2.false)) l
