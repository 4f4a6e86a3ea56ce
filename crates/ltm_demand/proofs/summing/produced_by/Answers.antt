use Rattle.std.proofs.Common.{◌≡◌, ◌+◌, ◌-◌, ◌*◌, ◌/◌, ◌<◌, ◌≤◌, ℕ, arith, ap, sym, ◌∙◌}
use Rattle.ltm_demand.proofs.Parts.{produced_start, produced_after, produced_going}
use Rattle.ltm_demand.proofs.summing.produced_by.Goals as goal

pub returns-then-slot-row : goal.returns-then-slot-row
returns-then-slot-row c = let row = c.args.row.now in sym (produced_start row.from row.to row.amount.0 c.args.slot c.if-slot-row.true)

pub returns-then-from-passed : goal.returns-then-from-passed
returns-then-from-passed c = let row = c.args.row.now in sym (produced_after row.from row.to row.amount.0 c.args.slot (omega (arith, c.if-slot-row.false)) (omega (arith, c.if-from-passed.true, c.from.ensures, c.from-passed.ensures)))

pub returns : goal.returns
returns c =
    let row = c.args.row.now in
    let passed : c.from-passed.result + 1 - c.from-2.result ≡ c.args.slot + 1 - row.from = omega (arith, c.from-passed.ensures, c.from-2.ensures) in
    let slots : c.from-3.result ≡ row.to - row.from = c.from-3.ensures in
    ap (λ k. row.amount.0 * k / c.from-3.result) passed ∙ ap (λ n. row.amount.0 * (c.args.slot + 1 - row.from) / n) slots
    ∙ sym (produced_going row.from row.to row.amount.0 c.args.slot (omega (arith, c.if-slot-row.false)) (omega (arith, c.if-from-passed.false, c.from.ensures, c.from-passed.ensures)))
