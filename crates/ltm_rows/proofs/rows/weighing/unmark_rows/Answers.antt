use Rattle.std.proofs.Common.{◌≤◌, refl, ap, ◌∙◌, arith, inl, inr, ◌&&◌, not}
use Rattle.ltm_marks.specs.Marks.{is_marked}
use Rattle.ltm_rows.proofs.Unmarking.{starts, goes_on, ended}
use Rattle.ltm_rows.proofs.rows.weighing.unmark_rows.Goals as goal

pub loop-row-init : goal.loop-row-init
loop-row-init c = (starts c.args.marks.now c.args.place c.args.from, inl refl)

pub loop-row-preserved : goal.loop-row-preserved
loop-row-preserved c = (
  goes_on c.args.marks.now c.loop-row.marks _ c.args.place c.args.from c.loop-row.row c.loop-row.auto.row c.loop-row.invariant.0 c.unmark.ensures,
  inr (omega (arith, c.loop-row-test.true)),
)

pub returns-clause-size : goal.returns-clause-size
returns-clause-size c = c.loop-row.invariant.0.size

pub returns-clause-marks : goal.returns-clause-marks
returns-clause-marks c = λ p r x l.
    let past : c.args.to ≤ c.loop-row.row = omega (arith, c.loop-row-test.false) in
    c.loop-row.invariant.0.marks p r x l ∙ ap (λ b. is_marked c.args.marks.now p r && not b) (ended c.args.place c.args.from c.loop-row.row c.args.to p r past c.loop-row.invariant.1)
