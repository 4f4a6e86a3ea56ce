use Rattle.std.proofs.Common.{ℕ, ◌+◌, List, arith, sym, subst}
use Rattle.ltm_splits.specs.Rows.{SplitRow}
use Rattle.ltm_setting.specs.Setting.{setting_of}
use Rattle.ltm_used.proofs.Marking.{MarksTo, marks_none, marks_over, marks_more}
use Rattle.ltm_used.proofs.leading.mark_row.Goals as goal
use Rattle.ltm_used.proofs.leading.mark_row.Goals.{then-weights-place-ne0, else-weights-place-ne0}

pub loop-place-init : goal.loop-place-init
loop-place-init c = marks_none (setting_of c.args.scenario.now) c.args.goes.now (c.args.key, c.args.weights.now)

pub loop-place-preserved : goal.loop-place-preserved
loop-place-preserved c =
    let s = setting_of c.args.scenario.now in
    let row : SplitRow = (c.args.key, c.args.weights.now) in
    elim c.if-weights-place-ne0.branch [
      | then-weights-place-ne0 w ↦
          subst (λ (xs : List ℕ). MarksTo s c.args.goes.now xs (c.args.key, c.args.weights.now) (c.loop-place.place + 1)) (sym w.goes-is)
          (marks_more s c.args.goes.now c.loop-place.goes w.mark.new.goes (c.args.key, c.args.weights.now) c.loop-place.place w.out_link_at-link.result.0 c.loop-place.invariant w.mark.ensures.keeps w.out_link_at-link.ensures.link w.mark.ensures.here)
      | else-weights-place-ne0 w ↦
          subst (λ (xs : List ℕ). MarksTo s c.args.goes.now xs (c.args.key, c.args.weights.now) (c.loop-place.place + 1)) (sym w.goes-is)
          (marks_over s c.args.goes.now c.loop-place.goes (c.args.key, c.args.weights.now) c.loop-place.place c.loop-place.invariant (omega (arith, w.if-weights-place-ne0.false)))
    ]
