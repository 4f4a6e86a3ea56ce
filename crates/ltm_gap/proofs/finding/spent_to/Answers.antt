use Rattle.std.proofs.Common.{rules, ℕ, ◌+◌, ◌*◌, ap, arith, ◌∙◌}
use Rattle.ltm_setting.specs.Setting.{setting_of}
use Rattle.ltm_gap.proofs.Spent.{spent_next, spent_all}
use Rattle.ltm_gap.proofs.finding.spent_to.Goals as goal

pub loop-slot-preserved : goal.loop-slot-preserved
loop-slot-preserved c = record {
  sum = λ v counts shows.
      ap (λ (n : ℕ). c.loop-slot.sum + n) (c.from-sum.ensures ∙ c.saturating_sub.ensures)
      ∙ spent_next (setting_of c.args.scenario.now) counts c.args.destination c.loop-slot.slot c.loop-slot.sum c.produced_to-produced.result c.arrived_at-arrived.result (c.loop-slot.invariant.sum v counts shows) c.produced_to-produced.ensures.value
      (c.arrived_at-arrived.ensures v counts shows);
  small = search rules;
}

pub returns : goal.returns
returns c = λ v counts shows.
    ap (λ (n : ℕ). c.loop-slot.sum * n) (c.from.ensures)
    ∙ spent_all (setting_of c.args.scenario.now) counts c.args.destination c.loop-slot.slot c.loop-slot.sum c.step.result.0 (c.loop-slot.invariant.sum v counts shows) (omega (arith, c.loop-slot-test.false, c.slot_count-slot-end.ensures.value, c.loop-slot.auto.slot-end)) c.step.ensures.value
