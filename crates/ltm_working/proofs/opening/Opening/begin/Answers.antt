use Rattle.std.proofs.Common.{◌≡◌, ◌∙◌, ap, arith, subst, ℕ}
use Rattle.ltm_units.specs.Bounds.{widest_row}
use Rattle.ltm_curve.specs.Table.{counts_of}
use Rattle.ltm_node.specs.Inputs.{Inputs}
use Rattle.ltm_node.specs.Outputs.{Outputs}
use Rattle.ltm_setting.specs.Setting.{setting_of}
use Rattle.ltm_flows.proofs.Progress.{working_start}
use Rattle.ltm_rows.specs.Rows.{HasRows}
use Rattle.ltm_working.proofs.Beginnings.{keeps_first}
use Rattle.ltm_working.proofs.Dropping.{most_wide}
use Rattle.ltm_working.proofs.opening.Opening.begin.Goals as goal

pub returns : goal.returns
returns c =
    let s = setting_of c.args.scenario.now in
    let wide : c.in_ok-inputs.inputs.room ≡ widest_row = ap (λ (n : Inputs). n.room) c.in_ok-inputs.ensures in
    let wide_out : c.in_ok-outputs.outputs.room ≡ widest_row = ap (λ (o : Outputs). o.room) c.in_ok-outputs.ensures in
    record {
      working = working_start s c.in_ok-curves.curves c.in_ok-curves.ensures.shape c.in_ok-curves.ensures.empty;
      keeps = keeps_first s (counts_of c.in_ok-curves.curves) c.in_ok-kept.kept c.in_ok-index.index
          (subst (λ (n : ℕ). HasRows s n c.in_ok-kept.kept) c.slot_count-slots.ensures.value c.in_ok-kept.ensures.rows)
          (record { links = c.in_ok-index.ensures.links ∙ c.link_count.ensures.value; slots = c.in_ok-index.ensures.slots ∙ c.slot_count-slots.ensures.value })
          c.in_ok-kept.ensures.none_weighed c.in_ok-kept.ensures.zeros;
      begins = c.in_ok-begins.ensures.tells;
      inputs = λ u x. omega (arith, most_wide s u c.is_setting.ensures.setting x, wide);
      outputs = λ u x. omega (arith, most_wide s u c.is_setting.ensures.setting x, wide_out);
    }
