use Rattle.std.proofs.Common.{◌≡◌, ℕ, ◌-◌, List, length, slice_index, ap, arith}
use Rattle.ltm_setting.specs.Setting.{setting_of}
use Rattle.ltm_rows.specs.Starts.{AreStarts}
use Rattle.ltm_rows.proofs.Startings.{starts_rise}
use Rattle.ltm_rows.proofs.layout.Layout.create.Goals as goal

pub invariant_of-result : goal.invariant_of-result
invariant_of-result c =
    let xs : List ℕ = c.in_ok-starts.starts.items in
    let h : AreStarts (setting_of c.args.scenario.now) c.args.part (setting_of c.args.scenario.now).nodes xs = c.in_ok-starts.ensures in
    let last : length xs - 1 ≡ (setting_of c.args.scenario.now).nodes = omega (h.long, arith) in
    record {
      some = omega (h.long, arith);
      few = omega (arith, ap (slice_index xs) last, h.small, c.node_count-nodes.ensures.few, c.node_count-nodes.ensures.value);
      rising = starts_rise (setting_of c.args.scenario.now) c.args.part (setting_of c.args.scenario.now).nodes xs h;
    }
