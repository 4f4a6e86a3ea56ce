use Rattle.std.proofs.Common.{◌+◌, ◌*◌, ℕ, replicate, arith, ◌∙◌}
use Rattle.std.specs.Prelude.{◌^◌}
use Rattle.ltm_units.specs.Bounds.{most_slots}
use Rattle.ltm_loading.specs.Setting.{Setting}
use Rattle.ltm_setting.specs.Setting.{setting_of}
use Rattle.ltm_gap.specs.Steps.{no_sum}
use Rattle.ltm_gap.specs.Parts.{of_part, twice_from, late_from}
use Rattle.ltm_gap.proofs.Adding.{adds_more, sums_more}
use Rattle.ltm_gap.proofs.Parting.{is_part}
use Rattle.ltm_gap.proofs.parts.sums_of.Goals as goal

pub loop-origin-preserved : goal.loop-origin-preserved
loop-origin-preserved c =
    let s : Setting = setting_of c.args.scenario.now in
    let i : ℕ = c.loop-origin.origin in
    record {
      pair = c.in_ok-add_owned.ensures.pair;
      count = c.in_ok-add_owned.ensures.count ∙ c.loop-origin.invariant.count;
      adds = adds_more s c.args.loading.now i (λ counts d. of_part c.args.owners.now c.args.part (twice_from s counts d)) (λ counts d. of_part c.args.owners.now c.args.part (late_from s counts d)) (replicate s.destinations no_sum)
          c.loop-origin.sums.items c.add_owned.new.sums.items c.loop-origin.invariant.adds c.in_ok-add_owned.ensures.adds;
      small = sums_more (i * most_slots + most_slots) ((i + 1) * most_slots) c.add_owned.new.sums.items (omega arith) (c.in_ok-add_owned.ensures.small (i * most_slots) c.loop-origin.invariant.small);
    }

pub returns : goal.returns
returns c =
    let s : Setting = setting_of c.args.scenario.now in
    let i : ℕ = c.loop-origin.origin in
    let few = c.node_count-origin-end.ensures.few in
    is_part s c.args.loading.now c.args.owners.now c.args.part i s.destinations c.loop-origin.sums.items (omega arith) c.loop-origin.invariant.count c.loop-origin.invariant.adds
    (sums_more (i * most_slots) (2 ^ 30) c.loop-origin.sums.items (omega arith) c.loop-origin.invariant.small)
