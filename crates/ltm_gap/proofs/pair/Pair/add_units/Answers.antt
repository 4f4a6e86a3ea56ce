use Rattle.std.proofs.Common.{◌<◌, List, length, arith, subst}
use Rattle.std.proofs.lemmas.List.{get_or_read}
use Rattle.ltm_loading.specs.Setting.{Setting}
use Rattle.ltm_setting.specs.Setting.{setting_of}
use Rattle.ltm_gap.specs.declared.sums.Sum.{Sum}
use Rattle.ltm_gap.specs.Steps.{no_sum, IsMore}
use Rattle.ltm_gap.proofs.Adding.{one_more, slot_added}
use Rattle.ltm_gap.proofs.pair.Pair.add_units.Goals as goal

pub loop-destination-preserved : goal.loop-destination-preserved
loop-destination-preserved c = record {
  pair = c.in_ok-sums.ensures.pair;
  adds =
      let count = c.loop-destination.invariant.adds.count in
      let all = c.requires.count in
      let more = c.loop-destination-test.true in
      let end = c.destination_count-destination-end.ensures.value in
      let s : Setting = setting_of c.args.scenario.now in
      let sums : List Sum = c.loop-destination.sums.items in
      let low : c.loop-destination.destination < length sums = omega arith in
      let read = get_or_read sums c.loop-destination.destination c.index-sum.result.now low c.index-sum.ensures no_sum in
      one_more (setting_of c.args.scenario.now) c.args.loading.now c.args.made.origin.0 c.args.made.slot c.loop-destination.destination c.args.sums.now.items c.loop-destination.sums.items c.in_ok-sums.field-0 low
      (subst (λ (z : Sum). IsMore s c.args.loading.now c.args.made.origin.0 c.args.made.slot c.loop-destination.destination z c.in_ok-sums.field-0) read c.in_ok-sums.ensures.sum) c.loop-destination.invariant.adds;
}

pub returns-clause-adds : goal.returns-clause-adds
returns-clause-adds c =
    slot_added (setting_of c.args.scenario.now) c.args.loading.now c.args.made.origin.0 c.args.made.slot c.loop-destination.destination c.args.sums.now.items c.loop-destination.sums.items
    (omega arith) c.loop-destination.invariant.adds
