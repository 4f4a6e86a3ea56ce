use Rattle.std.proofs.Common.{◌-◌, ◌<◌, ap, subst, arith, ◌∙◌}
use Rattle.ltm_loading.specs.Setting.{Setting}
use Rattle.ltm_setting.specs.Setting.{setting_of}
use Rattle.ltm_search.specs.Arrivals.{arrivals_of, arrival_at, millis_of}
use Rattle.ltm_gap.proofs.Adding.{more_of}
use Rattle.ltm_gap.proofs.pair.Pair.sum_with.Goals as goal

pub returns : goal.returns
returns c =
    let s : Setting = setting_of c.args.scenario.now in
    let before = c.requires.before in
    let after = c.requires.after in
    let place = c.place_of.ensures.node in
    more_of s c.args.loading.now c.args.made.origin.0 c.args.made.slot c.args.destination c.units_in-units.result (c.args.made.after - c.args.made.before) c.share_of-late.result c.at_slot-at.result c.args.cut c.arrival-first.result c.args.sum
    c.with.result
    (record {
      of_units = c.units_in-units.ensures.units;
      of_all = omega arith;
      of_step = c.at_slot-at.ensures.step;
      of_slots = c.at_slot-at.ensures.slots;
      of_slot = c.at_slot-at.ensures.slot;
    }) c.requires.cut c.share_of-late.ensures.value
    (λ v counts shows.
    ap millis_of (c.arrival-first.ensures ∙ ap (arrival_at (arrivals_of c.args.self.now.first)) place)
    ∙ c.requires.pair.first.earliest v counts shows (s.place c.args.destination) (subst (λ n. n < s.nodes) place c.place_of.ensures.there))
    c.with.ensures.twice c.with.ensures.late c.with.ensures.small_twice c.with.ensures.small_late
