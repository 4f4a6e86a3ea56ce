use Rattle.std.proofs.Common.{◌≡◌, ◌≤◌, ◌+◌, ℕ, subst, arith, ◌∙◌}
use Rattle.std.specs.Prelude.{◌^◌}
use Rattle.ltm_units.specs.Bounds.{most_slots}
use Rattle.ltm_loading.specs.Setting.{Setting}
use Rattle.ltm_setting.specs.Setting.{setting_of}
use Rattle.ltm_gap.specs.Gaps.{twice_in, late_in}
use Rattle.ltm_gap.specs.Steps.{AddsSlots}
use Rattle.ltm_gap.proofs.Adding.{adds_more, sums_more}
use Rattle.ltm_gap.proofs.pair.Pair.add_origin.Goals as goal

pub add_slot-requires-clause-room : goal.add_slot-requires-clause-room
add_slot-requires-clause-room c =
    let few : c.loop-slot.slot ≤ 10000 = omega arith in
    sums_more (2 ^ 30 + c.loop-slot.slot) (2 ^ 31) c.loop-slot.sums.items (omega arith) (c.loop-slot.invariant.small (2 ^ 30) c.requires.room)

pub loop-slot-preserved : goal.loop-slot-preserved
loop-slot-preserved c =
    let s : Setting = setting_of c.args.scenario.now in
    let i : ℕ = c.loop-slot.slot in
    record {
      pair = c.in_ok-add_slot.ensures.pair;
      count = c.in_ok-add_slot.ensures.count ∙ c.loop-slot.invariant.count;
      adds = adds_more s c.args.loading.now i (λ counts d. twice_in s counts d c.args.origin.0) (λ counts d. late_in s counts d c.args.origin.0) c.args.sums.now.items c.loop-slot.sums.items c.add_slot.new.sums.items
          c.loop-slot.invariant.adds c.in_ok-add_slot.ensures.adds;
      small = λ parts are. sums_more (parts + i + 1) (parts + (i + 1)) c.add_slot.new.sums.items (omega arith) (c.in_ok-add_slot.ensures.small (parts + i) (c.loop-slot.invariant.small parts are));
    }

pub returns-clause-adds : goal.returns-clause-adds
returns-clause-adds c =
    let s : Setting = setting_of c.args.scenario.now in
    let all : c.loop-slot.slot ≡ s.slots = omega arith in
    subst (λ n. AddsSlots s c.args.loading.now c.args.origin.0 n c.args.sums.now.items c.loop-slot.sums.items) all c.loop-slot.invariant.adds

pub returns-clause-small : goal.returns-clause-small
returns-clause-small c = λ parts are. sums_more (parts + c.loop-slot.slot) (parts + most_slots) c.loop-slot.sums.items (omega arith) (c.loop-slot.invariant.small parts are)
