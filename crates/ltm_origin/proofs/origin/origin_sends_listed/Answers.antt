use Rattle.std.proofs.Common.{rules, ◌≡◌, ◌+◌, ◌≤◌, length, slice_index, arith, sym, ◌∙◌}
use Rattle.ltm_curve.specs.Counts.{total}
use Rattle.ltm_curve.specs.First.{first_units}
use Rattle.ltm_curve.proofs.Lists.{none_at}
use Rattle.ltm_loading.specs.Flows.{origin_goal}
use Rattle.ltm_loading.specs.Ready.{IsOriginReady}
use Rattle.ltm_loading.proofs.Front.{earlier_front}
use Rattle.ltm_setting.specs.Setting.{setting_of}
use Rattle.ltm_standing.proofs.Links.{picked}
use Rattle.ltm_standing.proofs.Thin.{ascends_before}
use Rattle.ltm_thin.proofs.Thinning.{ascends_few}
use Rattle.ltm_origin.proofs.Firsts.{part_listed, whole_listed, nothing_waits, sends_listed}
use Rattle.ltm_origin.proofs.origin.origin_sends_listed.Goals as goal

pub returns-then-goal-left : goal.returns-then-goal-left
returns-then-goal-left c = λ counts load h i l.
    let s = setting_of c.args.scenario.now in
    let zero : slice_index c.fill.new.self i ≡ 0 = search rules in
    let goal : c.min-goal.result ≡ origin_goal (setting_of c.args.scenario.now) counts c.args.node.0 c.args.slot =
    omega (arith, c.min-goal.ensures, c.saturating_add.ensures, c.produced_total-all.ensures.value, c.produced_total-all.ensures.small, c.origin_capacity.ensures.value, h.all) in
    let ready : IsOriginReady (setting_of c.args.scenario.now) counts c.args.node.0 c.args.slot =
    c.origins_are_ready.ensures (setting_of c.args.scenario.now) counts c.args.node.0 c.args.slot c.is_setting.ensures.setting (earlier_front (setting_of c.args.scenario.now) counts _ c.args.slot load.front (omega (arith, c.requires.slot))) c.requires.slot c.requires.node c.requires.some_out in
    zero
    ∙ sym (nothing_waits (setting_of c.args.scenario.now) counts c.args.node.0 c.args.slot (slice_index c.args.list.now i) ready (omega (arith, goal, h.all, c.if-goal-left.true)) (ascends_before 0 s.destinations c.args.list.now c.requires.order i l))

pub invariant_of-rows-clause-few : goal.invariant_of-rows-clause-few
invariant_of-rows-clause-few c = let few : length c.args.list.now ≤ (setting_of c.args.scenario.now).destinations = ascends_few (setting_of c.args.scenario.now).destinations c.args.list.now c.requires.order in omega (arith, few, c.destination_count-destinations.ensures.value, c.destination_count-destinations.ensures.few)

pub invariant_of-rows-clause-whole : goal.invariant_of-rows-clause-whole
invariant_of-rows-clause-whole c = whole_listed (setting_of c.args.scenario.now) c.args.node.0 c.args.list.now c.is_setting.ensures.setting c.requires.node c.requires.order c.requires.others

pub first_less_of-requires-clause-part : goal.first_less_of-requires-clause-part
first_less_of-requires-clause-part c =
    let few : c.min-goal.result ≤ total (setting_of c.args.scenario.now).destinations ((setting_of c.args.scenario.now).produced c.args.node.0) (c.args.slot + 1) = omega (arith, c.min-goal.ensures, c.produced_total-all.ensures.value) in
    part_listed (setting_of c.args.scenario.now) c.args.node.0 c.args.slot c.min-goal.result c.args.list.now c.is_setting.ensures.setting c.requires.node c.requires.slot c.requires.order c.requires.others few

pub first_less_of-requires-clause-behind : goal.first_less_of-requires-clause-behind
first_less_of-requires-clause-behind c = λ d l. omega (arith, none_at (length c.args.list.now) 2000 d l)

pub returns : goal.returns
returns c = λ counts load h i l.
    let s = setting_of c.args.scenario.now in
    let few : c.min-goal.result ≤ total (setting_of c.args.scenario.now).destinations ((setting_of c.args.scenario.now).produced c.args.node.0) (c.args.slot + 1) = omega (arith, c.min-goal.ensures, c.produced_total-all.ensures.value) in
    let goal : c.min-goal.result ≡ origin_goal (setting_of c.args.scenario.now) counts c.args.node.0 c.args.slot =
    omega (arith, c.min-goal.ensures, c.saturating_add.ensures, c.produced_total-all.ensures.value, c.produced_total-all.ensures.small, c.origin_capacity.ensures.value, h.all) in
    let first : slice_index c.first_less_of.new.into i ≡ first_units (length c.args.list.now) (picked ((setting_of c.args.scenario.now).produced c.args.node.0) c.args.list.now) c.min-goal.result (c.args.slot + 1) i =
    c.first_less_of.ensures i l ∙ omega (arith, none_at (length c.args.list.now) 2000 i l) in
    c.take_away.ensures i (search rules)
    ∙ sends_listed (setting_of c.args.scenario.now) counts c.args.node.0 c.args.slot c.min-goal.result c.args.list.now c.args.left c.args.gone.now i (slice_index c.first_less_of.new.into i) c.is_setting.ensures.setting c.requires.node c.requires.slot c.requires.order c.requires.others few h goal l first
