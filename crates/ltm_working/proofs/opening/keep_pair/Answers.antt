use Rattle.std.proofs.Common.{◌≤◌, ℕ, List, length, slice_index, replicate, ap, refl, sym, ◌∙◌, subst, arith}
use Rattle.ltm_curve.specs.Table.{counts_of}
use Rattle.ltm_node.specs.Inputs.{Inputs}
use Rattle.ltm_node.specs.Shape.{counts_begin}
use Rattle.ltm_node.specs.Uncounted.{uncounted}
use Rattle.ltm_setting.specs.Setting.{setting_of}
use Rattle.ltm_inputs.specs.Parts.{weights_part}
use Rattle.ltm_inputs.proofs.Idle.{none_sent}
use Rattle.ltm_rows.specs.declared.layout.Layout.{Layout}
use Rattle.ltm_rows.specs.declared.layout.Part.TheVariants.{Amounts, Weights}
use Rattle.ltm_rows.specs.Layouts.{width_in}
use Rattle.ltm_rows.specs.Starts.{part_width}
use Rattle.ltm_rows.specs.Parts.{amounts_in}
use Rattle.ltm_rows.specs.Rows.{weights_of, PutsRow}
use Rattle.ltm_working.proofs.Weighing.{flows_amounts, inputs_amounts, limits_small, whole_row, puts_weighed}
use Rattle.ltm_working.proofs.Openings.{idle_inputs}
use Rattle.ltm_working.proofs.Beginnings.{keeps_next}
use Rattle.ltm_working.proofs.opening.keep_pair.Goals as goal

pub flows_of-requires-clause-places : goal.flows_of-requires-clause-places
flows_of-requires-clause-places c = omega (arith, c.requires.setting.small.few_ins c.args.pair.node.0 c.requires.node)

pub place_first-requires-clause-places : goal.place_first-requires-clause-places
place_first-requires-clause-places c = omega (arith, c.flows_of.auto.positions, c.requires.setting.small.few_ins c.args.pair.node.0 c.requires.node)

pub weigh-requires-clause-before : goal.weigh-requires-clause-before
weigh-requires-clause-before c = λ t at.
    let now = c.requires.front.now in
    c.requires.keeps.weights c.args.pair.node.0 t c.requires.node (omega (arith, at, now)) (c.requires.keeps.earlier c.args.pair.node.0 t c.requires.node (omega (arith, at))).weighed

-- ---- where the arms send nothing
pub put_limits-requires-clause-amounts : goal.put_limits-requires-clause-amounts
put_limits-requires-clause-amounts c =
    let u : ℕ = c.args.pair.node.0 in
    c.parts_of.ensures.amounts
    ∙ (ap (part_width Amounts) c.flows_of.ensures.flows.shape ∙ sym (ap (λ (p : Layout). width_in p u) c.weigh.ensures.places.narrow ∙ c.requires.keeps.rows.amounts.widths u c.requires.node))

pub put_limits-requires-clause-limits_small : goal.put_limits-requires-clause-limits_small
put_limits-requires-clause-limits_small c =
    limits_small (setting_of c.args.scenario.now) (counts_of c.args.curves.now) c.args.pair.slot c.args.pair.node.0 c.flows_of.new.into c.parts_of.result.limits.now c.uncounted_in_range.ensures
    c.requires.setting c.requires.front.front c.requires.front.now c.requires.node c.flows_of.ensures.flows c.parts_of.ensures.limits

pub put_limits-requires-clause-zeros : goal.put_limits-requires-clause-zeros
put_limits-requires-clause-zeros c =
    let u : ℕ = c.args.pair.node.0 in
    c.weigh.ensures.amounts u c.args.pair.slot
    ∙ (c.requires.keeps.rest u (omega arith) c.requires.node c.requires.front.now ∙ ap (λ (p : Layout). replicate (width_in p u) 0) (sym c.weigh.ensures.places.narrow))

pub put_limits-requires-clause-idle : goal.put_limits-requires-clause-idle
put_limits-requires-clause-idle c = λ i l.
    let n : Inputs = c.flows_of.new.into in
    let long : counts_begin n.shape ≤ length n.row = omega (arith, c.flows_of.ensures.flows.width) in
    ap (λ (z : List ℕ). slice_index z i) c.parts_of.ensures.sends ∙ none_sent n n.row refl long (c.is_sent.ensures.0 c.if-not-is_sent.true) i (omega (arith, l, ap length c.parts_of.ensures.sends))

pub returns-then-not-is_sent-clause-keeps : goal.returns-then-not-is_sent-clause-keeps
returns-then-not-is_sent-clause-keeps c =
    let s = setting_of c.args.scenario.now in
    let counts = counts_of c.args.curves.now in
    let u : ℕ = c.args.pair.node.0 in
    let v : ℕ = c.args.pair.slot in
    let parts = c.parts_of.result in
    let amounts = flows_amounts s counts u v c.flows_of.new.into parts.sends.now parts.limits.now c.flows_of.ensures.flows c.parts_of.ensures.sends c.parts_of.ensures.limits in
    let row = whole_row s counts u v (amounts_in parts) (weights_of c.weigh.new.self u v) amounts c.weigh.ensures.here in
    keeps_next s counts c.args.kept.now c.put_limits.new.self c.args.index.now c.place_first.new.index v u c.requires.setting c.requires.node c.requires.front.now c.requires.keeps
    (puts_weighed c.args.kept.now c.weigh.new.self c.put_limits.new.self u v (weights_part s u v) _ c.weigh.ensures (subst (λ (z : List ℕ). PutsRow c.weigh.new.self c.put_limits.new.self u v z) row c.put_limits.ensures))
    c.place_first.ensures

pub returns-then-not-is_sent-clause-idle : goal.returns-then-not-is_sent-clause-idle
returns-then-not-is_sent-clause-idle c = λ no.
    idle_inputs (setting_of c.args.scenario.now) (counts_of c.args.curves.now) c.args.pair.node.0 c.args.pair.slot c.flows_of.new.into c.flows_of.ensures.flows.shape c.flows_of.ensures.flows.sends
    (c.is_sent.ensures.0 c.if-not-is_sent.true)

-- ---- where they send something
pub weigh_as-requires : goal.weigh_as-requires
weigh_as-requires c =
    let u : ℕ = c.args.pair.node.0 in
    c.weights.ensures.width
    ∙ (ap (λ (p : Layout). width_in p u) c.weigh.ensures.places.wide ∙ (c.requires.keeps.rows.weights.widths u c.requires.node ∙ sym (ap (part_width Weights) c.flows_of.ensures.flows.shape)))

pub put_again-requires-clause-amounts : goal.put_again-requires-clause-amounts
put_again-requires-clause-amounts c =
    let u : ℕ = c.args.pair.node.0 in
    c.parts_of-2.ensures.amounts
    ∙ (ap (part_width Amounts) (c.weigh_as.ensures.shape ∙ c.flows_of.ensures.flows.shape)
    ∙ sym (ap (λ (p : Layout). width_in p u) c.weigh.ensures.places.narrow ∙ c.requires.keeps.rows.amounts.widths u c.requires.node))

pub put_again-requires-clause-sends_small : goal.put_again-requires-clause-sends_small
put_again-requires-clause-sends_small c =
    let s = setting_of c.args.scenario.now in
    let counts = counts_of c.args.curves.now in
    let u : ℕ = c.args.pair.node.0 in
    let read = c.weigh_as.ensures.inputs s counts u c.args.pair.slot c.flows_of.ensures.flows (c.weights.ensures.row ∙ c.weigh.ensures.here) in
    (c.parts_of-2.ensures.narrow_uncounted (c.uncounted_in_range.ensures s counts c.args.pair.slot u (uncounted c.weigh_as.new.into) c.requires.setting c.requires.front.front c.requires.front.now c.requires.node read)).sends

pub put_again-requires-clause-limits_small : goal.put_again-requires-clause-limits_small
put_again-requires-clause-limits_small c =
    let s = setting_of c.args.scenario.now in
    let counts = counts_of c.args.curves.now in
    let u : ℕ = c.args.pair.node.0 in
    let read = c.weigh_as.ensures.inputs s counts u c.args.pair.slot c.flows_of.ensures.flows (c.weights.ensures.row ∙ c.weigh.ensures.here) in
    (c.parts_of-2.ensures.narrow_uncounted (c.uncounted_in_range.ensures s counts c.args.pair.slot u (uncounted c.weigh_as.new.into) c.requires.setting c.requires.front.front c.requires.front.now c.requires.node read)).limits

pub returns-clause-keeps : goal.returns-clause-keeps
returns-clause-keeps c =
    let s = setting_of c.args.scenario.now in
    let counts = counts_of c.args.curves.now in
    let u : ℕ = c.args.pair.node.0 in
    let v : ℕ = c.args.pair.slot in
    let parts = c.parts_of-2.result in
    let read = c.weigh_as.ensures.inputs s counts u v c.flows_of.ensures.flows (c.weights.ensures.row ∙ c.weigh.ensures.here) in
    let amounts = inputs_amounts s counts u v c.weigh_as.new.into parts.sends.now parts.limits.now read c.parts_of-2.ensures.sends c.parts_of-2.ensures.limits in
    let row = whole_row s counts u v (amounts_in parts) (weights_of c.weigh.new.self u v) amounts c.weigh.ensures.here in
    keeps_next s counts c.args.kept.now c.put_again.new.self c.args.index.now c.place_first.new.index v u c.requires.setting c.requires.node c.requires.front.now c.requires.keeps
    (puts_weighed c.args.kept.now c.weigh.new.self c.put_again.new.self u v (weights_part s u v) _ c.weigh.ensures (subst (λ (z : List ℕ). PutsRow c.weigh.new.self c.put_again.new.self u v z) row c.put_again.ensures))
    c.place_first.ensures

pub returns-clause-inputs : goal.returns-clause-inputs
returns-clause-inputs c = λ yes.
    c.weigh_as.ensures.inputs (setting_of c.args.scenario.now) (counts_of c.args.curves.now) c.args.pair.node.0 c.args.pair.slot c.flows_of.ensures.flows (c.weights.ensures.row ∙ c.weigh.ensures.here)

pub returns-clause-solvable : goal.returns-clause-solvable
returns-clause-solvable c = λ yes.
    let s = setting_of c.args.scenario.now in
    let counts = counts_of c.args.curves.now in
    let u : ℕ = c.args.pair.node.0 in
    let read = c.weigh_as.ensures.inputs s counts u c.args.pair.slot c.flows_of.ensures.flows (c.weights.ensures.row ∙ c.weigh.ensures.here) in
    c.uncounted_in_range.ensures s counts c.args.pair.slot u (uncounted c.weigh_as.new.into) c.requires.setting c.requires.front.front c.requires.front.now c.requires.node read
