use Rattle.std.proofs.Common.{◌≡◌, ◌∙◌, ◌++◌, List, ℕ, length, ap, arith}
use Rattle.ltm_curve.specs.Table.{counts_of}
use Rattle.ltm_node.specs.declared.shape.NodeShape.{NodeShape}
use Rattle.ltm_node.specs.Shape.{counts_begin, counts_width}
use Rattle.ltm_setting.specs.Setting.{setting_of}
use Rattle.ltm_inputs.specs.Parts.{supply_part}
use Rattle.ltm_inputs.proofs.Weighing.{limits_written}
use Rattle.ltm_inputs.proofs.flows.put_flows_in_front.Goals as goal

pub returns-clause-limits : goal.returns-clause-limits
returns-clause-limits c =
    let s = setting_of c.args.front.scenario.now in
    let counts = counts_of c.args.front.curves.now in
    let u = c.args.pair.node.0 in
    let t = c.args.pair.slot in
    let shape : NodeShape = c.args.shape in
    let xs : List ℕ = c.put_flows.new.sending in
    let ys : List ℕ = c.split_at_mut-counts.result.0.now in
    let supply : List ℕ = c.put_flows.new.supply in
    let capacity : List ℕ = c.put_flows.new.capacity in
    let x : length xs ≡ counts_begin shape = omega (arith, c.put_flows.auto.sending, c.split_at_mut-sending.ensures.front_len, c.counts_begin.ensures.place) in
    let y : length ys ≡ counts_width shape = omega (arith, c.split_at_mut-counts.ensures.front_len, c.counts_width.ensures) in
    let o : length supply ≡ shape.outs = omega (arith, c.put_flows.auto.supply, c.split_at_mut-supply.ensures.front_len) in
    let a : length capacity ≡ shape.arms = omega (arith, c.put_flows.auto.capacity, c.split_at_mut-capacity.ensures.front_len) in
    limits_written shape xs ys supply capacity c.split_at_mut-capacity.result.1.now x y o a
    ∙ (ap (λ (z : List ℕ). z ++ capacity) c.put_flows.ensures.supply ∙ ap (λ (z : List ℕ). supply_part s counts u t ++ z) c.put_flows.ensures.capacities)
