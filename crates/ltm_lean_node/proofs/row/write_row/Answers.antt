use Rattle.std.proofs.Common.{◌≡◌, ℕ, List, length, arith, ap, ◌∙◌}
use Rattle.ltm_node.specs.Shape.{counts_begin, counts_width}
use Rattle.ltm_setting.specs.Setting.{setting_of}
use Rattle.ltm_lean_node.proofs.Listed.{row_written}
use Rattle.ltm_lean_node.proofs.row.write_row.Goals as goal

pub returns : goal.returns
returns c =
    let s = setting_of c.args.scenario.now in
    let ys : List ℕ = c.split_at_mut-counts.result.0.now in
    let ks : List ℕ = c.put_capacities.new.into in
    let x : length c.copy_from_slice.new.self ≡ counts_begin c.args.shape = ap length c.copy_from_slice.ensures.after ∙ c.requires.sends in
    let y : length c.split_at_mut-counts.result.0.now ≡ counts_width c.args.shape = omega (arith, c.split_at_mut-counts.ensures.front_len, c.counts_width.ensures) in
    let o : length c.copy_from_slice-2.new.self ≡ c.args.shape.outs = ap length c.copy_from_slice-2.ensures.after ∙ c.requires.takes in
    let a : length c.put_capacities.new.into ≡ c.args.shape.arms = omega (arith, c.put_capacities.auto.into, c.split_at_mut-capacities.ensures.front_len) in
    row_written s c.args.pair.node.0 c.args.pair.slot c.args.shape c.args.sends.now c.args.takes.now c.args.weights.now c.copy_from_slice.new.self ys c.copy_from_slice-2.new.self ks c.widen.new.into x y o a
    c.copy_from_slice.ensures.after c.copy_from_slice-2.ensures.after
    (λ i l. c.put_capacities.ensures i (omega (arith, l, c.split_at_mut-capacities.ensures.front_len)))
    (λ i l. c.widen.ensures i (omega (arith, l, c.split_at_mut-front.ensures.back_len, c.split_at_mut-counts.ensures.back_len, c.split_at_mut-supply.ensures.back_len, c.split_at_mut-capacities.ensures.back_len, c.counts_begin.ensures.place, c.counts_width.ensures, c.requires.width)))
