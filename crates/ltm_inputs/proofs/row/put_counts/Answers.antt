use Rattle.std.proofs.Common.{◌≡◌, ◌+◌, ◌*◌, ◌<◌, ◌∙◌, List, ◌++◌, ℕ, length, length-append, set, slice_index, arith, ap, sym, get_or-set_same}
use Rattle.std.proofs.Math.ListN.{length-set}
use Rattle.std.proofs.Math.Nat.{add-mul}
use Rattle.std.proofs.lemmas.Nat.{mul-add-lt}
use Rattle.ltm_curve.specs.Table.{counts_of}
use Rattle.ltm_node.specs.Shape.{counts_width}
use Rattle.ltm_node.specs.Outputs.{arrived_after_place}
use Rattle.ltm_loading.specs.Pairs.{arms_of, shape_at}
use Rattle.ltm_loading.specs.NodeGroups.{group_count, node_group}
use Rattle.ltm_loading.proofs.Rows.{length-grid, index-grid, at_first, behind}
use Rattle.ltm_setting.specs.Setting.{setting_of}
use Rattle.ltm_inputs.proofs.row.put_counts.Goals as goal

pub put_flows_counted-requires-clause-room : goal.put_flows_counted-requires-clause-room
put_flows_counted-requires-clause-room c =
    let s = setting_of c.args.scenario.now in
    let u : ℕ = c.args.pair.node.0 in
    let mid : c.arrived_after_place.result ≡ group_count s u * s.destinations = c.arrived_after_place.ensures.place ∙ (ap arrived_after_place c.requires.shape ∙ sym (add-mul (arms_of s u) (s.outs u) s.destinations)) in
    omega (arith, c.split_at_mut-flows.ensures.front_len, mid)

pub returns : goal.returns
returns c =
    let s = setting_of c.args.scenario.now in
    let counts = counts_of c.args.curves.now in
    let u : ℕ = c.args.pair.node.0 in
    let t : ℕ = c.args.pair.slot in
    let n : ℕ = group_count s u in
    let w : ℕ = s.destinations in
    let f : ℕ → ℕ → ℕ = λ i d. counts (node_group s u i) d t in
    let flows : List ℕ = c.put_flows_counted.new.into in
    let come : List ℕ = c.split_at_mut-flows.result.1.now in
    let last : List ℕ = set come 0 c.arrived.result in
    let both : n * w ≡ arms_of s u * w + s.outs u * w = add-mul (arms_of s u) (s.outs u) w in
    let mid : c.arrived_after_place.result ≡ n * w = c.arrived_after_place.ensures.place ∙ (ap arrived_after_place c.requires.shape ∙ sym both) in
    let wide : length c.args.into.now ≡ arms_of s u * w + s.outs u * w + 1 = c.requires.room ∙ ap counts_width c.requires.shape in
    let one : length come ≡ 1 = omega (arith, c.split_at_mut-flows.ensures.back_len, wide, mid, both) in
    let many : length flows ≡ n * w = ap (λ (z : List ℕ). length z) c.put_flows_counted.ensures ∙ length-grid n w f in
    let row_long : length (flows ++ last) ≡ counts_width (shape_at s u) = omega (arith, length-append flows last, many, length-set come 0 c.arrived.result, one, both) in
    sym ((c.groups_by_row.ensures s counts u t).1 (flows ++ last) row_long (record {
      groups = λ i d l m.
          let place : i * w + d < n * w = omega (arith, mul-add-lt i w d n l m) in
          at_first flows last (i * w + d) (omega (arith, many)) ∙ (ap (λ (z : List ℕ). slice_index z (i * w + d)) c.put_flows_counted.ensures ∙ index-grid n w f i d l m);
      arrived = behind flows last (n * w) 0 (omega (arith, many)) ∙ (get_or-set_same come 0 c.arrived.result 0 (omega (arith, one)) ∙ c.arrived.ensures);
    }))
