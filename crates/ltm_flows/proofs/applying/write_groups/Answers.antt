use Rattle.std.proofs.Common.{◌≡◌, ◌<◌, ◌+◌, ◌*◌, ◌∙◌, ℕ, List, length, slice_index, arith, ap, subst}
use Rattle.ltm_curve.proofs.Lists.{length-list_below, index-list_below}
use Rattle.ltm_curve.specs.Table.{counts_of}
use Rattle.ltm_node.specs.declared.shape.NodeShape.{NodeShape}
use Rattle.ltm_loading.specs.Groups.{groups}
use Rattle.ltm_loading.specs.NodeGroups.{group_count, node_group, node_groups}
use Rattle.ltm_setting.specs.Setting.{setting_of}
use Rattle.ltm_flows.specs.Applying.{in_row, SetsGroups}
use Rattle.ltm_flows.proofs.Writing.{sets_none, sets_next, still_shaped}
use Rattle.ltm_flows.proofs.applying.write_groups.Goals as goal

pub loop-place-init : goal.loop-place-init
loop-place-init c = record { shape = c.requires.shape; sets = sets_none _ _ _ _ _ }

pub group_row-requires : goal.group_row-requires
group_row-requires c =
    let s = setting_of c.args.scenario.now in
    let u : ℕ = c.args.node.0 in
    let is : c.as_slice-group-items.result.now ≡ node_groups s u = c.as_slice-group-items.ensures.groups ∙ c.node_groups-groups.ensures in
    omega (
      arith,
      c.loop-place-test.true,
      ap (λ (z : List ℕ). length z) is,
      length-list_below (group_count s u) (node_group s u),
      ap (λ (z : NodeShape). z.arms) c.requires.outputs,
      ap (λ (z : NodeShape). z.outs) c.requires.outputs,
    )

pub set_row-requires-clause-group : goal.set_row-requires-clause-group
set_row-requires-clause-group c =
    let s = setting_of c.args.scenario.now in
    let u : ℕ = c.args.node.0 in
    let i : ℕ = c.loop-place.place in
    let n : ℕ = group_count s u in
    let is : c.as_slice-group-items.result.now ≡ node_groups s u = c.as_slice-group-items.ensures.groups ∙ c.node_groups-groups.ensures in
    let inside : i < n = omega (arith, c.loop-place-test.true, ap (λ (z : List ℕ). length z) is, length-list_below n (node_group s u)) in
    omega (
      arith,
      ap (λ (z : List ℕ). slice_index z i) is,
      index-list_below n (node_group s u) i inside,
      c.groups_are_set.ensures.there s u i c.is_setting.ensures.setting c.requires.node inside,
      c.loop-place.invariant.shape.same_groups,
    )

pub loop-place-preserved : goal.loop-place-preserved
loop-place-preserved c =
    let s = setting_of c.args.scenario.now in
    let u : ℕ = c.args.node.0 in
    let i : ℕ = c.loop-place.place in
    let n : ℕ = group_count s u in
    let is : c.as_slice-group-items.result.now ≡ node_groups s u = c.as_slice-group-items.ensures.groups ∙ c.node_groups-groups.ensures in
    let inside : i < n = omega (arith, c.loop-place-test.true, ap (λ (z : List ℕ). length z) is, length-list_below n (node_group s u)) in
    let group : slice_index c.as_slice-group-items.result.now i ≡ node_group s u i = ap (λ (z : List ℕ). slice_index z i) is ∙ index-list_below n (node_group s u) i inside in
    let there : (j : ℕ) → j < n → node_group s u j < groups s = λ j l. omega (arith, c.groups_are_set.ensures.there s u j c.is_setting.ensures.setting c.requires.node l) in
    record {
      shape = still_shaped s c.loop-place.curves _ _ _ _ c.loop-place.invariant.shape c.set_row.ensures;
      sets = sets_next s _ i _ _ _ c.loop-place.curves _ _ c.group_row.result.now c.requires.boundary (omega (arith, group, there i inside)) group
          (λ j l. there j (omega arith)) (λ j l. c.groups_are_set.ensures.once s u j i c.is_setting.ensures.setting c.requires.node l inside)
          (λ d l. c.group_row.ensures.counts d (omega (arith, ap (λ (z : NodeShape). z.destinations) c.requires.outputs)) ∙ ap (λ (z : NodeShape). slice_index c.args.outputs.now.row (i * z.destinations + d)) c.requires.outputs)
          c.loop-place.invariant.shape c.loop-place.invariant.sets c.set_row.ensures;
    }

pub returns-clause-sets : goal.returns-clause-sets
returns-clause-sets c =
    let s = setting_of c.args.scenario.now in
    let u : ℕ = c.args.node.0 in
    let n : ℕ = group_count s u in
    let is : c.as_slice-group-items.result.now ≡ node_groups s u = c.as_slice-group-items.ensures.groups ∙ c.node_groups-groups.ensures in
    let all : c.loop-place.place ≡ n = omega (arith, c.loop-place-test.false, c.loop-place.auto.place-end, ap (λ (z : List ℕ). length z) is, length-list_below n (node_group s u)) in
    subst (λ (z : ℕ). SetsGroups s c.args.boundary z (node_group s u) (in_row s c.args.outputs.now.row) (counts_of c.args.curves.now) (counts_of c.loop-place.curves)) all c.loop-place.invariant.sets
