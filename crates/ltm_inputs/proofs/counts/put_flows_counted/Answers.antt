use Rattle.std.proofs.Common.{ℕ, ◌≡◌, ◌*◌, ◌∙◌, List, length, slice_index, arith, ap, sym}
use Rattle.ltm_curve.proofs.Lists.{length-list_below, index-list_below}
use Rattle.ltm_curve.specs.Table.{groups_of, destinations_of, counts_of}
use Rattle.ltm_loading.specs.NodeGroups.{group_count, node_group, node_groups}
use Rattle.ltm_loading.specs.Pairs.{grid}
use Rattle.ltm_setting.specs.Setting.{setting_of}
use Rattle.ltm_setting.proofs.GroupLists.{each_below}
use Rattle.ltm_inputs.proofs.Lists.{grid-same}
use Rattle.ltm_inputs.proofs.counts.put_flows_counted.Goals as goal

pub put_groups-requires-clause-groups : goal.put_groups-requires-clause-groups
put_groups-requires-clause-groups c =
    let s = setting_of c.args.scenario.now in
    let u : ℕ = c.args.pair.node.0 in
    each_below c.as_slice.result.now (group_count s u) (node_group s u) (groups_of c.args.curves.now) (c.as_slice.ensures.groups ∙ c.node_groups-groups.ensures)
    (λ i l. omega (arith, c.groups_are_set.ensures.there s u i c.is_setting.ensures.setting c.requires.node l, c.requires.curves.same_groups))

pub put_groups-requires-clause-room : goal.put_groups-requires-clause-room
put_groups-requires-clause-room c =
    let s = setting_of c.args.scenario.now in
    let u : ℕ = c.args.pair.node.0 in
    let long : length c.as_slice.result.now ≡ group_count s u = ap (λ (z : List ℕ). length z) (c.as_slice.ensures.groups ∙ c.node_groups-groups.ensures) ∙ length-list_below (group_count s u) (node_group s u) in
    c.requires.room ∙ (ap (λ (z : ℕ). z * s.destinations) (sym long) ∙ ap (λ (z : ℕ). length c.as_slice.result.now * z) (sym c.requires.curves.same_destinations))

pub returns : goal.returns
returns c =
    let s = setting_of c.args.scenario.now in
    let u : ℕ = c.args.pair.node.0 in
    let t : ℕ = c.args.pair.slot in
    let counts = counts_of c.args.curves.now in
    let w : ℕ = destinations_of c.args.curves.now in
    let n : ℕ = group_count s u in
    let groups : List ℕ = c.as_slice.result.now in
    let f : ℕ → ℕ → ℕ = λ i d. counts (node_group s u i) d t in
    let is : groups ≡ node_groups s u = c.as_slice.ensures.groups ∙ c.node_groups-groups.ensures in
    let long : length groups ≡ n = ap (λ (z : List ℕ). length z) is ∙ length-list_below n (node_group s u) in
    c.put_groups.ensures
    ∙ (grid-same (length groups) w (λ i d. counts (slice_index groups i) d t) f (λ i d l m.
    let at : slice_index groups i ≡ node_group s u i = ap (λ (z : List ℕ). slice_index z i) is ∙ index-list_below n (node_group s u) i (omega (arith, l, long)) in ap (λ (z : ℕ). counts z d t) at)
    ∙ (ap (λ (z : ℕ). grid z w f) long ∙ ap (λ (z : ℕ). grid n z f) c.requires.curves.same_destinations))
