use Rattle.std.proofs.Common.{◌≡◌, ◌<◌, ◌+◌, ◌∙◌, ℕ, List, length, slice_index, option_map, refl, inl, inr, arith, ap, sym, subst}
use Rattle.std.proofs.lemmas.Bool.{cases_lt}
use Rattle.std.proofs.lemmas.Option.{IfSome_then}
use Rattle.ltm_curve.proofs.Lists.{length-list_below, index-list_below}
use Rattle.ltm_curve.specs.Table.{counts_of, destinations_of}
use Rattle.ltm_node.specs.declared.shape.NodeShape.{NodeShape}
use Rattle.ltm_loading.specs.NodeGroups.{group_count, node_group, node_groups}
use Rattle.ltm_setting.specs.Setting.{setting_of}
use Rattle.ltm_check.specs.Moves.{moving}
use Rattle.ltm_check.proofs.rows.groups_grow.Goals as goal

pub has_moved-requires-clause-group : goal.has_moved-requires-clause-group
has_moved-requires-clause-group c =
    let s = setting_of c.args.scenario.now in
    let u : ℕ = c.args.pair.node.0 in
    let a : ℕ = c.loop-place.place in
    let n : ℕ = group_count s u in
    let is : c.as_slice-group-items.result.now ≡ node_groups s u = c.as_slice-group-items.ensures.groups ∙ c.node_groups-groups.ensures in
    let inside : a < n = omega (arith, c.loop-place-test.true, ap (λ (z : List ℕ). length z) is, length-list_below n (node_group s u)) in
    omega (
      arith,
      ap (λ (z : List ℕ). slice_index z a) is,
      index-list_below n (node_group s u) a inside,
      c.groups_are_set.ensures.there s u a c.is_setting.ensures.setting c.requires.node inside,
      c.requires.shape.same_groups,
    )

pub has_moved-requires-clause-place : goal.has_moved-requires-clause-place
has_moved-requires-clause-place c =
    let s = setting_of c.args.scenario.now in
    let u : ℕ = c.args.pair.node.0 in
    let a : ℕ = c.loop-place.place in
    let n : ℕ = group_count s u in
    let is : c.as_slice-group-items.result.now ≡ node_groups s u = c.as_slice-group-items.ensures.groups ∙ c.node_groups-groups.ensures in
    let inside : a < n = omega (arith, c.loop-place-test.true, ap (λ (z : List ℕ). length z) is, length-list_below n (node_group s u)) in
    IfSome_then c.args.moves c.requires.moves (λ m e. omega (arith, inside, ap (λ (z : NodeShape). z.arms) e, ap (λ (z : NodeShape). z.outs) e))

pub returns-then-not-has_moved : goal.returns-then-not-has_moved
returns-then-not-has_moved c =
    let s = setting_of c.args.scenario.now in
    let u : ℕ = c.args.pair.node.0 in
    let t : ℕ = c.args.pair.slot in
    let a : ℕ = c.loop-place.place in
    let n : ℕ = group_count s u in
    let counts = counts_of c.args.curves.now in
    let moves = option_map (λ m. m.now) c.args.moves in
    let w : ℕ = destinations_of c.args.curves.now in
    let is : c.as_slice-group-items.result.now ≡ node_groups s u = c.as_slice-group-items.ensures.groups ∙ c.node_groups-groups.ensures in
    let inside : a < n = omega (arith, c.loop-place-test.true, ap (λ (z : List ℕ). length z) is, length-list_below n (node_group s u)) in
    let group : slice_index c.as_slice-group-items.result.now a ≡ node_group s u a = ap (λ (z : List ℕ). slice_index z a) is ∙ index-list_below n (node_group s u) a inside in (
      λ no. absurd (cc no),
      λ all. sym c.if-not-has_moved.true
          ∙ c.has_moved.ensures.1 (λ d l.
          subst (λ (g : ℕ). counts g d (t + 1) ≡ counts g d t + moving w moves a d) (sym group)
          (subst (λ (z : ℕ). counts (node_group s u a) d (t + 1) ≡ counts (node_group s u a) d t + moving z moves a d) (sym c.requires.shape.same_destinations)
          (all a d inside (omega (arith, l, c.requires.shape.same_destinations))))),
    )

pub loop-place-preserved : goal.loop-place-preserved
loop-place-preserved c i d l m =
    let s = setting_of c.args.scenario.now in
    let u : ℕ = c.args.pair.node.0 in
    let t : ℕ = c.args.pair.slot in
    let a : ℕ = c.loop-place.place in
    let n : ℕ = group_count s u in
    let counts = counts_of c.args.curves.now in
    let moves = option_map (λ m. m.now) c.args.moves in
    let is : c.as_slice-group-items.result.now ≡ node_groups s u = c.as_slice-group-items.ensures.groups ∙ c.node_groups-groups.ensures in
    let inside : a < n = omega (arith, c.loop-place-test.true, ap (λ (z : List ℕ). length z) is, length-list_below n (node_group s u)) in
    let first : ℕ = slice_index c.as_slice-group-items.result.now a in
    let group : slice_index c.as_slice-group-items.result.now a ≡ node_group s u a = ap (λ (z : List ℕ). slice_index z a) is ∙ index-list_below n (node_group s u) a inside in
    elim (cases_lt i a) [
      | inl less ↦ c.loop-place.invariant i d less m
      | inr last ↦
          let at : a ≡ i = omega arith in
          subst (λ (z : ℕ). counts (node_group s u z) d (t + 1) ≡ counts (node_group s u z) d t + moving s.destinations moves z d) at
          (subst (λ (g : ℕ). counts g d (t + 1) ≡ counts g d t + moving s.destinations moves a d) group
          (subst (λ (z : ℕ). counts first d (t + 1) ≡ counts first d t + moving z moves a d) c.requires.shape.same_destinations
          (c.has_moved.ensures.0 c.if-not-has_moved.false d (omega (arith, m, c.requires.shape.same_destinations)))))
    ]

pub returns : goal.returns
returns c =
    let s = setting_of c.args.scenario.now in
    let u : ℕ = c.args.pair.node.0 in
    let n : ℕ = group_count s u in
    let is : c.as_slice-group-items.result.now ≡ node_groups s u = c.as_slice-group-items.ensures.groups ∙ c.node_groups-groups.ensures in
    let all : c.loop-place.place ≡ n = omega (arith, c.loop-place-test.false, c.loop-place.auto.place-end, ap (λ (z : List ℕ). length z) is, length-list_below n (node_group s u)) in (
      λ yes i d l m. c.loop-place.invariant i d (omega (arith, l, all)) m,
      λ each. refl,
    )
