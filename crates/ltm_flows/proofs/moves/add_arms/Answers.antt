use Rattle.std.proofs.Common.{◌≡◌, ◌<◌, ◌+◌, ℕ, length, arith, ap, subst}
use Rattle.ltm_curve.specs.Table.{counts_of}
use Rattle.ltm_node.specs.declared.shape.NodeShape.{NodeShape}
use Rattle.ltm_node.specs.Outputs.{left_after}
use Rattle.ltm_loading.specs.Groups.{down_of, dep_of}
use Rattle.ltm_loading.specs.Pairs.{arms_of, arm_group}
use Rattle.ltm_setting.specs.Setting.{setting_of}
use Rattle.ltm_setting.proofs.Links.{some_out, link_item}
use Rattle.ltm_flows.specs.Applying.{with_moves, SetsGroups}
use Rattle.ltm_flows.proofs.Adding.{adds_next, shaped_by, sum_small}
use Rattle.ltm_flows.proofs.Writing.{sets_none, arm_there, arm_apart, pick_first, pick_second}
use Rattle.ltm_flows.proofs.moves.add_arms.Goals as goal

pub loop-arm-init : goal.loop-arm-init
loop-arm-init c = record { shape = c.requires.shape; sets = sets_none _ _ _ _ _ }

pub add_row-requires-clause-small : goal.add_row-requires-clause-small
add_row-requires-clause-small c = λ d l.
    let s = setting_of c.args.scenario.now in
    let u : ℕ = c.args.node.0 in
    let i : ℕ = c.loop-arm.arm in
    let links = c.in_links-links.result.now in
    let link : i < s.ins u = omega (arith, c.loop-arm-test.true, c.in_links-links.ensures.count) in
    let inside : i < arms_of s u = omega arith in
    let many : d < s.destinations = omega (arith, c.left_row.ensures.count, ap (λ (z : NodeShape). z.destinations) c.requires.moves) in
    let group : c.down_of.result ≡ arm_group s u i =
    omega (arith, c.down_of.ensures, link_item links i c.loop-arm-test.true, c.in_links-links.ensures.links i c.loop-arm-test.true, pick_first i (s.ins u) (down_of (s.in_link u i)) (dep_of s u) link) in
    sum_small s c.args.boundary i (arm_group s u) (left_after c.args.moves.now) (counts_of c.args.curves.now) (counts_of c.loop-arm.curves) _ d _ (omega (arith, group, arm_there s u i c.requires.setting c.requires.node inside)) group
    (λ j m. arm_apart s u j i c.requires.setting c.requires.node m inside) many c.loop-arm.invariant.sets
    (c.left_row.ensures.counts d (omega (arith, ap (λ (z : NodeShape). z.destinations) c.requires.moves))) (c.requires.small i d inside many)

pub loop-arm-preserved : goal.loop-arm-preserved
loop-arm-preserved c =
    let s = setting_of c.args.scenario.now in
    let u : ℕ = c.args.node.0 in
    let i : ℕ = c.loop-arm.arm in
    let links = c.in_links-links.result.now in
    let link : i < s.ins u = omega (arith, c.loop-arm-test.true, c.in_links-links.ensures.count) in
    let inside : i < arms_of s u = omega arith in
    let group : c.down_of.result ≡ arm_group s u i =
    omega (arith, c.down_of.ensures, link_item links i c.loop-arm-test.true, c.in_links-links.ensures.links i c.loop-arm-test.true, pick_first i (s.ins u) (down_of (s.in_link u i)) (dep_of s u) link) in
    record {
      shape = shaped_by s c.loop-arm.curves _ c.loop-arm.invariant.shape c.add_row.ensures.shape;
      sets = adds_next s _ i _ _ _ c.loop-arm.curves _ _ c.left_row.result.now c.requires.boundary (omega (arith, group, arm_there s u i c.requires.setting c.requires.node inside)) group
          (λ j l. arm_there s u j c.requires.setting c.requires.node (omega arith)) (λ j l. arm_apart s u j i c.requires.setting c.requires.node l inside)
          (λ d l. c.left_row.ensures.counts d (omega (arith, ap (λ (z : NodeShape). z.destinations) c.requires.moves))) c.loop-arm.invariant.shape c.loop-arm.invariant.sets c.add_row.ensures;
    }

pub add_row-requires-then-not-is_empty-clause-small : goal.add_row-requires-then-not-is_empty-clause-small
add_row-requires-then-not-is_empty-clause-small c = λ d l.
    let s = setting_of c.args.scenario.now in
    let u : ℕ = c.args.node.0 in
    let n : ℕ = length c.in_links-links.result.now in
    let some : 0 < s.outs u = some_out c.is_empty.result (length c.out_links.result.now) (s.outs u) c.if-not-is_empty.true c.is_empty.ensures c.out_links.ensures.count in
    let inside : n < arms_of s u = omega (arith, some, c.in_links-links.ensures.count) in
    let all : c.loop-arm.arm ≡ n = omega (arith, c.loop-arm-test.false, c.loop-arm.auto.arm-end) in
    let many : d < s.destinations = omega (arith, c.left_row-origin.ensures.count, ap (λ (z : NodeShape). z.destinations) c.requires.moves) in
    let done = subst (λ (z : ℕ). SetsGroups s c.args.boundary z (arm_group s u) (with_moves (counts_of c.args.curves.now) c.args.boundary (arm_group s u) (left_after c.args.moves.now)) (counts_of c.args.curves.now) (counts_of c.loop-arm.curves)) all c.loop-arm.invariant.sets in
    let group : c.dep_of.result ≡ arm_group s u n =
    omega (arith, c.dep_of.ensures.group, pick_second n (s.ins u) (down_of (s.in_link u n)) (dep_of s u) (omega (arith, c.in_links-links.ensures.count))) in
    sum_small s c.args.boundary n (arm_group s u) (left_after c.args.moves.now) (counts_of c.args.curves.now) (counts_of c.loop-arm.curves) _ d _ (omega (arith, group, arm_there s u n c.requires.setting c.requires.node inside)) group
    (λ j m. arm_apart s u j n c.requires.setting c.requires.node m inside) many done
    (c.left_row-origin.ensures.counts d (omega (arith, ap (λ (z : NodeShape). z.destinations) c.requires.moves))) (c.requires.small n d inside many)

pub returns-then-not-is_empty-clause-sets : goal.returns-then-not-is_empty-clause-sets
returns-then-not-is_empty-clause-sets c =
    let s = setting_of c.args.scenario.now in
    let u : ℕ = c.args.node.0 in
    let k : ℕ = c.args.boundary in
    let n : ℕ = length c.in_links-links.result.now in
    let value : ℕ → ℕ → ℕ = with_moves (counts_of c.args.curves.now) k (arm_group s u) (left_after c.args.moves.now) in
    let some : 0 < s.outs u = some_out c.is_empty.result (length c.out_links.result.now) (s.outs u) c.if-not-is_empty.true c.is_empty.ensures c.out_links.ensures.count in
    let inside : n < arms_of s u = omega (arith, some, c.in_links-links.ensures.count) in
    let all : c.loop-arm.arm ≡ n = omega (arith, c.loop-arm-test.false, c.loop-arm.auto.arm-end) in
    let done : SetsGroups s k n (arm_group s u) value (counts_of c.args.curves.now) (counts_of c.loop-arm.curves) =
    subst (λ (z : ℕ). SetsGroups s k z (arm_group s u) value (counts_of c.args.curves.now) (counts_of c.loop-arm.curves)) all c.loop-arm.invariant.sets in
    let group : c.dep_of.result ≡ arm_group s u n =
    omega (arith, c.dep_of.ensures.group, pick_second n (s.ins u) (down_of (s.in_link u n)) (dep_of s u) (omega (arith, c.in_links-links.ensures.count))) in
    let one_more : n + 1 ≡ arms_of s u = omega (arith, some, c.in_links-links.ensures.count) in
    subst (λ (z : ℕ). SetsGroups s k z (arm_group s u) value (counts_of c.args.curves.now) (counts_of c.add_row-then-not-is_empty.new.self)) one_more
    (adds_next s k n (arm_group s u) (left_after c.args.moves.now) (counts_of c.args.curves.now) c.loop-arm.curves c.add_row-then-not-is_empty.new.self _ c.left_row-origin.result.now c.requires.boundary (omega (arith, group, arm_there s u n c.requires.setting c.requires.node inside)) group
    (λ j l. arm_there s u j c.requires.setting c.requires.node (omega arith)) (λ j l. arm_apart s u j n c.requires.setting c.requires.node l inside)
    (λ d l. c.left_row-origin.ensures.counts d (omega (arith, ap (λ (z : NodeShape). z.destinations) c.requires.moves))) c.loop-arm.invariant.shape done c.add_row-then-not-is_empty.ensures)
