use Rattle.std.proofs.Common.{◌≡◌, ◌<◌, ◌∙◌, sym, length, arith}
use Rattle.ltm_curve.proofs.Lists.{list_from}
use Rattle.std.proofs.Math.ListN.{length-set}
use Rattle.ltm_loading.specs.Pairs.{arms_of, arm_capacity}
use Rattle.ltm_loading.proofs.Picks.{pick_first, pick_second}
use Rattle.ltm_setting.specs.Setting.{setting_of}
use Rattle.ltm_setting.proofs.Links.{some_out, no_out}
use Rattle.ltm_inputs.proofs.Filling.{set_next}
use Rattle.ltm_inputs.proofs.capacities.put_capacity.Goals as goal

pub returns-then-not-is_empty : goal.returns-then-not-is_empty
returns-then-not-is_empty c =
    let s = setting_of c.args.scenario.now in
    let links = c.in_links-links.result.now in
    let u = c.args.pair.node.0 in
    let t = c.args.pair.slot in
    let some : 0 < s.outs u = some_out c.is_empty.result (length c.out_links.result.now) (s.outs u) c.if-not-is_empty.true c.is_empty.ensures c.out_links.ensures.count in
    let arms : length c.loop-arm.into ≡ arms_of s u = omega (arith, c.loop-arm.auto.into, c.requires.room) in
    let all : length links ≡ s.ins u = c.in_links-links.ensures.count in
    list_from (arms_of s u) (arm_capacity s u t) _ (length-set c.loop-arm.into (length links) c.origin_capacity.result ∙ arms) (λ i l.
    set_next c.loop-arm.into (length links) c.origin_capacity.result (arm_capacity s u t)
    (λ k m. c.loop-arm.invariant k (omega (arith, c.loop-arm-test.false)) ∙ sym (pick_first k (s.ins u) (s.capacity (s.in_link u k) t) s.origin_capacity (omega arith))) (omega (arith, some))
    (c.origin_capacity.ensures.value ∙ sym (pick_second (length links) (s.ins u) (s.capacity (s.in_link u (length links)) t) s.origin_capacity (omega arith))) i (omega arith))

pub returns-else-not-is_empty : goal.returns-else-not-is_empty
returns-else-not-is_empty c =
    let s = setting_of c.args.scenario.now in
    let u = c.args.pair.node.0 in
    let t = c.args.pair.slot in
    let none : s.outs u ≡ 0 = no_out c.is_empty.result (length c.out_links.result.now) (s.outs u) c.if-not-is_empty.false c.is_empty.ensures c.out_links.ensures.count in
    list_from (arms_of s u) (arm_capacity s u t) c.loop-arm.into (omega (arith, c.loop-arm.auto.into, c.requires.room)) (λ i l.
    c.loop-arm.invariant i (omega (arith, c.loop-arm-test.false, c.in_links-links.ensures.count)) ∙ sym (pick_first i (s.ins u) (s.capacity (s.in_link u i) t) s.origin_capacity (omega arith)))
