use Rattle.std.proofs.Common.{◌≡◌, ◌<◌, ◌+◌, ◌∙◌, ℕ, List, length, arith, ap, sym}
use Rattle.ltm_curve.specs.First.{list_below}
use Rattle.ltm_curve.proofs.Lists.{length-list_below}
use Rattle.ltm_loading.specs.Pairs.{arms_of}
use Rattle.ltm_loading.specs.NodeGroups.{node_group}
use Rattle.ltm_loading.proofs.NodeGroups.{at_link, at_origin}
use Rattle.ltm_setting.specs.Setting.{setting_of}
use Rattle.ltm_setting.proofs.Links.{some_out, link_item}
use Rattle.ltm_setting.proofs.GroupLists.{one_more}
use Rattle.ltm_setting.proofs.row_groups.put_arms.Goals as goal

pub loop-link-preserved : goal.loop-link-preserved
loop-link-preserved c =
    let s = setting_of c.args.scenario.now in
    let u : ℕ = c.args.node.0 in
    let i : ℕ = c.loop-link.link-index in
    let links = c.in_links-link-items.result.now in
    let in_range : i < s.ins u = omega (arith, c.loop-link-test.true, c.in_links-link-items.ensures.count) in
    let group : c.down_of.result ≡ node_group s u i =
    omega (arith, c.down_of.ensures, link_item links i c.loop-link-test.true, c.in_links-link-items.ensures.links i c.loop-link-test.true, at_link s u i in_range) in
    c.push.ensures ∙ one_more c.loop-link.into i (node_group s u) c.down_of.result c.loop-link.invariant group

pub push-requires-then-not-is_empty : goal.push-requires-then-not-is_empty
push-requires-then-not-is_empty c =
    let f : ℕ → ℕ = node_group (setting_of c.args.scenario.now) c.args.node.0 in
    omega (arith, ap (λ (z : List ℕ). length z) c.loop-link.invariant, length-list_below c.loop-link.link-index f, c.loop-link.auto.link-index-end, c.in_links-link-items.ensures.few)

pub returns-then-not-is_empty : goal.returns-then-not-is_empty
returns-then-not-is_empty c =
    let s = setting_of c.args.scenario.now in
    let u : ℕ = c.args.node.0 in
    let n : ℕ = c.loop-link.link-index in
    let f : ℕ → ℕ = node_group s u in
    let some : 0 < s.outs u = some_out c.is_empty.result (length c.out_links.result.now) (s.outs u) c.if-not-is_empty.true c.is_empty.ensures c.out_links.ensures.count in
    let all : n ≡ s.ins u = omega (arith, c.loop-link-test.false, c.loop-link.auto.link-index-end, c.in_links-link-items.ensures.count) in
    let many : n + 1 ≡ arms_of s u = omega (arith, all, some) in
    c.push-then-not-is_empty.ensures
    ∙ (one_more c.loop-link.into n f c.dep_of.result c.loop-link.invariant (c.dep_of.ensures.group ∙ sym (at_origin s u n all some)) ∙ ap (λ (z : ℕ). list_below z f) many)
