use Rattle.std.proofs.Common.{◌≡◌, ◌+◌, ◌∙◌, ℕ, List, length, arith, ap, refl}
use Rattle.ltm_curve.specs.First.{list_below}
use Rattle.ltm_curve.proofs.Lists.{length-list_below}
use Rattle.ltm_loading.specs.Pairs.{arms_of}
use Rattle.ltm_loading.specs.NodeGroups.{node_group}
use Rattle.ltm_loading.proofs.NodeGroups.{at_out}
use Rattle.ltm_setting.specs.Setting.{setting_of}
use Rattle.ltm_setting.proofs.Links.{link_item}
use Rattle.ltm_setting.proofs.GroupLists.{one_more}
use Rattle.ltm_setting.proofs.row_groups.put_outs.Goals as goal

pub loop-link-init : goal.loop-link-init
loop-link-init c =
    let s = setting_of c.args.scenario.now in
    let u : ℕ = c.args.node.0 in
    let none : arms_of s u ≡ arms_of s u + 0 = omega arith in c.requires.arms ∙ ap (λ (z : ℕ). list_below z (node_group s u)) none

pub push-requires : goal.push-requires
push-requires c =
    let s = setting_of c.args.scenario.now in
    let u : ℕ = c.args.node.0 in
    omega (
      arith,
      ap (λ (z : List ℕ). length z) c.loop-link.invariant,
      length-list_below (arms_of s u + c.loop-link.link-index) (node_group s u),
      c.loop-link-test.true,
      c.out_links-link-items.ensures.few,
      c.in_links-ins.ensures.few,
      c.in_links-ins.ensures.count,
    )

pub loop-link-preserved : goal.loop-link-preserved
loop-link-preserved c =
    let s = setting_of c.args.scenario.now in
    let u : ℕ = c.args.node.0 in
    let j : ℕ = c.loop-link.link-index in
    let f : ℕ → ℕ = node_group s u in
    let links = c.out_links-link-items.result.now in
    let group : c.up_of.result ≡ f (arms_of s u + j) =
    omega (arith, c.up_of.ensures, link_item links j c.loop-link-test.true, c.out_links-link-items.ensures.links j c.loop-link-test.true, at_out s u (arms_of s u + j) j refl) in
    let next : arms_of s u + j + 1 ≡ arms_of s u + (j + 1) = omega arith in
    c.push.ensures ∙ (one_more c.loop-link.into (arms_of s u + j) f c.up_of.result c.loop-link.invariant group ∙ ap (λ (z : ℕ). list_below z f) next)

pub returns : goal.returns
returns c =
    let s = setting_of c.args.scenario.now in
    let u : ℕ = c.args.node.0 in
    let all : arms_of s u + c.loop-link.link-index ≡ arms_of s u + s.outs u = omega (arith, c.loop-link-test.false, c.loop-link.auto.link-index-end, c.out_links-link-items.ensures.count) in
    c.loop-link.invariant ∙ ap (λ (z : ℕ). list_below z (node_group s u)) all
