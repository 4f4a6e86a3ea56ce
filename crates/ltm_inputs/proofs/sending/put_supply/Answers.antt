use Rattle.std.proofs.Common.{ℕ, ◌∙◌, ap, arith}
use Rattle.ltm_curve.proofs.Lists.{list_from}
use Rattle.ltm_curve.specs.Table.{counts_of}
use Rattle.ltm_loading.specs.Flows.{receiving}
use Rattle.ltm_setting.specs.Setting.{setting_of}
use Rattle.ltm_setting.proofs.Links.{link_item}
use Rattle.ltm_inputs.proofs.Filling.{set_next}
use Rattle.ltm_inputs.proofs.sending.put_supply.Goals as goal

pub loop-out-preserved : goal.loop-out-preserved
loop-out-preserved g c =
    let s = setting_of c.args.scenario.now in
    let counts = counts_of c.args.curves.now in
    let links = c.out_links-link-items.result.now in
    let t = c.args.pair.slot in
    set_next c.loop-out.into c.loop-out.out c.link_takes.result (λ j. receiving s counts (s.out_link c.args.pair.node.0 j) t) c.loop-out.invariant (omega (arith, c.loop-out.auto.into, c.requires.room, c.out_links-link-items.ensures.count, c.loop-out-test.true))
    (c.link_takes.ensures.value ∙ ap (λ (z : ℕ). receiving s counts z t) (link_item links c.loop-out.out c.loop-out-test.true ∙ c.out_links-link-items.ensures.links c.loop-out.out c.loop-out-test.true))

pub returns : goal.returns
returns g c =
    let s = setting_of c.args.scenario.now in
    let u = c.args.pair.node.0 in
    list_from (s.outs u) (λ j. receiving s (counts_of c.args.curves.now) (s.out_link u j) c.args.pair.slot) c.loop-out.into (omega (arith, c.loop-out.auto.into, c.requires.room))
    (λ j l. c.loop-out.invariant j (omega (arith, c.out_links-link-items.ensures.count, c.loop-out-test.false)))
