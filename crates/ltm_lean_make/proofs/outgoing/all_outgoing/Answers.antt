use Rattle.std.proofs.Common.{ℕ, ◌<◌, length, arith, ◌∙◌}
use Rattle.ltm_setting.specs.Setting.{setting_of}
use Rattle.ltm_setting.proofs.Links.{link_item}
use Rattle.ltm_lean.specs.declared.outgoing.Outgoing.{Outgoing}
use Rattle.ltm_lean_make.proofs.First.{IsFirstOut, first_out}
use Rattle.ltm_lean_make.proofs.Pushed.{all_none, all_more}
use Rattle.ltm_lean_make.proofs.outgoing.all_outgoing.Goals as goal

pub loop-j-init : goal.loop-j-init
loop-j-init c = all_none Outgoing (IsFirstOut (setting_of c.args.scenario.now) c.args.tables.now c.args.node.0) c.new-outs.result.items c.new-outs.ensures.items

pub loop-j-preserved : goal.loop-j-preserved
loop-j-preserved c =
    let s = setting_of c.args.scenario.now in
    let u : ℕ = c.args.node.0 in
    let l : c.loop-j.j < length c.out_links-links.result.now = omega (arith, c.loop-j-test.true) in
    all_more Outgoing (IsFirstOut s c.args.tables.now u) c.loop-j.j c.loop-j.outs.items c.push.new.self.items c.in_ok-outgoing.outgoing c.in_ok-push.ensures.items c.loop-j.invariant
    (first_out s c.args.tables.now u c.loop-j.j _ c.in_ok-outgoing.outgoing (link_item c.out_links-links.result.now c.loop-j.j l ∙ c.out_links-links.ensures.links c.loop-j.j l) c.in_ok-outgoing.ensures.link c.in_ok-outgoing.ensures.still)

pub returns-clause-links : goal.returns-clause-links
returns-clause-links c = record {
  count = omega (arith, c.loop-j.invariant.long, c.loop-j-test.false, c.out_links-links.ensures.count);
  each = λ j d l. (c.loop-j.invariant.each j d (omega (arith, l, c.loop-j-test.false, c.out_links-links.ensures.count))).link;
}

pub returns-clause-still : goal.returns-clause-still
returns-clause-still c = λ j d l. (c.loop-j.invariant.each j d (omega (arith, l, c.loop-j-test.false, c.out_links-links.ensures.count))).still
