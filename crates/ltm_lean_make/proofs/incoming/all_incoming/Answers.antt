use Rattle.std.proofs.Common.{ℕ, ◌<◌, length, arith, ◌∙◌}
use Rattle.ltm_setting.specs.Setting.{setting_of}
use Rattle.ltm_setting.proofs.Links.{link_item}
use Rattle.ltm_lean.specs.declared.incoming.Incoming.{Incoming}
use Rattle.ltm_lean_make.proofs.First.{IsFirstIn, first_in}
use Rattle.ltm_lean_make.proofs.Pushed.{all_none, all_more}
use Rattle.ltm_lean_make.proofs.incoming.all_incoming.Goals as goal

pub loop-i-init : goal.loop-i-init
loop-i-init c = all_none Incoming (IsFirstIn (setting_of c.args.scenario.now) c.args.tables.now c.args.node.0) c.new-ins.result.items c.new-ins.ensures.items

pub loop-i-preserved : goal.loop-i-preserved
loop-i-preserved c =
    let s = setting_of c.args.scenario.now in
    let u : ℕ = c.args.node.0 in
    let l : c.loop-i.i < length c.in_links-links.result.now = omega (arith, c.loop-i-test.true) in
    all_more Incoming (IsFirstIn s c.args.tables.now u) c.loop-i.i c.loop-i.ins.items c.push.new.self.items c.in_ok-incoming.incoming c.in_ok-push.ensures.items c.loop-i.invariant
    (first_in s c.args.tables.now u c.loop-i.i _ c.in_ok-incoming.incoming (link_item c.in_links-links.result.now c.loop-i.i l ∙ c.in_links-links.ensures.links c.loop-i.i l) c.in_ok-incoming.ensures.link c.in_ok-incoming.ensures.stands c.in_ok-incoming.ensures.still)

pub returns-clause-links : goal.returns-clause-links
returns-clause-links c = record {
  count = omega (arith, c.loop-i.invariant.long, c.loop-i-test.false, c.in_links-links.ensures.count);
  each = λ i d l. (c.loop-i.invariant.each i d (omega (arith, l, c.loop-i-test.false, c.in_links-links.ensures.count))).link;
}

pub returns-clause-stands : goal.returns-clause-stands
returns-clause-stands c = λ counts load i d l. (c.loop-i.invariant.each i d (omega (arith, l, c.loop-i-test.false, c.in_links-links.ensures.count))).stands counts load

pub returns-clause-still : goal.returns-clause-still
returns-clause-still c = λ i d l. (c.loop-i.invariant.each i d (omega (arith, l, c.loop-i-test.false, c.in_links-links.ensures.count))).still
