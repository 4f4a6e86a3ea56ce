use Rattle.std.proofs.Common.{ap, subst, sym, arith, ◌∙◌}
use Rattle.ltm_setting.specs.Setting.{setting_of}
use Rattle.ltm_standing.specs.Listed.{Ascends}
use Rattle.ltm_standing.proofs.Thin.{ascends_before}
use Rattle.ltm_used.specs.Lists.{list_of}
use Rattle.ltm_used.proofs.AtNodes.{links_none, links_more}
use Rattle.ltm_used.proofs.nodes.find_links.Goals as goal

pub loop-place-init : goal.loop-place-init
loop-place-init c = links_none (setting_of c.args.scenario.now) c.args.used.now c.args.node.0 c.args.found.now

pub find_list-requires : goal.find_list-requires
find_list-requires c =
    let s = setting_of c.args.scenario.now in
    let order : Ascends 0 (setting_of c.args.scenario.now).destinations c.on.result.now = subst (Ascends 0 s.destinations) (sym c.on.ensures) (c.requires.order c.in_link_at-link.result.0 c.in_link_at-link.ensures.there) in
    λ j l. omega (arith, ascends_before 0 s.destinations c.on.result.now order j l, c.loop-place.invariant.grows.size, c.requires.size)

pub loop-place-preserved : goal.loop-place-preserved
loop-place-preserved c =
    links_more (setting_of c.args.scenario.now) c.args.used.now c.args.node.0 c.args.found.now c.loop-place.found c.find_list.new.found c.loop-place.place c.on.result.now c.loop-place.invariant c.in_ok-find_list.ensures.grows
    (c.on.ensures ∙ ap (list_of c.args.used.now) c.in_link_at-link.ensures.link) c.in_ok-find_list.ensures.found

pub returns-clause-found : goal.returns-clause-found
returns-clause-found c = λ i d has listed. c.loop-place.invariant.found i d (omega (arith, has, c.loop-place-test.false, c.in_links-many.ensures.count)) listed
