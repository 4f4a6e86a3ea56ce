use Rattle.std.proofs.Common.{ℕ, ◌<◌, List, [], length, map, slice_index, slice_index_or, arith, sym, ap, subst, ◌∙◌}
use Rattle.std.proofs.lemmas.List.{length-map}
use Rattle.ltm_setting.specs.Setting.{setting_of}
use Rattle.ltm_totals.specs.Totals.{total_links}
use Rattle.ltm_lean.specs.declared.outgoing.Outgoing.{Outgoing}
use Rattle.ltm_lean.specs.declared.node.LeanNode.{LeanNode}
use Rattle.ltm_lean_load.specs.Adding.{AreDistinct, AddsTo}
use Rattle.ltm_lean_load.specs.Nodes.{links_out, came_out, came_at}
use Rattle.ltm_lean_load.proofs.Elements.{read_map}
use Rattle.ltm_lean_load.proofs.Adding.{tails, at_once, for_more, for_all}
use Rattle.ltm_lean_load.proofs.passed.add_all_entered.Goals as goal

pub add_entered-requires-clause-links : goal.add_entered-requires-clause-links
add_entered-requires-clause-links c =
    let s = setting_of c.args.scenario.now in
    let u : ℕ = c.loop-u.u in
    let there : c.loop-u.u < (setting_of c.args.scenario.now).nodes = omega (arith, c.loop-u-test.true, c.requires.ends.count) in
    subst (λ (xs : List Outgoing). (i : ℕ) → i < length xs → slice_index (links_out xs) i < total_links c.loop-u.entered) (sym c.deref.ensures.value)
    (λ i l.
    let low : i < (setting_of c.args.scenario.now).outs c.loop-u.u = omega (arith, l, c.requires.ends.outs u c.index-nodes-u.result there) in
    omega (arith, c.requires.ends.out_links u i c.index-nodes-u.result there low, c.is_setting.ensures.setting.network.out_link_is_link u i there low, c.requires.links, c.loop-u.invariant.links))

pub add_entered-requires-clause-apart : goal.add_entered-requires-clause-apart
add_entered-requires-clause-apart c =
    let s = setting_of c.args.scenario.now in
    let u : ℕ = c.loop-u.u in
    let d : LeanNode = c.index-nodes-u.result in
    let there : c.loop-u.u < (setting_of c.args.scenario.now).nodes = omega (arith, c.loop-u-test.true, c.requires.ends.count) in
    let outs : List Outgoing = (slice_index_or c.args.nodes.now u d).outs.items in
    subst (λ (xs : List Outgoing). AreDistinct (links_out xs)) (sym c.deref.ensures.value)
    (at_once s s.tail s.out_place s.outs s.out_link u (links_out outs) (tails s c.is_setting.ensures.setting.network) there
    (length-map outs (λ (x : Outgoing). x.link.0) ∙ c.requires.ends.outs u d there) (λ i l. c.requires.ends.out_links u i d there l))

pub loop-u-preserved : goal.loop-u-preserved
loop-u-preserved c =
    let s = setting_of c.args.scenario.now in
    let u : ℕ = c.loop-u.u in
    let d : LeanNode = c.index-nodes-u.result in
    let inside : c.loop-u.u < length c.args.nodes.now = omega (arith, c.loop-u-test.true) in
    let there : c.loop-u.u < (setting_of c.args.scenario.now).nodes = omega (arith, c.loop-u-test.true, c.requires.ends.count) in
    let outs : List Outgoing = (slice_index_or c.args.nodes.now u d).outs.items in
    let many = length-map outs (λ (x : Outgoing). x.link.0) in
    let adds : AddsTo (links_out (slice_index_or c.args.nodes.now c.loop-u.u c.index-nodes-u.result).outs.items) (came_out (slice_index_or c.args.nodes.now c.loop-u.u c.index-nodes-u.result).outs.items) c.args.slot (length (slice_index_or c.args.nodes.now c.loop-u.u c.index-nodes-u.result).outs.items) c.loop-u.entered c.add_entered.new.entered =
    subst (λ (xs : List Outgoing). AddsTo (links_out xs) (came_out xs) c.args.slot (length xs) c.loop-u.entered c.add_entered.new.entered) c.deref.ensures.value c.add_entered.ensures in
    for_more s s.tail s.out_place s.outs s.out_link (came_at s c.args.nodes.now) c.args.slot u (links_out outs) (came_out outs) c.args.entered.now c.loop-u.entered c.add_entered.new.entered (tails s c.is_setting.ensures.setting.network) there c.requires.links
    (many ∙ c.requires.ends.outs u d there) (λ i l. c.requires.ends.out_links u i d there l)
    (λ l m e. ap (λ (ys : List ℕ). slice_index ys (s.out_place l)) (read_map LeanNode (List ℕ) (λ (n : LeanNode). came_out n.outs.items) c.args.nodes.now u [] d inside)
    ∙ ap (λ (q : ℕ). slice_index (slice_index_or (map (λ (n : LeanNode). came_out n.outs.items) c.args.nodes.now) q []) (s.out_place l)) (sym e))
    c.loop-u.invariant (subst (λ (n : ℕ). AddsTo (links_out outs) (came_out outs) c.args.slot n c.loop-u.entered c.add_entered.new.entered) (sym many) adds)

pub returns : goal.returns
returns c =
    let s = setting_of c.args.scenario.now in
    for_all s s.tail (came_at s c.args.nodes.now) c.args.slot c.loop-u.u c.args.entered.now c.loop-u.entered
    (λ l m. omega (arith, c.is_setting.ensures.setting.network.tail_is_node l m, c.loop-u-test.false, c.requires.ends.count)) c.loop-u.invariant
