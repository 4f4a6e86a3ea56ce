use Rattle.std.proofs.Common.{ℕ, ◌<◌, List, [], length, map, slice_index, slice_index_or, arith, sym, ap, subst, ◌∙◌}
use Rattle.std.proofs.lemmas.List.{length-map}
use Rattle.ltm_setting.specs.Setting.{setting_of}
use Rattle.ltm_totals.specs.Totals.{total_links}
use Rattle.ltm_lean.specs.declared.incoming.Incoming.{Incoming}
use Rattle.ltm_lean.specs.declared.node.LeanNode.{LeanNode}
use Rattle.ltm_lean_load.specs.Adding.{AreDistinct, AddsTo}
use Rattle.ltm_lean_load.specs.Nodes.{links_in, gone_in, gone_at}
use Rattle.ltm_lean_load.proofs.Elements.{read_map}
use Rattle.ltm_lean_load.proofs.Adding.{heads, at_once, for_more, for_all}
use Rattle.ltm_lean_load.proofs.passed.add_all_left.Goals as goal

pub add_left-requires-clause-links : goal.add_left-requires-clause-links
add_left-requires-clause-links c =
    let s = setting_of c.args.scenario.now in
    let u : ℕ = c.loop-u.u in
    let there : c.loop-u.u < (setting_of c.args.scenario.now).nodes = omega (arith, c.loop-u-test.true, c.requires.ends.count) in
    subst (λ (xs : List Incoming). (i : ℕ) → i < length xs → slice_index (links_in xs) i < total_links c.loop-u.left) (sym c.deref.ensures.value)
    (λ i l.
    let low : i < (setting_of c.args.scenario.now).ins c.loop-u.u = omega (arith, l, c.requires.ends.ins u c.index-nodes-u.result there) in
    omega (arith, c.requires.ends.in_links u i c.index-nodes-u.result there low, c.is_setting.ensures.setting.network.in_link_is_link u i there low, c.requires.links, c.loop-u.invariant.links))

pub add_left-requires-clause-apart : goal.add_left-requires-clause-apart
add_left-requires-clause-apart c =
    let s = setting_of c.args.scenario.now in
    let u : ℕ = c.loop-u.u in
    let d : LeanNode = c.index-nodes-u.result in
    let there : c.loop-u.u < (setting_of c.args.scenario.now).nodes = omega (arith, c.loop-u-test.true, c.requires.ends.count) in
    let ins : List Incoming = (slice_index_or c.args.nodes.now u d).ins.items in
    subst (λ (xs : List Incoming). AreDistinct (links_in xs)) (sym c.deref.ensures.value)
    (at_once s s.head s.in_place s.ins s.in_link u (links_in ins) (heads s c.is_setting.ensures.setting.network) there
    (length-map ins (λ (x : Incoming). x.link.0) ∙ c.requires.ends.ins u d there) (λ i l. c.requires.ends.in_links u i d there l))

pub loop-u-preserved : goal.loop-u-preserved
loop-u-preserved c =
    let s = setting_of c.args.scenario.now in
    let u : ℕ = c.loop-u.u in
    let d : LeanNode = c.index-nodes-u.result in
    let inside : c.loop-u.u < length c.args.nodes.now = omega (arith, c.loop-u-test.true) in
    let there : c.loop-u.u < (setting_of c.args.scenario.now).nodes = omega (arith, c.loop-u-test.true, c.requires.ends.count) in
    let ins : List Incoming = (slice_index_or c.args.nodes.now u d).ins.items in
    let many = length-map ins (λ (x : Incoming). x.link.0) in
    let adds : AddsTo (links_in (slice_index_or c.args.nodes.now c.loop-u.u c.index-nodes-u.result).ins.items) (gone_in (slice_index_or c.args.nodes.now c.loop-u.u c.index-nodes-u.result).ins.items) c.args.slot (length (slice_index_or c.args.nodes.now c.loop-u.u c.index-nodes-u.result).ins.items) c.loop-u.left c.add_left.new.left =
    subst (λ (xs : List Incoming). AddsTo (links_in xs) (gone_in xs) c.args.slot (length xs) c.loop-u.left c.add_left.new.left) c.deref.ensures.value c.add_left.ensures in
    for_more s s.head s.in_place s.ins s.in_link (gone_at s c.args.nodes.now) c.args.slot u (links_in ins) (gone_in ins) c.args.left.now c.loop-u.left c.add_left.new.left (heads s c.is_setting.ensures.setting.network) there c.requires.links
    (many ∙ c.requires.ends.ins u d there) (λ i l. c.requires.ends.in_links u i d there l)
    (λ l m e. ap (λ (ys : List ℕ). slice_index ys (s.in_place l)) (read_map LeanNode (List ℕ) (λ (n : LeanNode). gone_in n.ins.items) c.args.nodes.now u [] d inside)
    ∙ ap (λ (q : ℕ). slice_index (slice_index_or (map (λ (n : LeanNode). gone_in n.ins.items) c.args.nodes.now) q []) (s.in_place l)) (sym e))
    c.loop-u.invariant (subst (λ (n : ℕ). AddsTo (links_in ins) (gone_in ins) c.args.slot n c.loop-u.left c.add_left.new.left) (sym many) adds)

pub returns : goal.returns
returns c =
    let s = setting_of c.args.scenario.now in
    for_all s s.head (gone_at s c.args.nodes.now) c.args.slot c.loop-u.u c.args.left.now c.loop-u.left
    (λ l m. omega (arith, c.is_setting.ensures.setting.network.head_is_node l m, c.loop-u-test.false, c.requires.ends.count)) c.loop-u.invariant
