use Rattle.std.proofs.Common.{rules, ◌≡◌, ℕ, ◌+◌, List, ◌++◌, ◌∷◌, [], length, slice_index, slice_range, arith, sym, ap, subst, ◌∙◌}
use Rattle.ltm_setting.specs.Setting.{setting_of}
use Rattle.ltm_used.specs.Lists.{found_from, list_of}
use Rattle.ltm_used.proofs.AtNodes.{HasAll, has_all, is_node_list}
use Rattle.ltm_used.proofs.Listing.{parts_on}
use Rattle.ltm_used.proofs.nodes.node_destinations.Goals as goal

pub nodes-preserved : goal.nodes-preserved
nodes-preserved c =
    let s = setting_of c.args.scenario.now in
    let long : c.len.result ≡ length c.add_found.new.into.items = search rules in
    let ds : List ℕ = found_from c.in_ok-found.found 0 c.destination_count-many.result in
    parts_on c.nodes.starts.items c.nodes.destinations.items c.push-in-nodes.new.self.items c.add_found.new.into.items c.nodes.node (HasAll s c.args.used.now) ds c.in_ok-add_found.ensures
    (c.in_ok-push-2.ensures.items ∙ ap (λ (z : ℕ). c.nodes.starts.items ++ z ∷ []) long) c.nodes.invariant
    (has_all s c.args.used.now c.nodes.node c.in_ok-found.found c.destination_count-many.result c.destination_count-many.ensures.value c.in_ok-found.ensures.links c.in_ok-found.ensures.origin)

pub returns-clause-listed : goal.returns-clause-listed
returns-clause-listed c = λ counts u load node.
    let s = setting_of c.args.scenario.now in
    let same : list_of c.of.result u ≡ slice_range c.nodes.destinations.items (slice_index c.nodes.starts.items u) (slice_index c.nodes.starts.items (u + 1)) =
    ap (λ (xs : List ℕ). slice_range xs (slice_index c.of.result.starts.items u) (slice_index c.of.result.starts.items (u + 1))) c.of.ensures.destinations
    ∙ ap (λ (ys : List ℕ). slice_range c.nodes.destinations.items (slice_index ys u) (slice_index ys (u + 1))) c.of.ensures.starts in
    is_node_list s c.args.used.now counts u (list_of c.of.result u) c.is_setting.ensures.setting load node (λ l x. c.requires.listed counts l load x)
    (subst (HasAll s c.args.used.now u) (sym same) (c.nodes.invariant.lists u (omega (arith, node, c.nodes-test.false, c.node_count-node-end.ensures.value))))
