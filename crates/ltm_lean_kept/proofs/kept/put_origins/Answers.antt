use Rattle.std.proofs.Common.{◌≡◌, ◌*◌, ◌+◌, ℕ, map, slice_index, arith, ap, ◌∙◌, sym, subst}
use Rattle.std.proofs.lemmas.List.{get_or-map}
use Rattle.ltm_curve.specs.TotalCurves.{SetsTotal}
use Rattle.ltm_lean_kept.specs.Kept.{departed_at}
use Rattle.ltm_lean_kept.proofs.Keeping.{origins_none, origins_next}
use Rattle.ltm_lean_kept.proofs.kept.put_origins.Goals as goal

pub loop-node-init : goal.loop-node-init
loop-node-init c = origins_none c.args.nodes.now c.args.links c.args.boundary c.args.curves.now

pub set-requires-clause-small : goal.set-requires-clause-small
set-requires-clause-small c =
    let is : slice_index (map departed_at c.args.nodes.now) c.loop-node.node ≡ departed_at c.index-nodes-node.result = get_or-map departed_at c.args.nodes.now c.loop-node.node c.index-nodes-node.result 0 c.loop-node-test.true ∙ ap departed_at (sym c.index-nodes-node.is) in
    omega (arith, c.departed-left.ensures, is, c.requires.small c.loop-node.node c.loop-node-test.true)

pub set-requires-clause-narrow : goal.set-requires-clause-narrow
set-requires-clause-narrow c x =
    let is : slice_index (map departed_at c.args.nodes.now) c.loop-node.node ≡ departed_at c.index-nodes-node.result = get_or-map departed_at c.args.nodes.now c.loop-node.node c.index-nodes-node.result 0 c.loop-node-test.true ∙ ap departed_at (sym c.index-nodes-node.is) in
    omega (arith, c.departed-left.ensures, is, c.requires.small c.loop-node.node c.loop-node-test.true)

pub loop-node-preserved : goal.loop-node-preserved
loop-node-preserved c =
    let is : slice_index (map departed_at c.args.nodes.now) c.loop-node.node ≡ departed_at c.index-nodes-node.result = get_or-map departed_at c.args.nodes.now c.loop-node.node c.index-nodes-node.result 0 c.loop-node-test.true ∙ ap departed_at (sym c.index-nodes-node.is) in
    let at : c.dep_behind.result ≡ 2 * c.args.links + c.loop-node.node = omega (arith, c.dep_behind.ensures) in
    origins_next c.args.nodes.now c.args.links c.loop-node.node c.args.boundary c.departed-left.result c.args.curves.now c.loop-node.curves c.set.new.self
    (omega (arith, c.loop-node-test.true, c.requires.groups)) c.requires.slots (c.departed-left.ensures ∙ sym is) c.loop-node.invariant
    (subst (λ (g : ℕ). SetsTotal c.loop-node.curves c.set.new.self g c.args.boundary c.departed-left.result) at c.set.ensures)
