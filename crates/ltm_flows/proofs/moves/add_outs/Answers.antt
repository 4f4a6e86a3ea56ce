use Rattle.std.proofs.Common.{◌≡◌, ◌<◌, ℕ, arith, ap}
use Rattle.ltm_curve.specs.Table.{counts_of}
use Rattle.ltm_node.specs.declared.shape.NodeShape.{NodeShape}
use Rattle.ltm_node.specs.Outputs.{entered_after}
use Rattle.ltm_setting.specs.Setting.{setting_of}
use Rattle.ltm_setting.proofs.Links.{link_item}
use Rattle.ltm_flows.specs.Applying.{out_group}
use Rattle.ltm_flows.proofs.Adding.{adds_next, shaped_by, sum_small}
use Rattle.ltm_flows.proofs.Writing.{sets_none, out_there, out_apart}
use Rattle.ltm_flows.proofs.moves.add_outs.Goals as goal

pub loop-out-init : goal.loop-out-init
loop-out-init c = record { shape = c.requires.shape; sets = sets_none _ _ _ _ _ }

pub add_row-requires-clause-small : goal.add_row-requires-clause-small
add_row-requires-clause-small c = λ d l.
    let s = setting_of c.args.scenario.now in
    let u : ℕ = c.args.node.0 in
    let j : ℕ = c.loop-out.out in
    let links = c.out_links-link-items.result.now in
    let inside : j < s.outs u = omega (arith, c.loop-out-test.true, c.out_links-link-items.ensures.count) in
    let many : d < s.destinations = omega (arith, c.entered_row.ensures.count, ap (λ (z : NodeShape). z.destinations) c.requires.moves) in
    let group : c.up_of.result ≡ out_group s u j = omega (arith, c.up_of.ensures, link_item links j c.loop-out-test.true, c.out_links-link-items.ensures.links j c.loop-out-test.true) in
    sum_small s c.args.boundary j (out_group s u) (entered_after c.args.moves.now) (counts_of c.args.curves.now) (counts_of c.loop-out.curves) _ d _ (omega (arith, group, out_there s u j c.requires.setting c.requires.node inside)) group
    (λ i m. out_apart s u i j c.requires.setting c.requires.node m inside) many c.loop-out.invariant.sets
    (c.entered_row.ensures.counts d (omega (arith, ap (λ (z : NodeShape). z.destinations) c.requires.moves))) (c.requires.small j d inside many)

pub loop-out-preserved : goal.loop-out-preserved
loop-out-preserved c =
    let s = setting_of c.args.scenario.now in
    let u : ℕ = c.args.node.0 in
    let j : ℕ = c.loop-out.out in
    let links = c.out_links-link-items.result.now in
    let inside : j < s.outs u = omega (arith, c.loop-out-test.true, c.out_links-link-items.ensures.count) in
    let group : c.up_of.result ≡ out_group s u j = omega (arith, c.up_of.ensures, link_item links j c.loop-out-test.true, c.out_links-link-items.ensures.links j c.loop-out-test.true) in
    record {
      shape = shaped_by s c.loop-out.curves _ c.loop-out.invariant.shape c.add_row.ensures.shape;
      sets = adds_next s _ j _ _ _ c.loop-out.curves _ _ c.entered_row.result.now c.requires.boundary (omega (arith, group, out_there s u j c.requires.setting c.requires.node inside)) group
          (λ i l. out_there s u i c.requires.setting c.requires.node (omega arith)) (λ i l. out_apart s u i j c.requires.setting c.requires.node l inside)
          (λ d l. c.entered_row.ensures.counts d (omega (arith, ap (λ (z : NodeShape). z.destinations) c.requires.moves))) c.loop-out.invariant.shape c.loop-out.invariant.sets c.add_row.ensures;
    }
