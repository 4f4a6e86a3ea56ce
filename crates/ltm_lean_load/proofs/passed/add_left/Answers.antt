use Rattle.std.proofs.Common.{◌≡◌, ℕ, ◌<◌, length, slice_index_or, arith, sym}
use Rattle.std.proofs.lemmas.List.{length-map}
use Rattle.ltm_lean.specs.declared.incoming.Incoming.{Incoming}
use Rattle.ltm_lean_load.specs.Nodes.{links_in, gone_in}
use Rattle.ltm_lean_load.proofs.Elements.{read_map}
use Rattle.ltm_lean_load.proofs.Adding.{adds_more}
use Rattle.ltm_lean_load.proofs.passed.add_left.Goals as goal

pub add_at-requires-clause-link : goal.add_at-requires-clause-link
add_at-requires-clause-link c =
    let there : c.loop-i.i < length c.args.ins.now = omega (arith, c.loop-i-test.true) in
    omega (arith, sym (read_map Incoming ℕ (λ (o : Incoming). o.link.0) c.args.ins.now c.loop-i.i 0 c.index-ins-i.result there), c.requires.links c.loop-i.i there, c.loop-i.invariant.links)

pub loop-i-preserved : goal.loop-i-preserved
loop-i-preserved c =
    let there : c.loop-i.i < length c.args.ins.now = omega (arith, c.loop-i-test.true) in
    let long : length (links_in c.args.ins.now) ≡ length c.args.ins.now = length-map c.args.ins.now (λ (o : Incoming). o.link.0) in
    adds_more (links_in c.args.ins.now) (gone_in c.args.ins.now) c.args.slot c.loop-i.i (slice_index_or c.args.ins.now c.loop-i.i c.index-ins-i.result).link.0 (slice_index_or c.args.ins.now c.loop-i.i c.index-ins-i-in-loop-i.result).gone
    c.args.left.now c.loop-i.left c.add_at.new.totals c.loop-i.invariant c.requires.apart (λ i l. c.requires.links i (omega (arith, l, long))) (omega (arith, there, long))
    (read_map Incoming ℕ (λ (o : Incoming). o.link.0) c.args.ins.now c.loop-i.i 0 c.index-ins-i.result there)
    (read_map Incoming ℕ (λ (o : Incoming). o.gone) c.args.ins.now c.loop-i.i 0 c.index-ins-i-in-loop-i.result there) c.add_at.ensures
