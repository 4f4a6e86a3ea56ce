use Rattle.std.proofs.Common.{◌≡◌, ℕ, ◌<◌, length, slice_index_or, arith, sym}
use Rattle.std.proofs.lemmas.List.{length-map}
use Rattle.ltm_lean.specs.declared.outgoing.Outgoing.{Outgoing}
use Rattle.ltm_lean_load.specs.Nodes.{links_out, came_out}
use Rattle.ltm_lean_load.proofs.Elements.{read_map}
use Rattle.ltm_lean_load.proofs.Adding.{adds_more}
use Rattle.ltm_lean_load.proofs.passed.add_entered.Goals as goal

pub add_at-requires-clause-link : goal.add_at-requires-clause-link
add_at-requires-clause-link c =
    let there : c.loop-j.j < length c.args.outs.now = omega (arith, c.loop-j-test.true) in
    omega (arith, sym (read_map Outgoing ℕ (λ (o : Outgoing). o.link.0) c.args.outs.now c.loop-j.j 0 c.index-outs-j.result there), c.requires.links c.loop-j.j there, c.loop-j.invariant.links)

pub loop-j-preserved : goal.loop-j-preserved
loop-j-preserved c =
    let there : c.loop-j.j < length c.args.outs.now = omega (arith, c.loop-j-test.true) in
    let long : length (links_out c.args.outs.now) ≡ length c.args.outs.now = length-map c.args.outs.now (λ (o : Outgoing). o.link.0) in
    adds_more (links_out c.args.outs.now) (came_out c.args.outs.now) c.args.slot c.loop-j.j (slice_index_or c.args.outs.now c.loop-j.j c.index-outs-j.result).link.0 (slice_index_or c.args.outs.now c.loop-j.j c.index-outs-j-in-loop-j.result).mail.came
    c.args.entered.now c.loop-j.entered c.add_at.new.totals c.loop-j.invariant c.requires.apart (λ i l. c.requires.links i (omega (arith, l, long))) (omega (arith, there, long))
    (read_map Outgoing ℕ (λ (o : Outgoing). o.link.0) c.args.outs.now c.loop-j.j 0 c.index-outs-j.result there)
    (read_map Outgoing ℕ (λ (o : Outgoing). o.mail.came) c.args.outs.now c.loop-j.j 0 c.index-outs-j-in-loop-j.result there) c.add_at.ensures
