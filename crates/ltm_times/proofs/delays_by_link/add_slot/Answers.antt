use Rattle.std.proofs.Common.{ℕ, ◌+◌, ◌∙◌, arith}
use Rattle.std.proofs.lemmas.List.{length-set}
use Rattle.ltm_flows.specs.Shown.{links_of}
use Rattle.ltm_times.specs.declared.delays.LinkDelay.{LinkDelay}
use Rattle.ltm_times.specs.DelaysBy.{IsLinkDelayIn}
use Rattle.ltm_times.proofs.Passes.{done_more, left_more}
use Rattle.ltm_times.proofs.delays_by_link.add_slot.Goals as goal

pub loop-link-preserved : goal.loop-link-preserved
loop-link-preserved c =
    let l = c.args.loading.now in
    let slot : ℕ = c.args.slot in
    let at : ℕ = c.loop-link.link in
    record {
      count = length-set c.loop-link.delays at c.add_link.new.delay ∙ c.loop-link.invariant.count;
      done = done_more (λ (i : ℕ) (d : LinkDelay). IsLinkDelayIn l i (slot + 1) d) c.loop-link.delays at c.add_link.new.delay
          (omega (arith, c.loop-link.invariant.count, c.links-link-end.ensures.value, c.loop-link-test.true)) c.loop-link.invariant.done c.add_link.ensures;
      left = left_more (λ (i : ℕ) (d : LinkDelay). IsLinkDelayIn l i slot d) c.loop-link.delays at (links_of l) c.add_link.new.delay c.loop-link.invariant.left;
    }
