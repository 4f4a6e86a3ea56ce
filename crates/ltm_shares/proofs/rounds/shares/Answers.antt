use Rattle.std.proofs.Common.{ℕ, List, arith, refl, sym, subst, slice_index}
use Rattle.ltm_shares.specs.Shares.{AreShares}
use Rattle.ltm_shares.specs.Demands.{demands_of}
use Rattle.ltm_shares.proofs.Levels.{finished, denominator_small}
use Rattle.ltm_shares.proofs.Steps.{sound_at_start, zeros}
use Rattle.ltm_shares.proofs.rounds.shares.Goals as goal

pub loop-out-2-init : goal.loop-out-2-init
loop-out-2-init c = sound_at_start (demands_of c.args.demands.now) _ c.requires refl zeros (λ i. refl) (λ j m. c.loop-out.invariant.1 j (omega arith))

pub over-requires-clause-positive : goal.over-requires-clause-positive
over-requires-clause-positive c = omega (arith, c.loop-out-2.invariant.positive, c.finish.ensures.same_denominator)

pub over-requires-clause-small : goal.over-requires-clause-small
over-requires-clause-small c = omega (arith, denominator_small (demands_of c.args.demands.now) c.loop-out-2.progress c.loop-out-2.invariant, c.finish.ensures.same_denominator)

pub returns : goal.returns
returns c =
    let n = demands_of c.args.demands.now in
    let d : ℕ = c.over.result.denominator in
    subst (λ (z : List ℕ). AreShares n d (slice_index z)) (sym c.over.ensures.numerators)
    (subst (λ (z : ℕ). AreShares n z (slice_index c.finish.new.progress.numerators)) (sym c.over.ensures.denominator)
    (finished n c.loop-out-2.progress c.finish.new.progress c.requires c.loop-out-2.invariant c.in_default.ensures c.finish.ensures))
