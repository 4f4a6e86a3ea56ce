use Rattle.std.proofs.Common.{◌≡◌, ℕ, slice_index_or, subst, arith}
use Rattle.ltm_times.specs.Delays.{IsLinkDelayBy}
use Rattle.ltm_times.proofs.delays_by_link.link_delays.Goals as goal

pub returns-clause-shown : goal.returns-clause-shown
returns-clause-shown c s version counts shows link none there =
    let all : c.loop-slot.slot ≡ s.slots = omega (arith, c.slots-slot-end.ensures, shows.shape.same_slots) in
    subst (λ (k : ℕ). IsLinkDelayBy s counts link k (slice_index_or c.loop-slot.delays.items link none)) all
    ((c.loop-slot.invariant.each link none (omega (arith, there, shows.links))).shown s version counts shows)
