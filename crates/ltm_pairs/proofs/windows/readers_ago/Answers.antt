-- The first and the last slot are those of `slots_read`, cut at the horizon.
use Rattle.std.proofs.Common.{ℕ, ◌+◌, ◌-◌, arith}
use Rattle.ltm_pairs.proofs.Slots.{IsWidth, slots_read, cut_at}
use Rattle.ltm_pairs.proofs.windows.readers_ago.Goals as goal
use Rattle.ltm_pairs.proofs.windows.readers_ago.Goals.{then-delay-eq0, else-delay-eq0}

pub returns-clause-slots : goal.returns-clause-slots
returns-clause-slots c = λ step time slot delay slow low.
    let width : ℕ = c.if-delay-eq0.width in
    let wide : IsWidth c.args.delay.rest width = elim c.if-delay-eq0.branch [
      | then-delay-eq0 w ↦ record { whole = λ h. omega arith; broken = λ h. omega arith }
      | else-delay-eq0 w ↦ record { whole = λ h. omega arith; broken = λ h. omega arith }
    ] in
    cut_at c.args.node.0 c.args.boundary (c.args.boundary + (c.args.delay.slots - width)) (c.args.boundary + c.args.delay.slots) c.saturating_add.result c.min.result c.args.slots
    4294967295 slot _ (omega (c.saturating_add.ensures, c.saturating_sub.ensures, arith)) (omega (c.saturating_add-2.ensures, c.min.ensures, arith)) low (omega arith)
    (slots_read step time c.args.delay.rest c.args.delay.slots c.args.boundary slot width delay.slots delay.rest slow wide)
