use Rattle.std.proofs.Common.{◌≢◌, ◌==◌, ◌&&◌, ℕ, ◌+◌, ap, ◌∙◌, arith}
use Rattle.std.proofs.lemmas.Bool.{ne_eqb}
use Rattle.ltm_frontier.specs.Frontier.{is_pair}
use Rattle.ltm_working.proofs.Bools.{and_false}
use Rattle.ltm_working.proofs.Activating.{act_no}
use Rattle.ltm_rows.proofs.KeptPlaces.{forgets_past}
use Rattle.ltm_working.proofs.renewing.wake_next.Goals as goal

pub returns-then-slot-slot_count-clause-wakes : goal.returns-then-slot-slot_count-clause-wakes
returns-then-slot-slot_count-clause-wakes c =
    let u : ℕ = c.args.pair.node.0 in
    let k : ℕ = c.args.pair.slot + 1 in
    act_no c.args.frontier.now (is_pair u k)
    (λ w v x y.
    let apart : v ≢ k = λ e. omega (arith, e, y, c.requires.pairs.slots, c.if-slot-slot_count.true, c.slot_count.ensures.value) in
    ap (λ z. (w == u) && z) (ne_eqb v k apart) ∙ and_false (w == u))

pub returns-then-slot-slot_count-clause-kept : goal.returns-then-slot-slot_count-clause-kept
returns-then-slot-slot_count-clause-kept c =
    forgets_past c.args.kept.now c.args.pair.node.0 (c.args.pair.slot + 1) (omega (arith, c.requires.kept.same_slots, c.if-slot-slot_count.true, c.slot_count.ensures.value))
