use Rattle.std.specs.Prelude.{◌≡◌, ◌≤◌, ◌⊎◌}
use Rattle.ltm_frontier.specs.Frontier.{in_slots, Activates}
use Rattle.ltm_frontier.proofs.frontier.Frontier.mark_range.Given as goal

abbrev pub invariant-loop-slot : goal.invariant-loop-slot
invariant-loop-slot l = Activates l.fn.self l.self (in_slots l.node.0 l.fn.reach.from l.slot) × ((l.slot ≡ l.fn.reach.from) ⊎ (l.slot ≤ l.fn.reach.to))
