use Rattle.std.proofs.Common.{◌≡◌, ℕ, ◌<◌, false}
use Rattle.ltm_frontier.specs.Frontier.{nodes_in, slots_in, is_active, NoneBefore}
use Rattle.ltm_frontier.proofs.frontier.Frontier.first_active.Given as goal

abbrev pub invariant-loop-slot : goal.invariant-loop-slot
invariant-loop-slot l = NoneBefore l.self l.slot × ((u : ℕ) → u < nodes_in l.self → u < l.from → l.slot < slots_in l.self → is_active l.self u l.slot ≡ false)
