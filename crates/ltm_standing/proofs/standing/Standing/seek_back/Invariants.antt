use Rattle.std.proofs.Common.{◌≡◌, ℕ}
use Rattle.ltm_standing.specs.Standing.{width_of, Keeps}
use Rattle.ltm_standing.proofs.standing.Standing.seek_back.Given as goal

abbrev pub invariant-loop-self : goal.invariant-loop-self
invariant-loop-self l = record {
  wide : width_of l.self ≡ width_of l.initial.self;
  keeps : (k t : ℕ) → Keeps k t l.initial.self l.self;
}

abbrev pub decreases-loop-self : goal.decreases-loop-self
decreases-loop-self l = l.self.next
