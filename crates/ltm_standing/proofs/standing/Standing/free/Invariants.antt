use Rattle.std.proofs.Common.{◌≡◌, ℕ, ◌-◌, ◌≤◌}
use Rattle.ltm_curve.specs.Counts.{total}
use Rattle.ltm_standing.specs.Standing.{width_of, StandsAt}
use Rattle.ltm_standing.proofs.standing.Standing.free.Given as goal

abbrev pub invariant-loop-self : goal.invariant-loop-self
invariant-loop-self l = record {
  wide : width_of l.self ≡ width_of l.initial.self;
  keeps : (width : ℕ) (up down : ℕ → ℕ → ℕ) (k t : ℕ) → l.gone ≤ total width down t → StandsAt width up down k t l.initial.self → StandsAt width up down k t l.self;
}

abbrev pub decreases-loop-self : goal.decreases-loop-self
decreases-loop-self l = l.self.next - l.self.dead
