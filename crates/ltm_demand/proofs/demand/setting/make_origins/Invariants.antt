use Rattle.std.proofs.Common.{◌≡◌, ℕ, ◌+◌, ◌-◌, ◌≤◌, vec_len}
use Rattle.ltm_demand.specs.Origins.{rows_of, origin_at, IsAlike}
use Rattle.ltm_demand.proofs.demand.setting.make_origins.Given as goal

abbrev pub invariant-room : goal.invariant-room
invariant-room l = record {
  alike : (o : ℕ) → IsAlike (origin_at l.initial.origins.items o) (origin_at l.origins.items o);
  places : (o : ℕ) → (origin_at l.initial.origins.items o).places ≤ (origin_at l.origins.items o).places;
  rows : rows_of l.origins.items ≡ rows_of l.initial.origins.items;
}

abbrev pub decreases-room : goal.decreases-room
decreases-room l = l.place + 1 - vec_len l.origins
