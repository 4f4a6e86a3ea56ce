-- Times counted in steps. What lies a time before a boundary lies a rest past an earlier boundary.
use Rattle.std.specs.Prelude.{◌≡◌, ℕ, ◌+◌, ◌*◌, ◌<◌, List, length, slice_index_or}
use Rattle.ltm_flows.specs.declared.loading.Loading.{Loading}
use Rattle.ltm_flows.specs.Shown.{step_of, links_of, free_of}
use Rattle.ltm_times.specs.declared.behind.Behind.{Behind}

-- so many whole steps are as long as a time and a rest of less than a step
pub record IsBehind (step time : ℕ) (b : Behind) : Type 0 where
  pub whole : b.whole * step ≡ time + b.rest.0
  pub rest : b.rest.0 < step

-- the free-flow times of all links, by the number of the link
pub record AreFreeTimes (l : Loading) (times : List Behind) : Type 0 where
  pub count : length times ≡ links_of l
  pub each : (link : ℕ) (none : Behind) → link < links_of l → IsBehind (step_of l) (free_of l link) (slice_index_or times link none)
