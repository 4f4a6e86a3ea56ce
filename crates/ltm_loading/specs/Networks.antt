-- What two settings of one network have in common.
use Rattle.std.specs.Prelude.{◌≡◌, ℕ, ◌+◌, ◌<◌, ◌≤◌}
use Rattle.ltm_loading.specs.Setting.{Setting}

-- two settings of one network, whose nodes move by one rule: they may differ in times, limits, demand, weights and horizon
pub record SameNetwork (r s : Setting) : Type 0 where
  pub nodes : r.nodes ≡ s.nodes
  pub links : r.links ≡ s.links
  pub destinations : r.destinations ≡ s.destinations
  pub ins : r.ins ≡ s.ins
  pub in_link : r.in_link ≡ s.in_link
  pub outs : r.outs ≡ s.outs
  pub out_link : r.out_link ≡ s.out_link
  pub own : r.own ≡ s.own
  pub by_turn : r.by_turn ≡ s.by_turn

-- two settings of one network and step give a pair the same numbers: those of its in-links and out-links at its slot, of
-- its origin up to the slot's end, and its weights
pub record SameFor (r s : Setting) (u t : ℕ) : Type 0 where
  pub network : SameNetwork r s
  pub step : r.step ≡ s.step
  pub free_time : (i : ℕ) → i < s.ins u → r.free_time (s.in_link u i) ≡ s.free_time (s.in_link u i)
  pub in_capacity : (i : ℕ) → i < s.ins u → r.capacity (s.in_link u i) t ≡ s.capacity (s.in_link u i) t
  pub exit_limit : (i : ℕ) → i < s.ins u → r.exit_limit (s.in_link u i) t ≡ s.exit_limit (s.in_link u i) t
  pub wave_time : (j : ℕ) → j < s.outs u → r.wave_time (s.out_link u j) ≡ s.wave_time (s.out_link u j)
  pub out_capacity : (j : ℕ) → j < s.outs u → r.capacity (s.out_link u j) t ≡ s.capacity (s.out_link u j) t
  pub storage : (j : ℕ) → j < s.outs u → r.storage (s.out_link u j) ≡ s.storage (s.out_link u j)
  pub entry_limit : (j : ℕ) → j < s.outs u → r.entry_limit (s.out_link u j) t ≡ s.entry_limit (s.out_link u j) t
  pub origin_capacity : r.origin_capacity ≡ s.origin_capacity
  pub produced : (d k : ℕ) → d < s.destinations → k ≤ t + 1 → r.produced u d k ≡ s.produced u d k
  pub weight : (d j : ℕ) → d < s.destinations → j < s.outs u → r.weight u d t j ≡ s.weight u d t j
