-- What a loading comes to in all.
use Rattle.std.specs.Prelude.{◌≡◌, ℕ, ◌+◌, ◌-◌, ◌*◌}
use Rattle.ltm_units.specs.Sums.{sum_below}
use Rattle.ltm_curve.specs.Counts.{Counts}
use Rattle.ltm_loading.specs.Setting.{Setting}
use Rattle.ltm_loading.specs.Groups.{up_of, down_of}
use Rattle.ltm_loading.specs.Totals.{generated, arrived, on_links, waiting}
use Rattle.ltm_flows.specs.declared.loading_totals.Totals.{Totals}

-- the totals of a setting's counts at a boundary
pub record AreTotals (s : Setting) (c : Counts) (k : ℕ) (t : Totals) : Type 0 where
  pub generated : t.generated.0 ≡ generated s k
  pub arrived : t.arrived.0 ≡ arrived s c k
  pub on_links : t.on_links.0 ≡ on_links s c k
  pub waiting : t.waiting.0 ≡ waiting s c k

-- what the totals of groups come to at a boundary, of so many links and nodes, with what has been produced by then
pub record AreSums (total : ℕ → ℕ → ℕ) (links nodes k produced : ℕ) (t : Totals) : Type 0 where
  pub generated : t.generated.0 ≡ produced
  pub arrived : t.arrived.0 ≡ total (2 * links + nodes) k
  pub on_links : t.on_links.0 ≡ sum_below links (λ i. total (up_of i) k - total (down_of i) k)
  pub waiting : t.waiting.0 ≡ produced - sum_below nodes (λ u. total (2 * links + u) k)
