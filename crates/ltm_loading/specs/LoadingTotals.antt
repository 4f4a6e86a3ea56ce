-- What a loading comes to for each group and boundary.
use Rattle.std.specs.Prelude.{◌≡◌, ℕ, ◌<◌, ◌≤◌}
use Rattle.ltm_curve.specs.Counts.{Counts, total}
use Rattle.ltm_loading.specs.Setting.{Setting}
use Rattle.ltm_loading.specs.Groups.{groups}
use Rattle.ltm_loading.specs.Loading.{IsLoading}

-- counts of a setting have these totals, by group and boundary
abbrev pub HaveTotals : Setting → Counts → (ℕ → ℕ → ℕ) → Type 0
HaveTotals s c totals = (g k : ℕ) → g < groups s → k ≤ s.slots → totals g k ≡ total s.destinations (c g) k

-- the totals of the loading of a setting
pub record AreLoadingTotals (s : Setting) (totals : ℕ → ℕ → ℕ) : Type 0 where
  pub counts : Counts
  pub loading : IsLoading s counts
  pub sums : HaveTotals s counts totals
