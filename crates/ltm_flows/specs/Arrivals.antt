-- What has arrived, from what has left the origins and is on no link.
use Rattle.std.specs.Prelude.{◌≡◌, ℕ, ◌+◌, ◌-◌, ◌*◌, ◌<◌, ◌≤◌}
use Rattle.ltm_units.specs.Sums.{sum_below}
use Rattle.ltm_curve.specs.Counts.{Counts, total}
use Rattle.ltm_curve.specs.declared.total_curves.TotalCurves.{TotalCurves}
use Rattle.ltm_curve.specs.TotalCurves.{total_groups, total_slots, total_at, HasTotals}
use Rattle.ltm_loading.specs.Setting.{Setting}
use Rattle.ltm_loading.specs.Groups.{up_of, down_of, arr_of}
use Rattle.ltm_loading.specs.Loading.{IsLoading}

-- the totals of the loading of a setting, of links and origins; what has arrived is not told
pub record AreMovedTotals (s : Setting) (totals : ℕ → ℕ → ℕ) : Type 0 where
  pub counts : Counts
  pub loading : IsLoading s counts
  pub sums : (g k : ℕ) → g < arr_of s → k ≤ s.slots → totals g k ≡ total s.destinations (counts g) k

-- what has left the origins and is on no link, of so many links and nodes
abbrev pub gone_through : (ℕ → ℕ → ℕ) → ℕ → ℕ → ℕ → ℕ
gone_through totals links nodes k =
    sum_below nodes (λ u. totals (2 * links + u) k) - sum_below links (λ l. totals (up_of l) k - totals (down_of l) k)

-- for the boundaries before one the last group has what is gone through, and all else is as before
pub record HasArrivals (links nodes before : ℕ) (old new : TotalCurves) : Type 0 where
  pub shape : HasTotals new (total_groups old) (total_slots old)
  pub here : (k : ℕ) → k < before → total_at new (2 * links + nodes) k ≡ gone_through (total_at old) links nodes k
  pub others : (g k : ℕ) → g < 2 * links + nodes → k ≤ total_slots old → total_at new g k ≡ total_at old g k
