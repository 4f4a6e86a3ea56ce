-- The first moment at which a curve has so many units.
use Rattle.std.specs.Prelude.{ℕ, ◌+◌, ◌*◌, nat_le, Option}
use Rattle.ltm_units.specs.Numbers.{first_below}
use Rattle.ltm_curve.specs.Counts.{interpolated}

-- the first millisecond, up to the last boundary, at which a curve has at least so many units
unfoldable pub first_moment : (ℕ → ℕ) → ℕ → ℕ → ℕ → Option ℕ
first_moment counts step last count = first_below (λ time. nat_le count (interpolated counts step time)) (last * step + 1)
