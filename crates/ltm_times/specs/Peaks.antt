-- Where numbers are greatest.
use Rattle.std.specs.Prelude.{ℕ, zero, suc, ◌≡◌, ◌<◌, ◌≤◌, nat_lt, if◌then◌else◌}
use Rattle.ltm_times.specs.declared.delays.Peak.{Peak}

-- the first place, up to a last one, at which numbers are greatest
abbrev pub peak : (ℕ → ℕ) → ℕ → ℕ
peak f zero = 0
peak f (suc last) = if nat_lt (f (peak f last)) (f (suc last)) then suc last else peak f last

-- that place and the number there
pub record IsPeakOf (f : ℕ → ℕ) (last : ℕ) (p : Peak) : Type 0 where
  pub at : p.at ≡ peak f last
  pub most : p.most.0 ≡ f p.at

-- nothing up to the last place is greater, and all before is less
pub record IsFirstGreatest (f : ℕ → ℕ) (last at : ℕ) : Type 0 where
  pub within : at ≤ last
  pub greatest : (k : ℕ) → k ≤ last → f k ≤ f at
  pub first : (k : ℕ) → k < at → f k < f at

abbrev pub PeaksAreFirstGreatest : Type 0
PeaksAreFirstGreatest = (f : ℕ → ℕ) (last : ℕ) → IsFirstGreatest f last (peak f last)
