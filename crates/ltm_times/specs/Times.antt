-- When vehicles have left a link, how long they take to pass it, and the time that all spend.
use Rattle.std.specs.Prelude.{ℕ, ◌+◌, ◌-◌, ◌*◌, max, Option, option_map}
use Rattle.ltm_units.specs.Sums.{sum_below}
use Rattle.ltm_curve.specs.Counts.{Counts}
use Rattle.ltm_loading.specs.Setting.{Setting}
use Rattle.ltm_loading.specs.Totals.{generated, arrived, entered_link, left_link}
use Rattle.ltm_times.specs.Moments.{first_moment}

-- the first millisecond by which so many units have left a link
abbrev pub exit_time : Setting → Counts → ℕ → ℕ → Option ℕ
exit_time s c link count = first_moment (left_link s c link) s.step s.slots count

-- a vehicle that enters a link at the beginning of a slot passes it in no less than the free-flow time, and leaves it once
-- all have left that entered before
abbrev pub travel_time : Setting → Counts → ℕ → ℕ → Option ℕ
travel_time s c link slot =
    option_map (λ exit. max (s.free_time link) (exit - slot * s.step)) (exit_time s c link (entered_link s c link slot))

-- what has been produced and has not arrived, boundary by boundary, each for a step
abbrev pub time_spent : Setting → Counts → ℕ
time_spent s c = sum_below s.slots (λ t. generated s (t + 1) - arrived s c (t + 1)) * s.step
