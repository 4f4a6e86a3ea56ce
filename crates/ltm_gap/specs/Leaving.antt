-- When one leaves a link who comes to it at a moment, and when a unit starts that an origin produces: who is served in
-- turn leaves once all have left that came before. Moments are milliseconds from the start.
use Rattle.std.specs.Prelude.{ℕ, ◌+◌, ◌-◌, ◌*◌, ◌/◌, ◌&&◌, Bool, nat_le, nat_lt, Option, option_and_then}
use Rattle.ltm_units.specs.Numbers.{first_below}
use Rattle.ltm_curve.specs.Counts.{Counts, interpolated}
use Rattle.ltm_loading.specs.Setting.{Setting}
use Rattle.ltm_loading.specs.Totals.{entered_link, left_link}
use Rattle.ltm_flows.specs.Origins.{departed_from}

-- the end of the last slot
abbrev pub end_of : Setting → ℕ
end_of s = s.slots * s.step

-- the first moment from one on, before the end, in a slot with a limit above 0
unfoldable pub open_moment : (ℕ → ℕ) → ℕ → ℕ → ℕ → Option ℕ
open_moment limit step slots moment = first_below (λ m. nat_le moment m && nat_lt 0 (limit (m / step))) (slots * step)

-- who comes to a link enters it at the first moment from then on at which it lets in
abbrev pub enters : Setting → ℕ → ℕ → Option ℕ
enters s link moment = open_moment (s.entry_limit link) s.step s.slots moment

-- whether something may leave a link in the slot that a moment, which is not the start, ends or lies in
abbrev pub lets_out : Setting → ℕ → ℕ → Bool
lets_out s link moment = nat_lt 0 (s.exit_limit link ((moment - 1) / s.step))

-- who enters it leaves it at the first moment, up to the end, that is the free-flow time later, by which as many have left as
-- had entered, and at which it lets out; `up` and `down` count who entered and who left
abbrev pub may_leave : Setting → ℕ → (ℕ → ℕ) → (ℕ → ℕ) → ℕ → ℕ → Bool
may_leave s link up down entry m =
    nat_le (entry + s.free_time link) m && (nat_le (interpolated up s.step entry) (interpolated down s.step m) && lets_out s link m)

unfoldable pub leaves_from : Setting → ℕ → (ℕ → ℕ) → (ℕ → ℕ) → ℕ → Option ℕ
leaves_from s link up down entry = first_below (may_leave s link up down entry) (end_of s + 1)

abbrev pub leaves_by : Setting → ℕ → (ℕ → ℕ) → (ℕ → ℕ) → ℕ → Option ℕ
leaves_by s link up down moment = option_and_then (leaves_from s link up down) (enters s link moment)

abbrev pub leaves : Setting → Counts → ℕ → ℕ → Option ℕ
leaves s c link = leaves_by s link (entered_link s c link) (left_link s c link)

-- the first moment from one on, up to the end, at which a curve has so many units
unfoldable pub first_from : (ℕ → ℕ) → ℕ → ℕ → ℕ → ℕ → Option ℕ
first_from counts step slots count from = first_below (λ m. nat_le from m && nat_le count (interpolated counts step m)) (slots * step + 1)

-- the unit of a number, of all that an origin produces, starts at the first moment from the beginning of its slot on by which so
-- many have departed; with the number that was produced by a boundary it is the unit that is produced there
abbrev pub starts : Setting → Counts → ℕ → ℕ → ℕ → Option ℕ
starts s c origin slot number = first_from (departed_from s c origin) s.step s.slots number (slot * s.step)
