-- What a session reports of a travel time.
use Rattle.std.specs.Prelude.{ℕ, List}
use Rattle.ltm_flows.specs.Counts.{Counts}
use Rattle.ltm_loading.specs.Setting.{Setting}
use Rattle.ltm_times.specs.Times.{travel_time}
use Rattle.ltm_report.specs.Times.{time_line}

-- how long a vehicle takes to pass a link that it enters at the beginning of a slot
unfoldable pub time_report : ℕ → List ℕ → ℕ → ℕ → Setting → Counts → List ℕ
time_report version name link slot s c = time_line version name slot (travel_time s c link slot)
