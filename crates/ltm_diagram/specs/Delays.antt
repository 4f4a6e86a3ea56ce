-- Times counted in slots.
use Rattle.std.specs.Prelude.{◌≡◌, ℕ, ◌+◌, ◌*◌, ◌<◌}
use Rattle.ltm_diagram.specs.declared.delay.Delay.{Delay}
use Rattle.ltm_diagram.specs.declared.delay.Delays.{Delays}
use Rattle.ltm_diagram.specs.declared.diagram.Limits.{Limits}

-- so many slots are as long as a time and a rest of less than a slot
pub record IsDelay (step time : ℕ) (delay : Delay) : Type 0 where
  pub slots : delay.slots * step ≡ time + delay.rest
  pub rest : delay.rest < step

-- the two times of a link
pub record AreDelays (step : ℕ) (limits : Limits) (delays : Delays) : Type 0 where
  pub free : IsDelay step limits.free_ms delays.free
  pub wave : IsDelay step limits.wave_ms delays.wave
