-- The curves that a loading works on.
use Rattle.std.specs.Prelude.{ℕ, ◌<◌}
use Rattle.ltm_curve.specs.Table.{counts_of, HasShape}
use Rattle.ltm_curve.specs.declared.curves.Curves.{Curves}
use Rattle.ltm_loading.specs.Setting.{Setting}
use Rattle.ltm_loading.specs.Groups.{groups}
use Rattle.ltm_loading.specs.Loading.{IsFront}

-- curves of a setting's shape that are the front of a loading up to a slot
pub record IsAtFront (s : Setting) (c : Curves) (slot : ℕ) : Type 0 where
  pub shape : HasShape c (groups s) s.destinations s.slots
  pub now : slot < s.slots
  pub front : IsFront s (counts_of c) slot
