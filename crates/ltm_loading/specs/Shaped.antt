-- The shape of a loading's curves.
use Rattle.ltm_curve.specs.Table.{HasShape}
use Rattle.ltm_curve.specs.declared.curves.Curves.{Curves}
use Rattle.ltm_loading.specs.Setting.{Setting}
use Rattle.ltm_loading.specs.Groups.{groups}

-- curves have the groups, destinations and slots of a setting
abbrev pub IsShaped : Setting → Curves → Type 0
IsShaped s c = HasShape c (groups s) s.destinations s.slots
