use Rattle.std.proofs.Common.{◌≡◌, None, nat_le, nat_lt, ◌&&◌}
use Rattle.ltm_units.specs.Numbers.{first_below}
use Rattle.ltm_setting.specs.Setting.{setting_of}
use Rattle.ltm_gap.proofs.leaving.next_exit.Given as goal

abbrev pub invariant-loop-slot : goal.invariant-loop-slot
invariant-loop-slot l = first_below (λ t. nat_le l.fn.from t && nat_lt 0 ((setting_of l.scenario).exit_limit l.link.0 t)) l.slot ≡ None
