use Rattle.std.proofs.Common.{◌+◌, ◌≤◌, ◌==◌, ◌&&◌, nat_le, nat_lt}
use Rattle.ltm_setting.specs.Setting.{setting_of}
use Rattle.ltm_frontier.specs.Frontier.{Activates}
use Rattle.ltm_working.specs.Desks.{place_of}
use Rattle.ltm_working.proofs.marking.mark_listed.Given as goal

abbrev pub invariant-loop-entry : goal.invariant-loop-entry
invariant-loop-entry l =
    Activates l.fn.frontier l.frontier
    (λ w v. nat_le l.boundary v && ((w == (setting_of l.scenario).head l.link.0) && (nat_le l.fn.low (place_of l.index l.link.0 v) && nat_lt (place_of l.index l.link.0 v) l.entry)))
    × (l.entry ≤ l.boundary + 1)
