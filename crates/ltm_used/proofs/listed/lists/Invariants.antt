use Rattle.std.proofs.Common.{◌≡◌}
use Rattle.ltm_setting.specs.Setting.{setting_of}
use Rattle.ltm_used.specs.Lists.{found_on}
use Rattle.ltm_used.proofs.Listing.{AreParts}
use Rattle.ltm_used.proofs.listed.lists.Given as goal

abbrev pub invariant-loop-link : goal.invariant-loop-link
invariant-loop-link l = AreParts l.starts.items l.destinations.items l.link (λ j ds. ds ≡ found_on (setting_of l.scenario) l.found j)
