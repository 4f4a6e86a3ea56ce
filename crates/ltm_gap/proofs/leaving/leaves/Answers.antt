use Rattle.std.proofs.Common.{sym}
use Rattle.ltm_setting.specs.Setting.{setting_of}
use Rattle.ltm_gap.proofs.Passing.{is_entry}
use Rattle.ltm_gap.proofs.leaving.leaves.Goals as goal

pub leaves_from-requires-clause-before : goal.leaves_from-requires-clause-before
leaves_from-requires-clause-before c = (is_entry (setting_of c.args.scenario.now) c.args.link.0 c.args.moment.0 c.in-Some.entry.0 (sym c.in-Some.ensures)).before
