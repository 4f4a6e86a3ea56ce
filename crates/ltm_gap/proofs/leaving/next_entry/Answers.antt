use Rattle.std.proofs.Common.{arith}
use Rattle.ltm_setting.specs.Setting.{setting_of}
use Rattle.ltm_gap.proofs.Opening.{open_none_yet, open_found, open_nowhere}
use Rattle.ltm_gap.proofs.leaving.next_entry.Goals as goal

pub loop-slot-init : goal.loop-slot-init
loop-slot-init c = open_none_yet ((setting_of c.args.scenario.now).entry_limit c.args.link.0) c.args.from

pub returns-then-entry_limit-ne0 : goal.returns-then-entry_limit-ne0
returns-then-entry_limit-ne0 c =
    open_found ((setting_of c.args.scenario.now).entry_limit c.args.link.0) (setting_of c.args.scenario.now).slots c.args.from c.loop-slot.slot (omega arith) (omega arith) (omega arith) c.loop-slot.invariant

pub returns : goal.returns
returns c = open_nowhere ((setting_of c.args.scenario.now).entry_limit c.args.link.0) (setting_of c.args.scenario.now).slots c.args.from c.loop-slot.slot (omega arith) c.loop-slot.invariant
