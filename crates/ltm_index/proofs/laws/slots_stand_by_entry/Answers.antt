use Rattle.ltm_index.proofs.Indexed.{stands_by_entry, stands_once_in, stays_without, within_horizon}
use Rattle.ltm_index.proofs.laws.slots_stand_by_entry.Goals as goal

pub returns-clause-stands : goal.returns-clause-stands
returns-clause-stands c = stands_by_entry c.args.index.now

pub returns-clause-once : goal.returns-clause-once
returns-clause-once c = stands_once_in c.args.index.now

pub returns-clause-without : goal.returns-clause-without
returns-clause-without c = stays_without c.args.index.now

pub returns-clause-within : goal.returns-clause-within
returns-clause-within c = within_horizon c.args.index.now
