use Rattle.std.proofs.Common.{arith}
use Rattle.ltm_demand.proofs.Restoring.{restore_within, restore_few, restore_vacant}
use Rattle.ltm_demand.proofs.demand.Demand.restore.Goals as goal

pub replace-requires-clause-slots : goal.replace-requires-clause-slots
replace-requires-clause-slots c = restore_within c.args.self.now c.args.row c.requires

pub leave-requires-clause-slots : goal.leave-requires-clause-slots
leave-requires-clause-slots c = restore_within c.args.self.now c.args.row c.requires

pub fill-requires-clause-slots : goal.fill-requires-clause-slots
fill-requires-clause-slots c = restore_within c.args.self.now c.args.row c.requires

pub fill-requires-clause-few : goal.fill-requires-clause-few
fill-requires-clause-few c = restore_few c.args.self.now c.args.row c.in-Err.place c.requires c.in-Err.ensures.absent (omega arith)

pub fill-requires-clause-vacant : goal.fill-requires-clause-vacant
fill-requires-clause-vacant c = restore_vacant c.args.self.now c.args.row c.in-Err.place c.requires c.in-Err.ensures.absent (omega arith)
