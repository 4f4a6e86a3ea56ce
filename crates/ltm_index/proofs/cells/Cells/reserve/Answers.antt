use Rattle.std.proofs.Common.{refl, arith, rules}
use Rattle.ltm_index.proofs.Writes.{resized, cells_stay}
use Rattle.ltm_index.proofs.cells.Cells.reserve.Goals as goal

pub returns-in-Ok-clause-cells : goal.returns-in-Ok-clause-cells
returns-in-Ok-clause-cells c = resized c.args.self.now _ c.whole_room-room.result _ _ refl (omega (arith, c.whole_room-room.ensures.enough, c.if-slots-self.false)) c.size.ensures (search rules) c.in-Ok.ensures.items

pub returns-in-Err-clause-cells : goal.returns-in-Err-clause-cells
returns-in-Err-clause-cells c = cells_stay c.args.self.now _ refl c.in-Err.ensures.items
