use Rattle.std.proofs.Common.{refl, arith}
use Rattle.ltm_index.proofs.Writes.{puts_cell, place_within}
use Rattle.ltm_index.proofs.cells.Cells.put_in.Goals as goal

pub returns : goal.returns
returns c = puts_cell _ _ _ _ c.args.place _ record { links = refl; room = refl } c.requires.link c.requires.place
    (omega (arith, c.requires.place, c.args.self.now.long, place_within c.args.self.now.room c.args.self.now.links c.args.link c.args.at c.requires.at c.requires.link c.args.self.now.whole)) refl
