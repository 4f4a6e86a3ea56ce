use Rattle.std.proofs.Common.{refl}
use Rattle.ltm_rows.proofs.KeptPlaces.{unweighs}
use Rattle.ltm_rows.proofs.rows.KeptRows.unweigh.Goals as goal

pub returns : goal.returns
returns c = unweighs c.args.self.now _ c.args.node c.args.from c.args.to (record { narrow = refl; wide = refl }) refl refl refl refl refl c.unmark_rows.ensures.marks
