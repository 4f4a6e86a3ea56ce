use Rattle.std.proofs.Common.{refl}
use Rattle.ltm_rows.proofs.KeptPlaces.{forgets_row}
use Rattle.ltm_rows.proofs.rows.KeptRows.forget.Goals as goal

pub returns : goal.returns
returns c = forgets_row c.args.self.now _ c.args.node c.args.slot (record { narrow = refl; wide = refl }) refl refl refl refl c.unmark.ensures
