use Rattle.std.proofs.Common.{refl}
use Rattle.ltm_rows.proofs.KeptPlaces.{weighs}
use Rattle.ltm_rows.proofs.rows.KeptRows.weigh.Goals as goal

pub returns : goal.returns
returns c = weighs c.args.self.now c.write_weights.new.self _ c.args.pair.node.0 c.args.pair.slot _ c.write_weights.ensures (record { narrow = refl; wide = refl }) refl refl refl refl c.mark.ensures
