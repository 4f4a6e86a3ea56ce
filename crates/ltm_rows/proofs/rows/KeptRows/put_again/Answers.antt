use Rattle.std.proofs.Common.{refl}
use Rattle.ltm_rows.specs.Parts.{amounts_in}
use Rattle.ltm_rows.proofs.KeptPlaces.{puts_again}
use Rattle.ltm_rows.proofs.rows.KeptRows.put_again.Goals as goal

pub returns : goal.returns
returns c =
    puts_again c.args.self.now c.put_amounts.new.self _ c.args.node c.args.slot (amounts_in c.args.parts) c.requires.weighed c.put_amounts.ensures (record { narrow = refl; wide = refl }) refl refl refl refl c.mark.ensures
