use Rattle.std.proofs.Common.{◌++◌, refl, sym}
use Rattle.std.proofs.lemmas.List.{append_assoc}
use Rattle.ltm_rows.proofs.KeptPlaces.{puts_row}
use Rattle.ltm_rows.proofs.rows.KeptRows.put.Goals as goal

pub returns : goal.returns
returns c =
    puts_row c.args.self.now c.put_amounts.new.self c.put_weights.new.self _ c.args.node c.args.slot (c.args.parts.sends.now ++ c.args.parts.limits.now) c.args.parts.weights.now _ c.requires.node c.requires.slot c.put_amounts.ensures c.put_weights.ensures
    (sym (append_assoc c.args.parts.sends.now c.args.parts.limits.now c.args.parts.weights.now)) (record { narrow = refl; wide = refl }) refl refl refl c.mark.ensures c.mark-2.ensures
