use Rattle.std.proofs.Common.{refl}
use Rattle.ltm_rows.proofs.RowPlaces.{items_written}
use Rattle.ltm_rows.proofs.KeptPlaces.{in_room, wide_node, puts_weights}
use Rattle.ltm_rows.proofs.rows.KeptRows.put_weights.Goals as goal

pub returns : goal.returns
returns c =
    puts_weights c.args.self.now _ c.args.node c.args.slot c.args.weights.now c.requires.node c.requires.slot c.requires.width (record { narrow = refl; wide = refl }) refl
    (items_written c.args.self.now.wide c.args.self.now.weights c.args.self.now.room c.args.node c.args.slot _ _ _ _ c.args.weights.now (wide_node c.args.self.now c.args.node c.requires.node) (in_room c.args.self.now c.args.slot c.requires.slot)
    c.args.self.now.weights_long c.requires.width c.bounds-from.ensures.start c.bounds-from.ensures.end c.deref_mut.ensures.value c.write_row.ensures) refl refl refl
