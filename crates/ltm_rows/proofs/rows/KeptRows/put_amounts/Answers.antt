use Rattle.std.proofs.Common.{◌≡◌, ℕ, List, ◌++◌, length, refl, sym, ◌∙◌}
use Rattle.std.proofs.lemmas.List.{length-append}
use Rattle.ltm_rows.specs.Rows.{amounts_width}
use Rattle.ltm_rows.proofs.RowPlaces.{items_written, length_cut}
use Rattle.ltm_rows.proofs.KeptPlaces.{in_room, puts_amounts}
use Rattle.ltm_rows.proofs.rows.KeptRows.put_amounts.Goals as goal

pub returns : goal.returns
returns c =
    let row : List ℕ = c.args.sends.now ++ c.args.limits.now in
    let wide : length row ≡ amounts_width c.args.self.now c.args.node = length-append c.args.sends.now c.args.limits.now ∙ c.requires.width in
    puts_amounts c.args.self.now _ c.args.node c.args.slot row c.requires.node c.requires.slot wide (record { narrow = refl; wide = refl }) refl
    (items_written c.args.self.now.narrow c.args.self.now.amounts c.args.self.now.room c.args.node c.args.slot _ _ _ _ row c.requires.node (in_room c.args.self.now c.args.slot c.requires.slot) c.args.self.now.amounts_long wide
    c.bounds-from.ensures.start c.bounds-from.ensures.end c.deref_mut.ensures.value c.write_narrow_parts.ensures) refl refl refl

pub write_narrow_parts-requires-clause-count : goal.write_narrow_parts-requires-clause-count
write_narrow_parts-requires-clause-count c =
    length_cut c.args.self.now.narrow c.args.self.now.amounts.items _ c.args.self.now.room c.args.node c.args.slot _ _ c.requires.node (in_room c.args.self.now c.args.slot c.requires.slot) c.args.self.now.amounts_long c.bounds-from.ensures.start
    c.bounds-from.ensures.end c.deref_mut.ensures.value
    ∙ sym c.requires.width
