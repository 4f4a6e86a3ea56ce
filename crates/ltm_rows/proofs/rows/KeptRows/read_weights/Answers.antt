use Rattle.std.proofs.Common.{◌≡◌, ◌∙◌, ◌*◌, length, refl, sym}
use Rattle.ltm_setting.specs.Setting.{setting_of}
use Rattle.ltm_inputs.specs.Parts.{weights_part}
use Rattle.ltm_curve.proofs.Lists.{length-list_below}
use Rattle.ltm_rows.specs.Rows.{weights_width}
use Rattle.ltm_rows.proofs.RowPlaces.{items_written, length_cut}
use Rattle.ltm_rows.proofs.KeptPlaces.{in_room, wide_node, puts_weights}
use Rattle.ltm_rows.proofs.rows.KeptRows.read_weights.Goals as goal

pub weights_in-requires-clause-room : goal.weights_in-requires-clause-room
weights_in-requires-clause-room c =
    let k = c.args.self.now in
    length_cut k.wide k.weights.items _ k.room c.args.pair.node.0 c.args.pair.slot _ _ (wide_node k c.args.pair.node.0 c.requires.kept) (in_room k c.args.pair.slot c.requires.slot) k.weights_long c.bounds-from.ensures.start c.bounds-from.ensures.end
    c.deref_mut.ensures.value
    ∙ c.requires.width

pub returns : goal.returns
returns c =
    let k = c.args.self.now in
    let s = setting_of c.args.scenario.now in
    let wide : length (weights_part s c.args.pair.node.0 c.args.pair.slot) ≡ weights_width k c.args.pair.node.0 = length-list_below (s.destinations * s.outs c.args.pair.node.0) _ ∙ sym c.requires.width in
    puts_weights k _ c.args.pair.node.0 c.args.pair.slot (weights_part s c.args.pair.node.0 c.args.pair.slot) c.requires.kept c.requires.slot wide (record { narrow = refl; wide = refl }) refl
    (items_written k.wide k.weights k.room c.args.pair.node.0 c.args.pair.slot _ _ _ _ (weights_part s c.args.pair.node.0 c.args.pair.slot) (wide_node k c.args.pair.node.0 c.requires.kept) (in_room k c.args.pair.slot c.requires.slot)
    k.weights_long wide c.bounds-from.ensures.start c.bounds-from.ensures.end c.deref_mut.ensures.value c.weights_in.ensures) refl refl refl
