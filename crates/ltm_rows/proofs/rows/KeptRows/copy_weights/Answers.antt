use Rattle.std.proofs.Common.{◌+◌, ◌-◌, ◌<◌, ◌≤◌, length, refl, ap, arith}
use Rattle.ltm_rows.specs.Layouts.{width_in, start_in}
use Rattle.ltm_rows.proofs.RowPlaces.{row_within, items_copied}
use Rattle.ltm_rows.proofs.KeptPlaces.{in_room, wide_node, puts_copied}
use Rattle.ltm_rows.proofs.rows.KeptRows.copy_weights.Goals as goal

pub copy_on-requires-clause-order : goal.copy_on-requires-clause-order
copy_on-requires-clause-order c = omega (arith, c.bounds-from.ensures.start, c.bounds-from.ensures.end)

pub copy_on-requires-clause-behind : goal.copy_on-requires-clause-behind
copy_on-requires-clause-behind c =
    let k = c.args.self.now in
    let u = c.args.node in
    let before : start_in k.wide u (c.args.slot - 1) + width_in k.wide u ≤ start_in k.wide u c.args.slot = row_within k.wide c.args.slot _ u (c.args.slot - 1) (wide_node k u c.requires.node) (omega (arith, c.requires.later)) (omega arith) in
    omega (arith, before, c.bounds-from.ensures.end, c.bounds-at.ensures.start)

pub copy_on-requires-clause-within : goal.copy_on-requires-clause-within
copy_on-requires-clause-within c =
    let k = c.args.self.now in
    let u = c.args.node in
    let inside : start_in k.wide u c.args.slot + width_in k.wide u ≤ length k.weights.items = row_within k.wide k.room _ u c.args.slot (wide_node k u c.requires.node) (in_room k c.args.slot c.requires.slot) k.weights_long in
    omega (arith, inside, c.bounds-from.ensures.start, c.bounds-from.ensures.end, c.bounds-at.ensures.start, ap length c.as_mut_slice.ensures.value)

pub returns : goal.returns
returns c =
    let k = c.args.self.now in
    let u = c.args.node in
    let before : c.args.slot - 1 < k.slots = omega (arith, c.requires.slot) in
    puts_copied k _ u (c.args.slot - 1) c.args.slot c.requires.node before c.requires.slot (record { narrow = refl; wide = refl }) refl
    (items_copied k.wide k.weights k.room u (c.args.slot - 1) c.args.slot _ _ _ _ _ (wide_node k u c.requires.node) (in_room k (c.args.slot - 1) before) (in_room k c.args.slot c.requires.slot) k.weights_long c.bounds-from.ensures.start
    c.bounds-from.ensures.end c.bounds-at.ensures.start c.as_mut_slice.ensures.value c.copy_on.ensures) refl refl refl
