use Rattle.std.proofs.Common.{arith, ◌+◌, ◌<◌, ◌∙◌, length}
use Rattle.std.proofs.lemmas.Grind.{get_or_default_zero}
use Rattle.ltm_curve.specs.Table.{slots_of, IsIn}
use Rattle.ltm_check.specs.Window.{copied_place}
use Rattle.ltm_check.proofs.Copying.{have_places}
use Rattle.ltm_check.proofs.window.Window.get.Goals as goal

pub overflow_add-column-2 : goal.overflow_add-column-2
overflow_add-column-2 c =
    let w = c.args.self.now in
    let is_in : IsIn w.curves.now c.args.group c.args.destination c.args.boundary = record { is_group = omega (arith, c.requires.group.below, w.within); is_destination = c.requires.destination; is_boundary = c.requires.boundary } in
    let within = have_places w.curves.now w.first w.end w.at_once (length w.counts.items) w.few w.long c.args.group c.args.destination c.args.boundary c.requires.group.from c.requires.group.below is_in in
    rw (c.destinations-destinations.ensures.value, c.slots.ensures) (omega (arith, within))

pub returns : goal.returns
returns c =
    let w = c.args.self.now in
    let is_in : IsIn w.curves.now c.args.group c.args.destination c.args.boundary = record { is_group = omega (arith, c.requires.group.below, w.within); is_destination = c.requires.destination; is_boundary = c.requires.boundary } in
    let last : c.args.boundary < slots_of w.curves.now + 1 = omega (arith, c.requires.boundary) in
    let within = have_places w.curves.now w.first w.end w.at_once (length w.counts.items) w.few w.long c.args.group c.args.destination c.args.boundary c.requires.group.from c.requires.group.below is_in in
    c.from.ensures
    ∙ ((rw (c.destinations-destinations.ensures.value, c.slots.ensures) at c.index.ensures)
    ∙ (get_or_default_zero w.counts.items (copied_place w.curves.now w.first c.args.group c.args.destination c.args.boundary) _ within
    ∙ w.copied (omega (arith, c.requires.group.from, c.requires.group.below)) c.args.group c.args.destination c.args.boundary c.requires.group.from c.requires.group.below last is_in))
