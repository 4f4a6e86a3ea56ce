use Rattle.std.proofs.Common.{arith, ◌∙◌, ap, length}
use Rattle.ltm_check.proofs.Copying.{have_places}
use Rattle.ltm_check.proofs.window.Window.move_to.Goals as goal

pub copy_all-requires-clause-places : goal.copy_all-requires-clause-places
copy_all-requires-clause-places c =
    let w = c.args.self.now in
    have_places w.curves.now c.args.group c.min-end.result w.at_once (length c.as_mut_slice.result.now) (omega (arith, c.min-end.ensures, c.saturating_add.ensures)) (ap length c.as_mut_slice.ensures.value ∙ w.long)
