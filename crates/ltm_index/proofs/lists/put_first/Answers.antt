use Rattle.std.proofs.Common.{ℕ, ap, sym, ◌∙◌, arith}
use Rattle.ltm_index.specs.Cells.{place_of}
use Rattle.ltm_index.proofs.Linked.{first_low}
use Rattle.ltm_index.proofs.Putting.{put}
use Rattle.ltm_index.proofs.lists.put_first.Goals as goal

pub set_before-requires-clause-pointer : goal.set_before-requires-clause-pointer
set_before-requires-clause-pointer c =
    omega (arith, first_low c.args.cells.now c.args.link c.args.boundary c.requires.lists c.requires.link, ap (λ x. x.first) c.get_in-first.ensures)

pub get_in-cell-requires-clause-place : goal.get_in-cell-requires-clause-place
get_in-cell-requires-clause-place c =
    c.place-here.ensures.place ∙ ap (λ (z : ℕ). place_of z c.args.link c.args.slot) (sym c.set_before.ensures.shape.links)

pub returns-clause-lists : goal.returns-clause-lists
returns-clause-lists c =
    (put _ _ _ _ _ _ _ _ _ _ _ c.get_in-cell-2.result c.requires.lists c.requires.link c.requires.slot c.requires.free c.naming-pointer.ensures c.naming.ensures (ap (λ x. x.first) c.get_in-first.ensures) c.set_before.ensures c.get_in-cell.ensures c.put_in.ensures c.get_in-cell-2.ensures c.put_in-2.ensures).0

pub returns-clause-put : goal.returns-clause-put
returns-clause-put c =
    (put _ _ _ _ _ _ _ _ _ _ _ c.get_in-cell-2.result c.requires.lists c.requires.link c.requires.slot c.requires.free c.naming-pointer.ensures c.naming.ensures (ap (λ x. x.first) c.get_in-first.ensures) c.set_before.ensures c.get_in-cell.ensures c.put_in.ensures c.get_in-cell-2.ensures c.put_in-2.ensures).1
