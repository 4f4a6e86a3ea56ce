use Rattle.std.proofs.Common.{◌≡◌, suc, ◌-◌, ap, arith}
use Rattle.ltm_index.specs.Cells.{entry_at}
use Rattle.ltm_index.proofs.Linked.{entry_low, next_low, previous_low}
use Rattle.ltm_index.proofs.Taking.{taken, not_taken}
use Rattle.ltm_index.proofs.lists.take_out.Goals as goal

pub set_after-requires-clause-boundary : goal.set_after-requires-clause-boundary
set_after-requires-clause-boundary c =
    entry_low c.args.cells.now c.args.link _ c.args.slot c.requires.lists c.requires.link (omega (arith, ap (λ x. x.entry) c.get-cell.ensures))

pub set_after-requires-clause-pointer : goal.set_after-requires-clause-pointer
set_after-requires-clause-pointer c =
    let entry : entry_at c.args.cells.now c.args.link c.args.slot ≡ suc (c.get-cell.result.entry - 1) = omega (arith, ap (λ x. x.entry) c.get-cell.ensures) in
    omega (arith, previous_low c.args.cells.now c.args.link _ c.args.slot c.requires.lists c.requires.link entry, ap (λ x. x.previous) c.get-cell.ensures)

pub set_before-requires-clause-pointer : goal.set_before-requires-clause-pointer
set_before-requires-clause-pointer c =
    let entry : entry_at c.args.cells.now c.args.link c.args.slot ≡ suc (c.get-cell.result.entry - 1) = omega (arith, ap (λ x. x.entry) c.get-cell.ensures) in
    omega (arith, next_low c.args.cells.now c.args.link _ c.args.slot c.requires.lists c.requires.link entry, ap (λ x. x.next) c.get-cell.ensures, c.set_after.ensures.shape.room)

pub returns-then-cell-gt0-clause-lists : goal.returns-then-cell-gt0-clause-lists
returns-then-cell-gt0-clause-lists c =
    (taken _ _ _ _ _ _ _ _ _ c.get-cell-then-cell-gt0.result c.requires.lists c.requires.link (omega (arith, ap (λ x. x.entry) c.get-cell.ensures)) (ap (λ x. x.previous) c.get-cell.ensures) (ap (λ x. x.next) c.get-cell.ensures) c.set_after.ensures c.set_before.ensures c.get-cell-then-cell-gt0.ensures c.put.ensures).0

pub returns-then-cell-gt0-clause-taken : goal.returns-then-cell-gt0-clause-taken
returns-then-cell-gt0-clause-taken c =
    (taken _ _ _ _ _ _ _ _ _ c.get-cell-then-cell-gt0.result c.requires.lists c.requires.link (omega (arith, ap (λ x. x.entry) c.get-cell.ensures)) (ap (λ x. x.previous) c.get-cell.ensures) (ap (λ x. x.next) c.get-cell.ensures) c.set_after.ensures c.set_before.ensures c.get-cell-then-cell-gt0.ensures c.put.ensures).1

pub returns-else-cell-gt0-clause-taken : goal.returns-else-cell-gt0-clause-taken
returns-else-cell-gt0-clause-taken c = not_taken _ _ _ c.requires.lists c.requires.link (omega (arith, ap (λ x. x.entry) c.get-cell.ensures))
