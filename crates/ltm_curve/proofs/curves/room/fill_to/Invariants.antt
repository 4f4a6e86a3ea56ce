use Rattle.std.proofs.Common.{◌≡◌, ◌-◌, ◌≤◌, ◌++◌, length, replicate}
use Rattle.std.specs.Vec.{vec_capacity}
use Rattle.ltm_curve.proofs.curves.room.fill_to.Given as goal

abbrev pub invariant-loop-place : goal.invariant-loop-place
invariant-loop-place g l =
    (length l.table.items ≡ l._place) × (l.table.items ≡ l.fn.table.items ++ replicate (l._place - length l.fn.table.items) l.number) × (vec_capacity l.fn.table ≤ vec_capacity l.table) × (length l.fn.table.items ≤ l._place)
