use Rattle.std.proofs.Common.{◌+◌, arith, inl, inr}
use Rattle.std.proofs.Math.Nat.{mul-le-mul_right}
use Rattle.std.proofs.lemmas.Bool.{cases_lt}
use Rattle.ltm_demand.proofs.Parts.{produced_after}
use Rattle.ltm_demand.proofs.Cells.{is_below}
use Rattle.ltm_demand.proofs.shifting.shift.Goals as goal

pub shift_during-requires-clause-reaches : goal.shift_during-requires-clause-reaches
shift_during-requires-clause-reaches c = omega (arith, mul-le-mul_right c.args.width c.requires.within, c.requires.reaches)

pub shift_after-requires-clause-has : goal.shift_after-requires-clause-has
shift_after-requires-clause-has c = λ k t which behind inside.
    omega (arith, c.shift_during.ensures.rest k t (is_below c.args.width (c.args.row.now.destination + 1) k c.requires.own which) behind, c.requires.has k t which inside, produced_after c.args.row.now.from c.args.row.now.to c.args.was t (omega arith) (omega arith))

pub shift_after-requires-clause-room : goal.shift_after-requires-clause-room
shift_after-requires-clause-room c = λ k t which behind inside.
    omega (arith, c.shift_during.ensures.rest k t (is_below c.args.width (c.args.row.now.destination + 1) k c.requires.own which) behind, c.requires.room k t which inside)

pub returns-clause-shifted : goal.returns-clause-shifted
returns-clause-shifted c = λ k t which inside.
    let under = is_below c.args.width (c.args.row.now.destination + 1) k c.requires.own which in
    elim (cases_lt t c.args.row.now.to) [
      | inl during ↦ omega (arith, c.shift_after.ensures.front k t under during, c.shift_during.ensures.shifted k t which during)
      | inr behind ↦
          omega (arith, c.shift_after.ensures.shifted k t which behind inside, c.shift_during.ensures.rest k t under behind, produced_after c.args.row.now.from c.args.row.now.to c.args.was t (omega arith) (omega arith), produced_after c.args.row.now.from c.args.row.now.to c.args.row.now.amount.0 t (omega arith) (omega arith))
    ]
