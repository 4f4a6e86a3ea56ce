use Rattle.std.proofs.Common.{◌≡◌, ◌-◌, ◌<◌, ◌≤◌, length, get_or, arith}
use Rattle.std.proofs.lemmas.Bool.Decides.{nat_tests}
use Rattle.ltm_demand.proofs.Begins.{no_row, begins_at}
use Rattle.ltm_demand.proofs.summing.begin_at.Goals as goal
use Rattle.ltm_demand.proofs.summing.begin_at.Goals.{else-place-gt0-via-then-place-gt0+else-rows-place, else-place-gt0-via-else-place-gt0}

pub returns-else-place-rows-2 : goal.returns-else-place-rows-2
returns-else-place-rows-2 c =
    let rows = c.args.rows.now in
    let d = c.args.destination in
    let place = c.args.place in
    let low : 0 < place → (get_or rows (place - 1) no_row).destination < d = elim c.else-place-gt0.branch [
      | else-place-gt0-via-then-place-gt0+else-rows-place w ↦ λ _. omega (arith, w.if-rows-place.false)
      | else-place-gt0-via-else-place-gt0 w ↦ λ some. absurd (omega (arith, some, w.if-place-gt0.false))
    ] in (
      λ is. let high : d ≤ (get_or rows place no_row).destination = grind (arith, nat_tests) in begins_at rows d place c.requires c.if-place-rows.false low (λ _. high),
      λ begins. let from : d ≤ (get_or rows place no_row).destination = begins.from place no_row (omega arith) (omega (arith, c.if-place-rows.false, c.if-place-rows-2.false)) in grind (arith, nat_tests),
    )
