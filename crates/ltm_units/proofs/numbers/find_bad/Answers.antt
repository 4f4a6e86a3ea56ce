use Rattle.std.proofs.Common.{◌≡◌, ◌+◌, true, length, sym, ◌∙◌, arith}
use Rattle.ltm_units.specs.Numbers.{is_bad_at}
use Rattle.ltm_units.proofs.BadBytes.{first_here, first_stays}
use Rattle.ltm_units.proofs.numbers.find_bad.Goals as goal

pub returns-then-is_bad : goal.returns-then-is_bad
returns-then-is_bad c =
    let text = c.args.text.now in
    let place = c.loop-place.place in
    let bad : is_bad_at text place ≡ true = rw (← c.loop-place.invariant.0) (sym c.is_bad.ensures ∙ c.if-is_bad.true) in
    sym (first_stays (is_bad_at text) (place + 1) (length text) place (first_here (is_bad_at text) place c.loop-place.invariant.1 bad) (omega arith))
