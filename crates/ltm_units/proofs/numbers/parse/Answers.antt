use Rattle.std.proofs.Common.{sym}
use Rattle.ltm_units.proofs.BadBytes.{whole_text, front_part, back_part}
use Rattle.ltm_units.proofs.numbers.parse.Goals as goal

pub amount-requires-clause-front : goal.amount-requires-clause-front
amount-requires-clause-front c = whole_text c.args.text.now (sym c.in-None.ensures) (sym c.in-None-find_point.ensures)

pub amount-requires-in-Some-find_point-clause-front : goal.amount-requires-in-Some-find_point-clause-front
amount-requires-in-Some-find_point-clause-front c =
    front_part c.args.text.now c.in-Some-find_point.p (sym c.in-None.ensures) (sym c.in-Some-find_point.ensures)

pub amount-requires-in-Some-find_point-clause-back : goal.amount-requires-in-Some-find_point-clause-back
amount-requires-in-Some-find_point-clause-back c =
    back_part c.args.text.now c.in-Some-find_point.p (sym c.in-None.ensures) (sym c.in-Some-find_point.ensures)
