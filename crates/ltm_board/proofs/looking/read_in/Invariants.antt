use Rattle.std.proofs.Common.{◌≡◌}
use Rattle.ltm_board.specs.Sheets.{links_on}
use Rattle.left_right.specs.Sides.{view}
use Rattle.ltm_board.proofs.looking.read_in.Given as goal

abbrev pub invariant-loop : goal.invariant-loop
invariant-loop g l = (goal.iterator-loop g).can_next l.iterator' × (goal.iterator-loop g).is_finite l.iterator' × (view l.reader.place ≡ view l.fn.reader.place) × (links_on l.into ≡ links_on l.fn.into)
