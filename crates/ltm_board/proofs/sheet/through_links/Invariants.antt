use Rattle.ltm_board.specs.Making.{AreThrough}
use Rattle.ltm_board.proofs.sheet.through_links.Given as goal

abbrev pub invariant-loop-link : goal.invariant-loop-link
invariant-loop-link l = AreThrough l.loading l.link l.through.items
