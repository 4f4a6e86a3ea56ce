use Rattle.ltm_lean_kept.specs.Kept.{PutsLinks}
use Rattle.ltm_lean_kept.proofs.kept.put_links.Given as goal

abbrev pub invariant-loop-link : goal.invariant-loop-link
invariant-loop-link l = PutsLinks l.tables l.link l.boundary l.fn.curves l.curves
