use Rattle.std.proofs.Common.{inl, inr, arith}
use Rattle.std.proofs.lemmas.Bool.{cases_lt}
use Rattle.ltm_curve.specs.Counts.{total}
use Rattle.ltm_curve.proofs.Lasts.{one_last, is_last}
use Rattle.ltm_curve.proofs.composition.end_of.Goals as goal

pub returns-clause-end : goal.returns-clause-end
returns-clause-end g c =
    one_last (total (g.R.Rows.width c.args.rows.now) (g.R.Rows.rows c.args.rows.now)) c.args.n c.args.last _ _
    (record {
      below = omega arith;
      within = c.halve.ensures.within;
      above = λ j x y. elim (cases_lt c.bracket-low.result.1 j) [ inl past ↦ c.bracket-low.ensures.above j past y | inr low ↦ c.halve.ensures.above j x low ];
    })
    (is_last (total (g.R.Rows.width c.args.rows.now) (g.R.Rows.rows c.args.rows.now)) c.args.n c.args.last (omega (arith, c.requires.part.empty)))
