use Rattle.std.proofs.Common.{◌≡◌, ◌++◌, ◌<◌, ℕ}
use Rattle.ltm_units.specs.declared.quantities.Units.{Units}
use Rattle.ltm_report.specs.Rows.{counts}
use Rattle.ltm_report.proofs.rows.push_counts.Given as goal

abbrev pub invariant-loop-k : goal.invariant-loop-k
invariant-loop-k g l = (f : ℕ → ℕ) → ((k : ℕ) (n : Units) → k < l.many → goal.F-post g l.count k n → n.0 ≡ f k)
    → l.into.items ≡ l.fn.into.items ++ counts l.k f
