use Rattle.std.proofs.Common.{◌≡◌, ◌++◌, ◌∙◌, ℕ, ap, arith}
use Rattle.ltm_report.specs.Rows.{counts}
use Rattle.ltm_report.proofs.rows.push_counts.Goals as goal

pub returns : goal.returns
returns g c f are =
    let all : c.loop-k.k ≡ c.args.many = omega arith in
    c.loop-k.invariant f are ∙ ap (λ (n : ℕ). c.args.into.now.items ++ counts n f) all
