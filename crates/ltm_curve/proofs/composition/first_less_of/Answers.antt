use Rattle.std.proofs.Common.{◌≡◌, ◌-◌, slice_index, slice_set, get_or-set_same, arith, ap, ◌∙◌}
use Rattle.ltm_curve.specs.First.{first_units}
use Rattle.ltm_curve.proofs.Firsts.{only_one}
use Rattle.ltm_curve.proofs.composition.first_less_of.Goals as goal

pub overflow_sub-into : goal.overflow_sub-into
overflow_sub-into g c =
    omega (
      arith,
      c.requires.behind 0 (omega arith),
      only_one (g.R.Rows.width c.args.rows.now) (g.R.Rows.rows c.args.rows.now) c.args.n c.args.last c.requires.part (omega arith) 0 (omega arith),
    )

pub returns-then-destinations-eq1 : goal.returns-then-destinations-eq1
returns-then-destinations-eq1 g c d l =
    let first : d ≡ 0 = omega arith in
    let one : c.args.n ≡ first_units (g.R.Rows.width c.args.rows.now) (g.R.Rows.rows c.args.rows.now) c.args.n c.args.last d =
    only_one (g.R.Rows.width c.args.rows.now) (g.R.Rows.rows c.args.rows.now) c.args.n c.args.last c.requires.part (omega arith) d l in
    let less : c.from.result ≡ slice_index c.args.less.now d = c.from.ensures ∙ ap (slice_index c.args.less.now) (let z : 0 ≡ d = omega arith in z) in
    ap (slice_index (slice_set c.args.into.now 0 (c.args.n - c.from.result))) first ∙ (get_or-set_same c.args.into.now 0 (c.args.n - c.from.result) 0 (omega arith) ∙ omega arith)
