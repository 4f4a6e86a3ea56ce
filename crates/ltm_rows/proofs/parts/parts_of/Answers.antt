use Rattle.std.proofs.Common.{◌≡◌, ℕ, List, length, refl, ap, sym, ◌∙◌, arith}
use Rattle.ltm_node.specs.Shape.{width, counts_begin, supplies_begin, weights_begin}
use Rattle.ltm_rows.proofs.PartRows.{parts_join, are_narrow, are_narrow_uncounted}
use Rattle.ltm_rows.proofs.parts.parts_of.Goals as goal

pub returns-clause-row : goal.returns-clause-row
returns-clause-row c =
    let shape = c.shape-shape.ensures in
    let wide : length c.args.inputs.now.row ≡ width c.args.inputs.now.shape = ap (λ (z : List ℕ). length z) (sym c.row-row.ensures.row) ∙ c.row-row.ensures.width in
    parts_join c.args.inputs.now.shape c.args.inputs.now.row _ _ _ _ _ c.row-row.ensures.row (c.counts_begin.ensures.place ∙ ap counts_begin shape) (c.supplies_begin.ensures.place ∙ ap supplies_begin shape)
    (c.weights_begin.ensures.place ∙ ap weights_begin shape) (c.weights_begin-2.ensures.place ∙ ap weights_begin shape) (omega (arith, wide))

pub returns-clause-sends : goal.returns-clause-sends
returns-clause-sends c =
    let counts : c.counts_begin.result ≡ counts_begin c.args.inputs.now.shape = c.counts_begin.ensures.place ∙ ap counts_begin c.shape-shape.ensures in
    rw (counts, c.row-row.ensures.row) refl

pub returns-clause-limits : goal.returns-clause-limits
returns-clause-limits c =
    let supplies : c.supplies_begin.result ≡ supplies_begin c.args.inputs.now.shape = c.supplies_begin.ensures.place ∙ ap supplies_begin c.shape-shape.ensures in
    let limits : c.weights_begin.result ≡ weights_begin c.args.inputs.now.shape = c.weights_begin.ensures.place ∙ ap weights_begin c.shape-shape.ensures in
    rw (supplies, limits, c.row-row.ensures.row) refl

pub returns-clause-narrow : goal.returns-clause-narrow
returns-clause-narrow c = λ solvable.
    let wide : length c.args.inputs.now.row ≡ width c.args.inputs.now.shape = ap (λ (z : List ℕ). length z) (sym c.row-row.ensures.row) ∙ c.row-row.ensures.width in
    let weights : c.weights_begin-2.result ≡ weights_begin c.args.inputs.now.shape = c.weights_begin-2.ensures.place ∙ ap weights_begin c.shape-shape.ensures in
    are_narrow c.args.inputs.now _ solvable wide (returns-clause-sends c) (returns-clause-limits c) (rw (weights, c.row-row.ensures.row) refl)

pub returns-clause-narrow_uncounted : goal.returns-clause-narrow_uncounted
returns-clause-narrow_uncounted c = λ solvable.
    let wide : length c.args.inputs.now.row ≡ width c.args.inputs.now.shape = ap (λ (z : List ℕ). length z) (sym c.row-row.ensures.row) ∙ c.row-row.ensures.width in
    let weights : c.weights_begin-2.result ≡ weights_begin c.args.inputs.now.shape = c.weights_begin-2.ensures.place ∙ ap weights_begin c.shape-shape.ensures in
    are_narrow_uncounted c.args.inputs.now _ solvable wide (returns-clause-sends c) (returns-clause-limits c) (rw (weights, c.row-row.ensures.row) refl)
