use Rattle.std.proofs.Common.{◌≡◌, ℕ, List, true, sym, ◌∙◌, subst}
use Rattle.ltm_rows.specs.Rows.{weights_of, is_weighed, PutsRow}
use Rattle.ltm_working.proofs.Weighing.{row_again}
use Rattle.ltm_working.proofs.renewing.keep.Goals as goal

pub returns-then-is_weighed : goal.returns-then-is_weighed
returns-then-is_weighed c =
    let stand : List ℕ = weights_of c.args.kept.now c.args.pair.node.0 c.args.pair.slot in
    let on : is_weighed c.args.kept.now c.args.pair.node.0 c.args.pair.slot ≡ true = sym c.is_weighed.ensures ∙ c.if-is_weighed.true in
    subst (λ (z : List ℕ). PutsRow c.args.kept.now c.put_again.new.self c.args.pair.node.0 c.args.pair.slot z)
    (row_again c.args.inputs.now.shape c.args.inputs.now.row c.parts_of-parts.result.sends.now c.parts_of-parts.result.limits.now stand c.parts_of-parts.ensures.sends c.parts_of-parts.ensures.limits (c.requires.weighed on))
    c.put_again.ensures
