use Rattle.std.proofs.Common.{◌≡◌, ◌∙◌, List, ℕ, ap, sym, true, false, Some}
use Rattle.ltm_core.proofs.Claimings.{kept_is, not_claimed, not_current, claimed_node, shape_told}
use Rattle.ltm_core.proofs.the_core.Core.keeps.Goals as goal

pub returns-then-ticket-version : goal.returns-then-ticket-version
returns-then-ticket-version c = not_current _ _ c.args.pair c.args.ticket c.args.inputs.now c.self.view_is (λ e. c.if-ticket-version.true (e ∙ sym c.version.ensures.version))

pub holds-requires : goal.holds-requires
holds-requires c = c.self.invariant.0.ready

pub returns-then-not-holds : goal.returns-then-not-holds
returns-then-not-holds c =
    not_claimed _ _ c.args.pair c.args.ticket c.args.inputs.now c.self.view_is (λ some.
    let on : c.holds.result ≡ true = c.holds.ensures.1 (some ∙ ap (λ (z : List ℕ). Some z) (sym c.row.ensures.row)) in
    let off : c.holds.result ≡ false = c.if-not-holds.true in absurd (cc))

pub shape_of-requires : goal.shape_of-requires
shape_of-requires c = claimed_node _ c.args.pair.node.0 c.args.pair.slot _ c.self.invariant.0 (c.holds.ensures.0 c.if-not-holds.false)

pub returns : goal.returns
returns c =
    kept_is _ _ c.args.pair c.args.ticket c.args.inputs.now c.shape_of.result c.same_shape.result c.self.view_is (c.if-ticket-version.false ∙ c.version.ensures.version)
    (c.holds.ensures.0 c.if-not-holds.false ∙ ap (λ (z : List ℕ). Some z) c.row.ensures.row)
    c.shape_of.ensures.shape (shape_told c.shape.result _ c.shape_of.result c.same_shape.result c.shape.ensures c.same_shape.ensures)
