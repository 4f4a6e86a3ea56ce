use Rattle.std.proofs.Common.{◌∙◌, ℕ, ap, replicate}
use Rattle.ltm_flows.proofs.Producing.{none_are, nothing_at}
use Rattle.ltm_flows.proofs.production.Production.none.Goals as goal

pub invariant_of-result-clause-are : goal.invariant_of-result-clause-are
invariant_of-result-clause-are c =
    none_are c.args.nodes c.args.room c.in_ok-amounts.amounts.items (c.in_ok-amounts.ensures ∙ ap (λ (many : ℕ). replicate many 0) c.table_size.ensures)

pub returns-clause-nothing : goal.returns-clause-nothing
returns-clause-nothing c =
    nothing_at c.args.nodes c.args.room c.in_ok-amounts.amounts.items (c.in_ok-amounts.ensures ∙ ap (λ (many : ℕ). replicate many 0) c.table_size.ensures)
