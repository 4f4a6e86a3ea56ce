use Rattle.std.proofs.Common.{◌≡◌, ◌∙◌, ◌++◌, List, ℕ, ap, sym, append-nil}
use Rattle.std.proofs.lemmas.Result.{on_ok_weaker}
use Rattle.ltm_flows.specs.Origins.{produced_in_all}
use Rattle.ltm_report.proofs.Delayed.{no_line, node_delay_shown}
use Rattle.ltm_report.proofs.origins.node_delay_text.Goals as goal

pub returns-then-produced-eq0-clause-ok : goal.returns-then-produced-eq0-clause-ok
returns-then-produced-eq0-clause-ok c s version counts shows =
    let node : ℕ = c.args.node.0 in
    let items : List ℕ = c.args.into.now.items in
    let at_end : c.produced.result.0 ≡ produced_in_all s node s.slots =
    c.produced.ensures.shown s version counts shows ∙ ap (produced_in_all s node) (c.slots.ensures ∙ shows.shape.same_slots) in
    sym (ap (λ (x : List ℕ). items ++ x) (no_line c.args.name.now node s counts (sym at_end ∙ c.if-produced-eq0.true)) ∙ append-nil items)

pub returns-clause-ok : goal.returns-clause-ok
returns-clause-ok c =
    let node : ℕ = c.args.node.0 in
    on_ok_weaker c.node_delay_line_text.result
    (λ wrote s version counts shows.
    let at_end : c.produced.result.0 ≡ produced_in_all s node s.slots =
    c.produced.ensures.shown s version counts shows ∙ ap (produced_in_all s node) (c.slots.ensures ∙ shows.shape.same_slots) in
    node_delay_shown node c.args.name.now c.origin_delay.result _ _ s counts (λ none. c.if-produced-eq0.false (at_end ∙ none)) (c.origin_delay.ensures s version counts shows) wrote)
    c.node_delay_line_text.ensures.ok
