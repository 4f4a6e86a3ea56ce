use Rattle.std.proofs.Common.{◌≡◌, ◌∙◌, ◌++◌, List, ℕ, ap, sym, append-nil}
use Rattle.std.proofs.lemmas.Result.{on_ok_weaker}
use Rattle.ltm_flows.specs.Origins.{produced_in_all, departed_from}
use Rattle.ltm_report.specs.Sampled.{told_boundaries, told_at, departed_line, departed_report}
use Rattle.ltm_report.proofs.Telling.{not_departed, some_departed}
use Rattle.ltm_report.proofs.sampled.departed_text.Goals as goal

pub returns-then-produced-eq0-clause-ok : goal.returns-then-produced-eq0-clause-ok
returns-then-produced-eq0-clause-ok c s version counts shows =
    let node : ℕ = c.args.node.0 in
    let items : List ℕ = c.args.into.now.items in
    let at_end : c.produced.result.0 ≡ produced_in_all s node s.slots =
    c.produced.ensures.shown s version counts shows ∙ ap (produced_in_all s node) (c.slots.ensures ∙ shows.shape.same_slots) in
    sym (ap (λ (x : List ℕ). items ++ x) (not_departed c.args.every c.args.name.now node s counts (sym at_end ∙ c.if-produced-eq0.true)) ∙ append-nil items)

pub returns-clause-ok : goal.returns-clause-ok
returns-clause-ok c =
    let node : ℕ = c.args.node.0 in
    let every : ℕ = c.args.every in
    let items : List ℕ = c.args.into.now.items in
    on_ok_weaker c.push_text.result
    (λ wrote s version counts shows.
    let at_end : c.produced.result.0 ≡ produced_in_all s node s.slots =
    c.produced.ensures.shown s version counts shows ∙ ap (produced_in_all s node) (c.slots.ensures ∙ shows.shape.same_slots) in
    let line : List ℕ = departed_line c.args.name.now (told_boundaries every s.slots) (λ place. departed_from s counts node (told_at every s.slots place)) in
    let some : departed_report every c.args.name.now node s counts ≡ line =
    some_departed every c.args.name.now node s counts (λ none. c.if-produced-eq0.false (at_end ∙ none)) in
    wrote
    ∙ ap (λ (x : List ℕ). items ++ x)
    (c.as_slice.ensures.value
    ∙ (c.in_ok-push_departed.ensures s version counts shows
    ∙ (ap (λ (x : List ℕ). x ++ line) c.new-line.ensures.items ∙ sym some))))
    c.push_text.ensures.ok
