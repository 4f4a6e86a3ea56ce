use Rattle.std.proofs.Common.{rules, ◌∙◌, ◌++◌, ap, ℕ, List}
use Rattle.std.proofs.lemmas.Result.{on_ok_weaker}
use Rattle.ltm_flows.specs.Origins.{departed_from}
use Rattle.ltm_report.specs.Sampled.{told_at}
use Rattle.ltm_report.proofs.Telling.{departed_told}
use Rattle.ltm_report.proofs.sampled.push_departed.Goals as goal

pub returns : goal.returns
returns c =
    on_ok_weaker c.push_newline.result
    (departed_told c.args.loading.now c.args.name.now c.args.every c.args.node.0 c.told_boundaries-many.result c.slots.result _ _ _ _ _
    c.told_boundaries-many.ensures c.slots.ensures c.in_ok-push_text.ensures.ok
    (c.in_ok-push_text-2.ensures.ok ∙ ap (λ (x : List ℕ). c.push_text.new.into.items ++ x) c.bytes.ensures.bytes)
    (λ s version counts shows. c.in_ok-push_row.ensures (λ place. departed_from s counts c.args.node.0 (told_at c.args.every s.slots place)) (λ k n less post. search rules)))
    c.push_newline.ensures
