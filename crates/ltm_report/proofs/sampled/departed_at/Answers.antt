use Rattle.std.proofs.Common.{ℕ, ◌≡◌, ◌∙◌, ap}
use Rattle.ltm_report.specs.Sampled.{told_at}
use Rattle.ltm_flows.specs.Origins.{departed_from}
use Rattle.ltm_report.proofs.sampled.departed_at.Goals as goal

pub returns : goal.returns
returns c s version counts shows =
    let boundary : c.told_at.result ≡ told_at c.args.every s.slots c.args.place =
    c.told_at.ensures.value ∙ ap (λ (slots : ℕ). told_at c.args.every slots c.args.place) (c.slots.ensures ∙ shows.shape.same_slots) in
    c.departed.ensures.shown s version counts shows ∙ ap (departed_from s counts c.args.node.0) boundary
