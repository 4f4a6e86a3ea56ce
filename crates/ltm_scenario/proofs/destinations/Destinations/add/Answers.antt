use Rattle.std.proofs.Common.{sym, ap, ◌∙◌, Some}
use Rattle.ltm_scenario.specs.Reads.{destination_of}
use Rattle.ltm_scenario.proofs.Added.{place_of_new}
use Rattle.ltm_scenario.proofs.destinations.Destinations.add.Goals as goal

pub returns-clause-place : goal.returns-clause-place
returns-clause-place c =
    ap (λ ds. destination_of ds c.args.node.0) c.in_ok-put.ensures.ok ∙ place_of_new c.args.self.now c.args.node.0 (sym c.in-None.ensures.place) ∙ ap Some (sym c.len-place.ensures.count)
