use Rattle.std.proofs.Common.{◌∙◌, ℕ, ap, map}
use Rattle.std.proofs.lemmas.List.{take_all}
use Rattle.ltm_units.specs.declared.places.LinkId.{LinkId}
use Rattle.ltm_network.specs.Network.{head_of}
use Rattle.ltm_scenario.proofs.Linked.{map_numbers}
use Rattle.ltm_make.specs.Branches.{weight_to}
use Rattle.ltm_make.proofs.branches.weights_of.Goals as goal

pub returns : goal.returns
returns c =
    let weight : ℕ → ℕ = λ link. weight_to c.args.first c.args.second (head_of c.args.network.now link) in
    c.loop-link.invariant
    ∙ (ap (map (λ (link : LinkId). weight_to c.args.first c.args.second (head_of c.args.network.now link.0))) (take_all c.loop-link.link-index c.out_links-link-items.result.now c.loop-link-test.false)
    ∙ (map_numbers weight c.out_links-link-items.result.now ∙ ap (map weight) c.out_links-link-items.ensures.links))
