use Rattle.std.proofs.Common.{◌≡◌, ℕ, ◌<◌, ◌≤◌, Bool, List, true, false, length, slice_index_or, refl, ap, sym, arith, ◌∙◌}
use Rattle.ltm_units.specs.declared.places.LinkId.{LinkId}
use Rattle.ltm_network.specs.Network.{NetworkData, out_links}
use Rattle.ltm_routes.specs.Roads.{roads_of}
use Rattle.ltm_routes.specs.Potentials.{LeadsOn, is_tight_over}
use Rattle.ltm_routes.proofs.Out.{numbers, leaves, left_at}
use Rattle.ltm_routes.proofs.potentials.leads_on.Goals as goal

abbrev no_link : LinkId
no_link = record { 0 = 0 }

untold : (test : ℕ → Bool) (links : List LinkId) (index link : ℕ) → length links ≤ index → ((place : ℕ) (d : LinkId) → place < index → test (slice_index_or links place d).0 ≡ false)
    → ((place : ℕ) × (place < length links) × ((d : LinkId) → (slice_index_or links place d).0 ≡ link)) → test link ≡ true → false ≡ true
untold test links index link done none at holds =
    let low : at.0 < length links = at.1 in
    sym (none at.0 no_link (omega arith)) ∙ ap test (at.2 no_link) ∙ holds

pub returns-then-is_tight_over : goal.returns-then-is_tight_over
returns-then-is_tight_over c =
    let n : NetworkData = c.args.scenario.now.network in
    let are : numbers c.out_links-links.result.now ≡ out_links n c.args.node.0 = c.out_links-links.ensures.links ∙ ap (λ (m : NetworkData). out_links m c.args.node.0) c.network.ensures in
    let here = leaves n c.args.node.0 c.out_links-links.result.now c.each.link-index no_link c.links_at_their_places.ensures are c.each-test.true in
    (λ x. ((slice_index_or c.out_links-links.result.now c.each.link-index no_link).0, here.0, here.1, sym c.is_tight_over.ensures ∙ c.if-is_tight_over.true), λ x. refl)

pub returns : goal.returns
returns c =
    let n : NetworkData = c.args.scenario.now.network in
    let are : numbers c.out_links-links.result.now ≡ out_links n c.args.node.0 = c.out_links-links.ensures.links ∙ ap (λ (m : NetworkData). out_links m c.args.node.0) c.network.ensures in (
      λ (x : false ≡ true). absurd (cc),
      λ (on : LeadsOn (roads_of c.args.scenario.now) c.args.potentials.now c.args.node.0).
          untold (is_tight_over (roads_of c.args.scenario.now) c.args.potentials.now) c.out_links-links.result.now c.each.link-index on.0 c.each-test.false c.each.invariant
          (left_at n c.args.node.0 c.out_links-links.result.now on.0 c.links_at_their_places.ensures are on.1 on.2) on.3,
    )
