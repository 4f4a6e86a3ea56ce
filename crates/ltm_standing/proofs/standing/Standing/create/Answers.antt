use Rattle.std.proofs.Common.{rules, arith, refl, sym, ◌∙◌, ◌≡◌, ℕ, ◌<◌, length, slice_index}
use Rattle.std.proofs.lemmas.List.{get_or-replicate}
use Rattle.ltm_loading.specs.Groups.{up_of, down_of}
use Rattle.ltm_standing.specs.Listed.{listed}
use Rattle.ltm_standing.proofs.Lanes.{empty_stands}
use Rattle.ltm_standing.proofs.Links.{link_empty}
use Rattle.ltm_standing.proofs.standing.Standing.create.Goals as goal

pub returns-clause-stands : goal.returns-clause-stands
returns-clause-stands c s counts l ds h e =
    let wide : length c.in_ok-rest.rest.items ≡ c.args.destinations = search rules in
    let none : (i : ℕ) → i < c.args.destinations → slice_index c.in_ok-rest.rest.items i ≡ 0 = λ i m. search (rules, get_or-replicate) in
    empty_stands (length ds) (listed counts (up_of l) ds) (listed counts (down_of l) ds) _ (wide ∙ sym e) refl refl refl refl (search rules)
    (λ i m. none i (omega (arith, e))) (link_empty s counts l ds h)
