use Rattle.std.proofs.Common.{◌≡◌, ◌∙◌, ap, arith, refl, subst, sym}
use Rattle.ltm_make.specs.declared.making.Making.{Making}
use Rattle.ltm_make.specs.Grid.{roads}
use Rattle.ltm_make.specs.Roads.{IsAlong}
use Rattle.ltm_make.specs.Links.{making_from, with_grid}
use Rattle.ltm_make.specs.Splits.{with_ends, with_splits, IsLaid}
use Rattle.ltm_make.proofs.GridMade.{made_along}
use Rattle.ltm_make.proofs.Roading.{some_width, narrow_width}
use Rattle.ltm_make.proofs.SplitsMade.{splits_laid}
use Rattle.ltm_make.proofs.CaseMade.{grid_fresh, ends_laid, splits_demand}
use Rattle.ltm_make.proofs.made.make_scenario.Goals as goal

pub add_grid-requires-clause-fresh : goal.add_grid-requires-clause-fresh
add_grid-requires-clause-fresh c = ap (λ (m : Making). m.scenario) c.open-making.ensures

pub add_grid-requires-clause-narrow : goal.add_grid-requires-clause-narrow
add_grid-requires-clause-narrow c = narrow_width c.args.grid.nodes c.args.grid.width c.requires

pub add_grid-requires-clause-some : goal.add_grid-requires-clause-some
add_grid-requires-clause-some c = omega (arith, some_width c.args.grid.nodes c.args.grid.width c.requires)

pub add_ends-requires-clause-along : goal.add_ends-requires-clause-along
add_ends-requires-clause-along c =
    let laid : c.add_grid.new.self ≡ with_grid c.args.grid.nodes c.args.grid.width (making_from c.args.start) = c.in_ok-add_grid.ensures ∙ ap (with_grid c.args.grid.nodes c.args.grid.width) c.open-making.ensures in
    subst (λ (m : Making). IsAlong m.scenario.network (roads c.args.grid.nodes c.args.grid.width c.args.grid.nodes)) (sym laid)
    (made_along (making_from c.args.start) (roads c.args.grid.nodes c.args.grid.width c.args.grid.nodes) refl)

pub add_ends-requires-clause-none : goal.add_ends-requires-clause-none
add_ends-requires-clause-none c =
    let laid : c.add_grid.new.self ≡ with_grid c.args.grid.nodes c.args.grid.width (making_from c.args.start) = c.in_ok-add_grid.ensures ∙ ap (with_grid c.args.grid.nodes c.args.grid.width) c.open-making.ensures in
    ap (λ (m : Making). m.scenario.destinations) laid ∙ (grid_fresh c.args.start c.args.grid.nodes c.args.grid.width).destinations

pub add_ends-requires-clause-setup : goal.add_ends-requires-clause-setup
add_ends-requires-clause-setup c =
    let laid : c.add_grid.new.self ≡ with_grid c.args.grid.nodes c.args.grid.width (making_from c.args.start) = c.in_ok-add_grid.ensures ∙ ap (with_grid c.args.grid.nodes c.args.grid.width) c.open-making.ensures in
    ap (λ (m : Making). m.scenario.setup) laid ∙ (grid_fresh c.args.start c.args.grid.nodes c.args.grid.width).setup

pub add_splits-requires-clause-laid : goal.add_splits-requires-clause-laid
add_splits-requires-clause-laid c =
    let ended : c.add_ends.new.self ≡ with_ends c.args.grid.width (with_grid c.args.grid.nodes c.args.grid.width (making_from c.args.start)) =
    c.in_ok-add_ends.ensures ∙ ap (λ (m : Making). with_ends c.args.grid.width m) (c.in_ok-add_grid.ensures ∙ ap (with_grid c.args.grid.nodes c.args.grid.width) c.open-making.ensures) in
    subst (λ (m : Making). IsLaid c.args.grid.nodes c.args.grid.width m.scenario) (sym ended) (ends_laid c.args.start c.args.grid.nodes c.args.grid.width c.requires)

pub add_splits-requires-clause-none : goal.add_splits-requires-clause-none
add_splits-requires-clause-none c =
    let ended : c.add_ends.new.self ≡ with_ends c.args.grid.width (with_grid c.args.grid.nodes c.args.grid.width (making_from c.args.start)) =
    c.in_ok-add_ends.ensures ∙ ap (λ (m : Making). with_ends c.args.grid.width m) (c.in_ok-add_grid.ensures ∙ ap (with_grid c.args.grid.nodes c.args.grid.width) c.open-making.ensures) in
    ap (λ (m : Making). m.scenario.splits) ended ∙ (grid_fresh c.args.start c.args.grid.nodes c.args.grid.width).splits

pub add_demands-requires-clause-laid : goal.add_demands-requires-clause-laid
add_demands-requires-clause-laid c =
    let ended : c.add_ends.new.self ≡ with_ends c.args.grid.width (with_grid c.args.grid.nodes c.args.grid.width (making_from c.args.start)) =
    c.in_ok-add_ends.ensures ∙ ap (λ (m : Making). with_ends c.args.grid.width m) (c.in_ok-add_grid.ensures ∙ ap (with_grid c.args.grid.nodes c.args.grid.width) c.open-making.ensures) in
    subst (λ (m : Making). IsLaid c.args.grid.nodes c.args.grid.width m.scenario)
    (sym (c.in_ok-add_splits.ensures ∙ ap (with_splits c.args.grid.nodes c.args.grid.width c.args.grid.nodes) ended))
    (splits_laid c.args.grid.nodes c.args.grid.width c.args.grid.nodes (with_ends c.args.grid.width (with_grid c.args.grid.nodes c.args.grid.width (making_from c.args.start)))
    (ends_laid c.args.start c.args.grid.nodes c.args.grid.width c.requires))

pub add_demands-requires-clause-none : goal.add_demands-requires-clause-none
add_demands-requires-clause-none c =
    let ended : c.add_ends.new.self ≡ with_ends c.args.grid.width (with_grid c.args.grid.nodes c.args.grid.width (making_from c.args.start)) =
    c.in_ok-add_ends.ensures ∙ ap (λ (m : Making). with_ends c.args.grid.width m) (c.in_ok-add_grid.ensures ∙ ap (with_grid c.args.grid.nodes c.args.grid.width) c.open-making.ensures) in
    ap (λ (m : Making). m.scenario.demand) (c.in_ok-add_splits.ensures ∙ ap (with_splits c.args.grid.nodes c.args.grid.width c.args.grid.nodes) ended)
    ∙ (splits_demand c.args.grid.nodes c.args.grid.width c.args.grid.nodes (with_ends c.args.grid.width (with_grid c.args.grid.nodes c.args.grid.width (making_from c.args.start)))
    ∙ (grid_fresh c.args.start c.args.grid.nodes c.args.grid.width).demand)
