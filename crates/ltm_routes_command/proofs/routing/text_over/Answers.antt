use Rattle.std.proofs.Common.{◌≡◌, ◌∙◌, ap, List, Ok, subst, sym}
use Rattle.ltm_casefile.specs.Faults.{Says}
use Rattle.ltm_scenario.specs.Data.{ScenarioData}
use Rattle.ltm_routes.specs.Split.{RoutesData, AreAllRoutes, route_splits, with_splits}
use Rattle.std.specs.Prelude.{All}
use Rattle.ltm_routes_command.specs.declared.lines.RouteLines.TheVariants as lines
use Rattle.ltm_routes_command.specs.File.{IsNamed}
use Rattle.ltm_routes_command.specs.Lines.{routes_text}
use Rattle.ltm_routes_command.specs.Routing.{routed, is_readable}
use Rattle.ltm_routes_command.proofs.Kept.{still, answered, answered_text, answered_long, splits_short, says_of, splits_are, times_are}
use Rattle.ltm_routes_command.proofs.routing.text_over.Goals as goal

pub routes_text-requires : goal.routes_text-requires
routes_text-requires c = subst (AreAllRoutes c.in-Ok.split) (sym c.deref-2.ensures.value) (still c.args.roads c.in-Ok.split c.in_ok-all.all.items c.in-Ok.ensures.rest c.in_ok-all.ensures)

pub returns-in-Err-clause-fault : goal.returns-in-Err-clause-fault
returns-in-Err-clause-fault c =
    says_of c.args.lines c.args.roads c.in_ok-all.all.items c.in-Err.fault c.in_ok-all.ensures
    (subst (λ a. Says (routed c.args.roads a) c.in-Err.fault) c.deref.ensures.value c.in-Err.ensures.fault)

pub returns-then-not-is_readable-clause-fault : goal.returns-then-not-is_readable-clause-fault
returns-then-not-is_readable-clause-fault c =
    let roads : ScenarioData = c.args.roads in
    let split : ScenarioData = c.in-Ok.split in
    let all : List RoutesData = c.in_ok-all.all.items in
    answered_long c.args.lines roads c.deref-3.result.now (sym c.is_readable.ensures ∙ c.if-not-is_readable.true)
    (answered c.args.lines roads split all c.deref-3.result.now c.in_ok-all.ensures c.in-Ok.ensures.rest
    (subst (λ a. routed roads a ≡ Ok split) c.deref.ensures.value c.in-Ok.ensures.ok)
    (c.deref-3.ensures.value ∙ subst (λ a. c.in_ok-text.text.items ≡ routes_text c.args.lines split a) c.deref-2.ensures.value c.in_ok-text.ensures.text))

pub returns-clause-text : goal.returns-clause-text
returns-clause-text c =
    let roads : ScenarioData = c.args.roads in
    let split : ScenarioData = c.in-Ok.split in
    let all : List RoutesData = c.in_ok-all.all.items in
    answered_text c.args.lines roads c.in_ok-text.text.items
    (ap (is_readable c.args.lines) (sym c.deref-3.ensures.value) ∙ sym c.is_readable.ensures ∙ c.if-not-is_readable.false)
    (answered c.args.lines roads split all _ c.in_ok-all.ensures c.in-Ok.ensures.rest
    (subst (λ a. routed roads a ≡ Ok split) c.deref.ensures.value c.in-Ok.ensures.ok)
    (subst (λ a. c.in_ok-text.text.items ≡ routes_text c.args.lines split a) c.deref-2.ensures.value c.in_ok-text.ensures.text))

pub returns-clause-splits : goal.returns-clause-splits
returns-clause-splits c = λ splits.
    let roads : ScenarioData = c.args.roads in
    let split : ScenarioData = c.in-Ok.split in
    let all : List RoutesData = c.in_ok-all.all.items in (
      split,
      splits_are roads split all _ c.setup-setup.ensures.scenario c.names_are_found.ensures c.links_at_their_places.ensures c.in_ok-all.ensures c.in-Ok.ensures.rest
          (subst (λ a. with_splits roads (route_splits roads a) ≡ Ok split) c.deref.ensures.value c.in-Ok.ensures.set)
          (c.all_are_missing.ensures roads all c.setup-setup.ensures.scenario c.in_ok-all.ensures c.requires)
          (splits_short c.args.lines c.in_ok-text.text.items splits (ap (is_readable c.args.lines) (sym c.deref-3.ensures.value) ∙ sym c.is_readable.ensures ∙ c.if-not-is_readable.false))
          c.in-Ok.ensures.valid c.in-Ok.ensures.whole
          (subst (λ a. All (IsNamed split.network split.destinations) (route_splits split a)) c.deref-2.ensures.value (c.in_ok-text.ensures.named splits))
          (subst (λ a. c.in_ok-text.text.items ≡ routes_text lines.Splits split a) c.deref-2.ensures.value (subst (λ w. c.in_ok-text.text.items ≡ routes_text w split c.deref-2.result.now) splits c.in_ok-text.ensures.text)),
    )

pub returns-clause-times : goal.returns-clause-times
returns-clause-times c = λ times.
    let split : ScenarioData = c.in-Ok.split in
    times_are c.args.roads split c.in_ok-all.all.items _ c.in_ok-all.ensures c.in-Ok.ensures.rest
    (subst (λ a. c.in_ok-text.text.items ≡ routes_text lines.Times split a) c.deref-2.ensures.value (subst (λ w. c.in_ok-text.text.items ≡ routes_text w split c.deref-2.result.now) times c.in_ok-text.ensures.text))
