use Rattle.std.proofs.Common.{◌≡◌, ◌<◌, ℕ, List, length, subst, arith}
use Rattle.std.specs.Prelude.{All}
use Rattle.ltm_scenario.specs.Data.{ScenarioData}
use Rattle.ltm_scenario.specs.Reads.{destination_node}
use Rattle.ltm_routes.specs.Roads.{roads_of}
use Rattle.ltm_routes.specs.Split.{RoutesData, AreRoutes, rows_to, routes_to, lists_below}
use Rattle.ltm_routes.proofs.Placed.{routes_are}
use Rattle.ltm_routes_command.specs.Lines.{header_of}
use Rattle.ltm_routes_command.specs.File.{IsNamed}
use Rattle.ltm_routes_command.proofs.Walk.{text_added, rows_named}
use Rattle.ltm_routes_command.proofs.texts.routes_text.Goals as goal

pub push_lines_to-requires-clause-routes : goal.push_lines_to-requires-clause-routes
push_lines_to-requires-clause-routes c =
    let s : ScenarioData = c.args.scenario.now in
    let d : ℕ = c.loop-destination.destination in
    let all : List RoutesData = c.args.all.now in
    let long = c.requires.routes_for_each in
    let low : d < length s.destinations = omega arith in
    let inside : d < length all = omega arith in
    subst (AreRoutes (roads_of s) (destination_node s d)) (routes_are all d c.index-all-destination.result inside c.index-all-destination.is) (c.requires.routes d low)

pub loop-destination-preserved : goal.loop-destination-preserved
loop-destination-preserved c =
    let s : ScenarioData = c.args.scenario.now in
    let d : ℕ = c.loop-destination.destination in
    let all : List RoutesData = c.args.all.now in
    let long = c.requires.routes_for_each in
    let low : d < length s.destinations = omega arith in
    let inside : d < length all = omega arith in
    let same : routes_to all d ≡ c.index-all-destination.result = routes_are all d c.index-all-destination.result inside c.index-all-destination.is in
    record {
      text = text_added c.args.lines s all d c.index-all-destination.result (header_of c.args.lines) c.loop-destination.text.items _ same c.loop-destination.invariant.text c.in_ok-push_lines_to.ensures.lines;
      named = λ splits. rows_named s all d c.index-all-destination.result (IsNamed s.network s.destinations) same (c.loop-destination.invariant.named splits) (c.in_ok-push_lines_to.ensures.named splits);
    }

pub returns-clause-named : goal.returns-clause-named
returns-clause-named c = λ splits.
    let s : ScenarioData = c.args.scenario.now in
    let end : c.loop-destination.destination ≡ length s.destinations = omega arith in
    subst (λ n. All (IsNamed s.network s.destinations) (lists_below n (λ e. rows_to s e (routes_to c.args.all.now e)))) end (c.loop-destination.invariant.named splits)
