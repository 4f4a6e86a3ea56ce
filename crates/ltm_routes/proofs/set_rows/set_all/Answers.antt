use Rattle.std.proofs.Common.{◌<◌, ℕ, List, length, Err, ap, subst, arith}
use Rattle.ltm_scenario.specs.Data.{ScenarioData}
use Rattle.ltm_scenario.specs.Reads.{destination_node}
use Rattle.ltm_routes.specs.Roads.{roads_of}
use Rattle.ltm_routes.specs.Split.{RoutesData, AreRoutes, routes_to}
use Rattle.ltm_routes.proofs.Placed.{routes_still, routes_are, destination_set, destination_over, all_over}
use Rattle.ltm_routes.proofs.set_rows.set_all.Goals as goal

pub set_rows_to-requires-clause-routes : goal.set_rows_to-requires-clause-routes
set_rows_to-requires-clause-routes c =
    let s : ScenarioData = c.args.scenario in
    let m : ScenarioData = c.loop-destination.scenario in
    let d : ℕ = c.loop-destination.destination in
    let all : List RoutesData = c.args.all.now in
    let long = c.requires.routes.routes_for_each in
    let low : d < length s.destinations = omega arith in
    let inside : d < length all = omega arith in
    subst (AreRoutes (roads_of m) (destination_node m d)) (routes_are all d c.index-all-destination.result inside c.index-all-destination.is)
    (routes_still s m d (routes_to all d) c.loop-destination.invariant.rest (c.requires.routes.routes d low))

pub returns-in-Err-TooManyRows-clause-too_many : goal.returns-in-Err-TooManyRows-clause-too_many
returns-in-Err-TooManyRows-clause-too_many c = λ e.
    let s : ScenarioData = c.args.scenario in
    let m : ScenarioData = c.loop-destination.scenario in
    let d : ℕ = c.loop-destination.destination in
    let all : List RoutesData = c.args.all.now in
    let long = c.requires.routes.routes_for_each in
    let low : d < length s.destinations = omega arith in
    let inside : d < length all = omega arith in
    all_over s all c.requires.none
    (destination_over s m (routes_to all) d (length s.destinations) c.index-all-destination.result (routes_are all d c.index-all-destination.result inside c.index-all-destination.is)
    c.loop-destination.invariant low (c.in-Err-TooManyRows.ensures.too_many (ap Err c.in-Err-TooManyRows.field-0-is)))

pub loop-destination-preserved : goal.loop-destination-preserved
loop-destination-preserved c =
    let s : ScenarioData = c.args.scenario in
    let m : ScenarioData = c.loop-destination.scenario in
    let d : ℕ = c.loop-destination.destination in
    let all : List RoutesData = c.args.all.now in
    let long = c.requires.routes.routes_for_each in
    let low : d < length s.destinations = omega arith in
    let inside : d < length all = omega arith in
    destination_set s m c.set_rows_to.new.scenario (routes_to all) d c.index-all-destination.result (routes_are all d c.index-all-destination.result inside c.index-all-destination.is) c.loop-destination.invariant c.in-Ok.ensures.ok
