use Rattle.std.proofs.Common.{◌<◌, length, Err, ap, arith}
use Rattle.ltm_scenario.specs.Data.{ScenarioData}
use Rattle.ltm_routes.specs.Least.{routes_of}
use Rattle.ltm_routes.specs.Missing.{with_routes}
use Rattle.ltm_routes.proofs.Placed.{routes_alike, destination_set, destination_over}
use Rattle.ltm_routes.proofs.set_rows.set_routes.Goals as goal

pub returns-in-Err-TooManyRows-clause-too_many : goal.returns-in-Err-TooManyRows-clause-too_many
unfolding with_routes
returns-in-Err-TooManyRows-clause-too_many c = λ e.
    let s : ScenarioData = c.args.scenario.now in
    let m : ScenarioData = c.loop-destination.scenario in
    let low : c.loop-destination.destination < length s.destinations = omega arith in
    let over = c.in-Err-TooManyRows.ensures.too_many (ap Err c.in-Err-TooManyRows.field-0-is) in
    (destination_over s m (routes_of s) c.loop-destination.destination (length s.destinations) (routes_of m c.loop-destination.destination) (routes_alike s m c.loop-destination.destination c.loop-destination.invariant.rest) c.loop-destination.invariant low over).refused

pub loop-destination-preserved : goal.loop-destination-preserved
loop-destination-preserved c =
    let s : ScenarioData = c.args.scenario.now in
    let m : ScenarioData = c.loop-destination.scenario in
    destination_set s m c.route_to.new.scenario (routes_of s) c.loop-destination.destination (routes_of m c.loop-destination.destination) (routes_alike s m c.loop-destination.destination c.loop-destination.invariant.rest) c.loop-destination.invariant c.in-Ok.ensures.ok
