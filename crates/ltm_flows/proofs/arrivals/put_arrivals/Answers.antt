use Rattle.std.proofs.Common.{◌≡◌, ◌≤◌, ℕ, arith, subst}
use Rattle.ltm_curve.specs.TotalCurves.{total_at, total_slots, SetsTotal}
use Rattle.ltm_flows.specs.Arrivals.{gone_through}
use Rattle.ltm_flows.proofs.Arriving.{arrivals_none, arrivals_next, gone_same}
use Rattle.ltm_flows.proofs.arrivals.put_arrivals.Goals as goal

pub loop-boundary-init : goal.loop-boundary-init
loop-boundary-init c = arrivals_none c.args.links c.args.nodes c.args.curves.now

pub set-requires-clause-small : goal.set-requires-clause-small
set-requires-clause-small c =
    let within : c.loop-boundary.boundary ≤ total_slots c.args.curves.now = omega (arith, c.loop-boundary-test.true, c.slots-boundary-end.ensures) in
    let same : gone_through (total_at c.loop-boundary.curves) c.args.links c.args.nodes c.loop-boundary.boundary ≡ gone_through (total_at c.args.curves.now) c.args.links c.args.nodes c.loop-boundary.boundary =
    gone_same c.args.links c.args.nodes c.loop-boundary.boundary (total_at c.loop-boundary.curves) (total_at c.args.curves.now) (λ i x. c.loop-boundary.invariant.others i c.loop-boundary.boundary x within) in
    omega (arith, c.gone_by-gone.ensures, same, c.requires.small c.loop-boundary.boundary within)

pub loop-boundary-preserved : goal.loop-boundary-preserved
loop-boundary-preserved c =
    let within : c.loop-boundary.boundary ≤ total_slots c.args.curves.now = omega (arith, c.loop-boundary-test.true, c.slots-boundary-end.ensures) in
    arrivals_next c.args.links c.args.nodes c.loop-boundary.boundary c.gone_by-gone.result c.args.curves.now c.loop-boundary.curves c.set.new.self within c.requires.groups c.loop-boundary.invariant c.gone_by-gone.ensures
    (subst (λ (g : ℕ). SetsTotal c.loop-boundary.curves c.set.new.self g c.loop-boundary.boundary c.gone_by-gone.result) c.arr_behind.ensures c.set.ensures)
