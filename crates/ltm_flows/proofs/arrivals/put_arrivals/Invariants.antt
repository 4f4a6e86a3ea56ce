use Rattle.ltm_flows.specs.Arrivals.{HasArrivals}
use Rattle.ltm_flows.proofs.arrivals.put_arrivals.Given as goal

abbrev pub invariant-loop-boundary : goal.invariant-loop-boundary
invariant-loop-boundary l = HasArrivals l.links l.nodes l.boundary l.fn.curves l.curves
