use Rattle.std.proofs.Common.{◌≤◌, arith}
use Rattle.ltm_units.specs.Bounds.{most_nodes}
use Rattle.ltm_setting.specs.Setting.{setting_of}
use Rattle.ltm_core.proofs.Histories.{core_told}
use Rattle.ltm_core.proofs.Claimings.{core_after_claim, came_claim}
use Rattle.ltm_core.proofs.Anew.{anew_is_core, anew_fits, came_anew, core_recomputes_at, core_looks_at}
use Rattle.ltm_core.proofs.the_core.Core.recompute.Goals as goal

pub overflow_add-self : goal.overflow_add-self
overflow_add-self c =
    let few : (setting_of c.self.inside.scenario).nodes ≤ most_nodes = omega (c.node_count-nodes.ensures.value, c.node_count-nodes.ensures.few, arith) in
    omega (anew_fits c.repair_laws.ensures _ _ _ _ _ c.self.invariant.0 c.in-Work.ensures.recomputes.1 few, arith)

pub invariant_of-self : goal.invariant_of-self
invariant_of-self c = (
  core_told _ _ (anew_is_core c.repair_laws.ensures _ _ _ _ _ c.self.invariant.0 c.recompute-found.ensures.ready c.in-Work.ensures.recomputes.1),
  came_anew c.repair_laws.ensures _ _ _ _ _ _ _ c.self.invariant.0 c.in-Work.ensures.recomputes.1 c.add.ensures c.add-in-Work.ensures c.self.invariant.1,
)

pub returns-in-Work-clause-answer : goal.returns-in-Work-clause-answer
returns-in-Work-clause-answer c = core_recomputes_at c.repair_laws.ensures _ _ c.in-Work.pair _ c.recompute-found.new.self _ _ c.self.view_is c.self.invariant.0 c.in-Work.ensures.recomputes.1 c.add.ensures c.add-in-Work.ensures

pub invariant_of-self-in-Wait : goal.invariant_of-self-in-Wait
invariant_of-self-in-Wait c = (
  core_told _ _ (core_after_claim c.repair_laws.ensures _ c.recompute-found.new.self _ c.self.invariant.0 c.recompute-found.ensures.ready c.in-Wait.ensures.recomputes.1 c.in-Wait.ensures.recomputes.0 tt),
  came_claim c.repair_laws.ensures _ c.recompute-found.new.self _ _ c.self.invariant.0 c.in-Wait.ensures.recomputes.1 c.in-Wait.ensures.recomputes.0 tt c.add-in-Wait.ensures c.self.invariant.1,
)

pub returns-in-Wait-clause-answer : goal.returns-in-Wait-clause-answer
returns-in-Wait-clause-answer c = core_looks_at _ _ c.recompute-found.new.self _ _ c.self.view_is c.self.invariant.0 c.in-Wait.ensures.recomputes.0 c.in-Wait.ensures.recomputes.1 tt c.add-in-Wait.ensures

pub invariant_of-self-in-Rest : goal.invariant_of-self-in-Rest
invariant_of-self-in-Rest c = (
  core_told _ _ (core_after_claim c.repair_laws.ensures _ c.recompute-found.new.self _ c.self.invariant.0 c.recompute-found.ensures.ready c.in-Rest.ensures.recomputes.1 c.in-Rest.ensures.recomputes.0 tt),
  came_claim c.repair_laws.ensures _ c.recompute-found.new.self _ _ c.self.invariant.0 c.in-Rest.ensures.recomputes.1 c.in-Rest.ensures.recomputes.0 tt c.add-in-Rest.ensures c.self.invariant.1,
)

pub returns-in-Rest-clause-answer : goal.returns-in-Rest-clause-answer
returns-in-Rest-clause-answer c = core_looks_at _ _ c.recompute-found.new.self _ _ c.self.view_is c.self.invariant.0 c.in-Rest.ensures.recomputes.0 c.in-Rest.ensures.recomputes.1 tt c.add-in-Rest.ensures
