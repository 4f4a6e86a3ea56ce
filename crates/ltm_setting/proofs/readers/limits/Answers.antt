use Rattle.std.proofs.Common.{arith}
use Rattle.ltm_setting.proofs.readers.limits.Goals as goal

pub returns-clause-small_free_time : goal.returns-clause-small_free_time
returns-clause-small_free_time c = (c.limits_in_range.ensures c.diagram-diagram.result.now c.args.scenario.now.setup.step.0 c.args.scenario.now.setup.carry c.limits.result (c.limits.ensures c.diagram-diagram.result.now c.diagram-diagram.ensures)).free_most

pub returns-clause-small_wave_time : goal.returns-clause-small_wave_time
returns-clause-small_wave_time c = (c.limits_in_range.ensures c.diagram-diagram.result.now c.args.scenario.now.setup.step.0 c.args.scenario.now.setup.carry c.limits.result (c.limits.ensures c.diagram-diagram.result.now c.diagram-diagram.ensures)).wave_most

pub returns-clause-small_storage : goal.returns-clause-small_storage
returns-clause-small_storage c = (c.limits_in_range.ensures c.diagram-diagram.result.now c.args.scenario.now.setup.step.0 c.args.scenario.now.setup.carry c.limits.result (c.limits.ensures c.diagram-diagram.result.now c.diagram-diagram.ensures)).storage_most

pub returns-clause-small_capacity : goal.returns-clause-small_capacity
returns-clause-small_capacity c =
    let range = c.limits_in_range.ensures c.diagram-diagram.result.now c.args.scenario.now.setup.step.0 c.args.scenario.now.setup.carry c.limits.result (c.limits.ensures c.diagram-diagram.result.now c.diagram-diagram.ensures) in
    omega (arith, range.capacity_most)

pub returns-clause-rest : goal.returns-clause-rest
returns-clause-rest c = (c.limits_in_range.ensures c.diagram-diagram.result.now c.args.scenario.now.setup.step.0 c.args.scenario.now.setup.carry c.limits.result (c.limits.ensures c.diagram-diagram.result.now c.diagram-diagram.ensures)).rest
