use Rattle.ltm_scenario.proofs.diagrams.Diagrams.timed.Goals as goal

pub of-delays-requires-clause-free : goal.of-delays-requires-clause-free
of-delays-requires-clause-free c = (c.limits_in_range.ensures c.args.diagram.now c.args.self.now.pace.step.0 c.args.self.now.pace.carry c.args.limits c.requires).free_most

pub of-delays-requires-clause-wave : goal.of-delays-requires-clause-wave
of-delays-requires-clause-wave c = (c.limits_in_range.ensures c.args.diagram.now c.args.self.now.pace.step.0 c.args.self.now.pace.carry c.args.limits c.requires).wave_most
