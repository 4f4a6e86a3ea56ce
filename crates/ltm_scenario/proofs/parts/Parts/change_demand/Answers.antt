use Rattle.ltm_demand.specs.Rows.{with_amount}
use Rattle.ltm_scenario.specs.Parts.{AreParts}
use Rattle.ltm_scenario.proofs.Changed.{with_demand_row}
use Rattle.ltm_scenario.proofs.Undoing.{demand_undoes}
use Rattle.ltm_scenario.proofs.parts.Parts.change_demand.Goals as goal

pub returns-in-Ok-clause-undo : goal.returns-in-Ok-clause-undo
returns-in-Ok-clause-undo c =
    let next : AreParts (record c.args.self.now { demand = c.change-was.new.self }) =
    with_demand_row c.args.self.now c.change-was.new.self c.args.row c.requires.parts c.requires.row c.in-Ok.ensures.ok c.rows-rows.ensures.kept c.change-was.ensures.tabled in
    demand_undoes c.args.self.now c.change-was.new.self (with_amount c.args.row c.in-Ok.was.0) c.requires.parts next c.in-Ok.ensures.back c.in-Ok.ensures.undo

pub returns-in-Ok-clause-parts : goal.returns-in-Ok-clause-parts
returns-in-Ok-clause-parts c =
    with_demand_row c.args.self.now c.change-was.new.self c.args.row c.requires.parts c.requires.row c.in-Ok.ensures.ok c.rows-rows.ensures.kept c.change-was.ensures.tabled
