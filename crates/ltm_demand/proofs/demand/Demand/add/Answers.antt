use Rattle.std.proofs.Common.{◌≡◌, ◌<◌, length, arith, ap, ◌∙◌}
use Rattle.ltm_demand.specs.Rows.{DemandState, edited_rows}
use Rattle.ltm_demand.proofs.Restoring.{with_row_over, length_filled, none_stands}
use Rattle.ltm_demand.proofs.demand.Demand.add.Goals as goal

pub returns-then-self-clause-cause : goal.returns-then-self-clause-cause
returns-then-self-clause-cause c = λ _.
    let rows = c.args.self.now.demand.rows in
    let count : c.self.inside.count ≡ length rows = c.self.invariant.counted ∙ ap (λ (d : DemandState). length d.demand.rows) c.self.view_is in
    let most : c.self.inside.most_rows ≡ c.args.self.now.demand.most_rows = ap (λ (d : DemandState). d.demand.most_rows) c.self.view_is in
    let many : c.args.self.now.demand.most_rows < length (edited_rows rows c.args.row.now) = omega (arith, length_filled rows c.args.row.now c.args.place c.requires.gap c.requires.some, count, most, c.if-self.true) in
    with_row_over c.args.self.now.demand c.args.row.now c.requires.slots many

pub returns-then-self-clause-was : goal.returns-then-self-clause-was
returns-then-self-clause-was c = none_stands c.args.self.now.demand.rows c.args.row.now c.args.place c.requires.gap

pub returns-in_err-make_room-clause-was : goal.returns-in_err-make_room-clause-was
returns-in_err-make_room-clause-was c = none_stands c.args.self.now.demand.rows c.args.row.now c.args.place c.requires.gap

pub returns-clause-was : goal.returns-clause-was
returns-clause-was c = none_stands c.args.self.now.demand.rows c.args.row.now c.args.place c.requires.gap
