use Rattle.ltm_setting.specs.Setting.{setting_of}
use Rattle.ltm_working.specs.Desks.{desk_at}
use Rattle.ltm_working.proofs.Searches.{found_answers}
use Rattle.ltm_working.proofs.table.Table.claim.Goals as goal

pub take-requires-clause-found : goal.take-requires-clause-found
take-requires-clause-found c = c.in-Work.ensures.finds.1

pub returns-in-Work-clause-answer : goal.returns-in-Work-clause-answer
returns-in-Work-clause-answer c = λ ticket.
    let s = setting_of c.args.scenario.now in
    found_answers s (desk_at s c.args.self.now) c.find.new.self c.in-Work.pair.node.0 c.in-Work.pair.slot ticket c.find.new.inputs _ _ c.in-Work.ensures.finds.0 c.in-Work.ensures.finds.1 c.take.ensures.takes

pub returns-in-Work-clause-fits : goal.returns-in-Work-clause-fits
returns-in-Work-clause-fits c = (c.take.ensures.shape, c.take.ensures.solvable)
