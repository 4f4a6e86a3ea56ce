use Rattle.ltm_command.proofs.Answering.{joined, routes_told, file_of}
use Rattle.ltm_command.proofs.answer.routes.Goals as goal

pub returns-clause-text : goal.returns-clause-text
returns-clause-text g c =
    joined c.route_text.result _ _ _ (λ text says file. routes_told c.args.lines _ text.items says file) c.route_text.ensures.text (file_of c.args.lines _ (λ text. text.items) c.route_text.result c.route_text.ensures.splits c.route_text.ensures.times)
