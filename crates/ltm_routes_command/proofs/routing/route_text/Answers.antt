use Rattle.ltm_routes_command.proofs.Kept.{splits_told, fault_told}
use Rattle.ltm_routes_command.proofs.routing.route_text.Goals as goal

pub returns-in-Ok-clause-splits : goal.returns-in-Ok-clause-splits
returns-in-Ok-clause-splits g c = λ splits. splits_told c.routes_settle.ensures.settled (g.F.Folder.told c.args.folder.now) c.in-Ok.roads (λ text. text.items) c.text_over.result c.in-Ok.ensures.ok c.text_over.ensures.scenario (c.text_over.ensures.splits splits)

pub returns-in-Ok-clause-fault : goal.returns-in-Ok-clause-fault
returns-in-Ok-clause-fault g c = fault_told c.args.lines (g.F.Folder.told c.args.folder.now) c.in-Ok.roads c.text_over.result c.in-Ok.ensures.ok c.text_over.ensures.fault
