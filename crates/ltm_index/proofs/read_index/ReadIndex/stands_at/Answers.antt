use Rattle.std.proofs.Common.{ap, ◌∙◌}
use Rattle.ltm_index.proofs.Indexed.{stands_there}
use Rattle.ltm_index.proofs.read_index.ReadIndex.stands_at.Goals as goal

pub returns : goal.returns
returns c = stands_there c.args.self.now c.args.link.0 c.args.slot c.args.boundary c.from.result (c.from.ensures ∙ ap (λ x. x.entry) c.get.ensures)
