use Rattle.std.proofs.Common.{◌∙◌}
use Rattle.ltm_index.proofs.Indexed.{left_told, stands_told, within_told}
use Rattle.ltm_index.proofs.read_index.ReadIndex.next_reader.Goals as goal

pub returns-clause-left : goal.returns-clause-left
returns-clause-left c = left_told c.args.self.now c.args.link.0 c.args.boundary c.args.after _ c.requires.link (c.slot_named.ensures ∙ c.pointer_after.ensures)

pub returns-clause-stands : goal.returns-clause-stands
returns-clause-stands c = stands_told c.args.self.now c.args.link.0 c.args.boundary c.args.after _ (c.slot_named.ensures ∙ c.pointer_after.ensures)

pub returns-clause-within : goal.returns-clause-within
returns-clause-within c = within_told c.args.self.now c.args.link.0 c.args.boundary c.args.after _ c.requires.link (c.slot_named.ensures ∙ c.pointer_after.ensures)
