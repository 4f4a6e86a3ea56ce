use Rattle.std.proofs.Common.{sym, ◌∙◌}
use Rattle.std.proofs.lemmas.List.{append_assoc, length-append}
use Rattle.ltm_rows.specs.Parts.{amounts_in, row_of_parts}
use Rattle.ltm_rows.proofs.KeptPlaces.{length_row, keeps_other, keeps_this}
use Rattle.ltm_rows.proofs.rows.KeptRows.keeps.Goals as goal

pub returns-then-not-keeps_amounts : goal.returns-then-not-keeps_amounts
returns-then-not-keeps_amounts c =
    keeps_other c.args.self.now c.args.node c.args.slot (amounts_in c.args.parts) c.args.parts.weights.now (row_of_parts c.args.parts) c.keeps_amounts.result
    (length_row c.args.self.now c.args.node c.args.slot c.requires.node c.requires.slot ∙ (sym c.requires.amounts ∙ sym (length-append c.args.parts.sends.now c.args.parts.limits.now)))
    (sym (append_assoc c.args.parts.sends.now c.args.parts.limits.now c.args.parts.weights.now)) c.keeps_amounts.ensures c.if-not-keeps_amounts.true

pub returns : goal.returns
returns c =
    keeps_this c.args.self.now c.args.node c.args.slot (amounts_in c.args.parts) c.args.parts.weights.now (row_of_parts c.args.parts) c.same_row.result (c.keeps_amounts.ensures.0 c.if-not-keeps_amounts.false)
    (sym (append_assoc c.args.parts.sends.now c.args.parts.limits.now c.args.parts.weights.now)) (rw (← c.weights.ensures.row) c.same_row.ensures)
