use Rattle.std.proofs.Common.{ℕ, ◌*◌, ap, ◌∙◌}
use Rattle.std.specs.Prelude.{replicate}
use Rattle.ltm_rows.proofs.KeptPlaces.{zero_amounts}
use Rattle.ltm_rows.proofs.rows.KeptRows.create.Goals as goal

pub returns-clause-zeros : goal.returns-clause-zeros
returns-clause-zeros c = λ u t x l. zero_amounts _ u t (c.in_ok-amounts.ensures ∙ ap (λ (w : ℕ). replicate (c.args.slots * w) 0) c.slot_width.ensures.value) x l
