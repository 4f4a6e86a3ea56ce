use Rattle.std.proofs.Common.{sym, ◌∙◌, arith}
use Rattle.std.proofs.lemmas.Grind.{common_steps}
use Rattle.std.proofs.lemmas.Bool.{false≢true}
use Rattle.ltm_working.proofs.Counted.{moved_like, moved_unlike}
use Rattle.ltm_working.proofs.differing.renew_many.Goals as goal

pub returns-then-not-move_row : goal.returns-then-not-move_row
returns-then-not-move_row c = record {
  value = sym (moved_like c.args.curves.now c.args.changed.now c.args.group c.args.slot c.args.moves.now c.requires.row (c.move_row.ensures.same.0 c.if-not-move_row.true));
  sets = c.move_row.ensures.sets;
  cells = record { shape = search; each = λ h k cell. grind (arith, common_steps) };
}

pub returns : goal.returns
returns c = record {
  value = sym (moved_unlike c.args.curves.now c.args.changed.now c.args.group c.args.slot c.args.moves.now c.requires.row (λ same. absurd (false≢true (sym (c.move_row.ensures.same.1 same) ∙ c.if-not-move_row.false))));
  sets = c.move_row.ensures.sets;
  cells = record { shape = search; each = λ h k cell. grind (arith, common_steps) };
}
