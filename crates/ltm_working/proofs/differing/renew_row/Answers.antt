use Rattle.std.proofs.Common.{sym, ◌∙◌, ◌+◌, arith}
use Rattle.std.proofs.lemmas.Grind.{common_steps}
use Rattle.std.proofs.lemmas.Bool.{false≢true}
use Rattle.ltm_curve.specs.Table.{destinations_of, counts_of}
use Rattle.ltm_working.proofs.Noting.{row_like, row_unlike}
use Rattle.ltm_working.proofs.Renewals.{row_stands}
use Rattle.ltm_working.proofs.differing.renew_row.Goals as goal

pub returns-then-same_numbers : goal.returns-then-same_numbers
returns-then-same_numbers c = record {
  value = sym (row_like (destinations_of c.args.curves.now) c.row.result.now (λ d. counts_of c.args.curves.now c.args.group d (c.args.slot + 1)) c.args.counts.now c.row.ensures.counts (c.same_numbers.ensures.0 c.if-same_numbers.true));
  sets = row_stands c.args.curves.now c.args.group (c.args.slot + 1) c.row.result.now c.args.counts.now c.row.ensures.counts (c.same_numbers.ensures.0 c.if-same_numbers.true);
  cells = record { shape = search; each = λ h k cell. grind (arith, common_steps) };
}

pub returns : goal.returns
returns c = record {
  value = sym (row_unlike (destinations_of c.args.curves.now) c.row.result.now (λ d. counts_of c.args.curves.now c.args.group d (c.args.slot + 1)) c.args.counts.now c.row.ensures.count c.requires.count c.row.ensures.counts
      (λ same. absurd (false≢true (sym c.if-same_numbers.false ∙ c.same_numbers.ensures.1 same))));
  sets = c.set_row.ensures;
  cells = record { shape = search; each = λ h k cell. grind (arith, common_steps) };
}
