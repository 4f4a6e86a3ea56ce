use Rattle.std.proofs.Common.{ℕ, ◌*◌, ◌/◌, ◌+◌, List, arith, ◌∙◌, ap, length, slice_index}
use Rattle.std.proofs.lemmas.List.{length-replicate}
use Rattle.ltm_marks.proofs.Bits.{none_marked, zero_at}
use Rattle.ltm_marks.proofs.marks.Marks.create.Goals as goal

pub invariant_of-result : goal.invariant_of-result
invariant_of-result c = record {
  narrow = c.requires.width;
  words_are = omega arith;
  within = omega arith;
  few = c.requires.rows;
  long = ap (λ (xs : List ℕ). length xs) c.in_ok-bits.ensures ∙ length-replicate {A = ℕ} (c.args.rows * (c.args.width / 64 + 1)) 0;
  rest = λ i l. ap (λ (xs : List ℕ). slice_index xs i) c.in_ok-bits.ensures ∙ zero_at (c.args.rows * (c.args.width / 64 + 1)) i;
}

pub returns-clause-none : goal.returns-clause-none
returns-clause-none c = λ w v. none_marked _ (c.args.rows * (c.args.width / 64 + 1)) w v c.in_ok-bits.ensures
