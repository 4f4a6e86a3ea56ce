use Rattle.std.proofs.Common.{length, arith, inl, inr}
use Rattle.std.proofs.lemmas.Bool.{cases_lt}
use Rattle.std.proofs.lemmas.List.{get_or_past}
use Rattle.ltm_marks.proofs.Bits.{none_from_word}
use Rattle.ltm_marks.proofs.marks.Marks.clear.Goals as goal

pub returns-clause-none : goal.returns-clause-none
returns-clause-none c = λ place row. none_from_word _ 0 place row (λ i l. elim (cases_lt i (length c.clear_bits.new.bits.items)) [
  | inl low ↦ c.clear_bits.ensures.none i (omega (arith, low, c.clear_bits.ensures.count))
  | inr past ↦ get_or_past c.clear_bits.new.bits.items i 0 past
]) (omega arith)
