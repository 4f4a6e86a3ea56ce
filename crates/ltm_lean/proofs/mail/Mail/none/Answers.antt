use Rattle.std.proofs.Common.{rules, length, slice_index, sym}
use Rattle.std.proofs.lemmas.List.{get_or-replicate}
use Rattle.ltm_units.proofs.Sums.{sum_below-zero}
use Rattle.ltm_lean.proofs.mail.Mail.none.Goals as goal

pub invariant_of-result : goal.invariant_of-result
invariant_of-result c = record { whole = sym (sum_below-zero (length c.in_ok-numbers.numbers.items) (slice_index c.in_ok-numbers.numbers.items) (λ k l. search (rules, get_or-replicate))) }
