use Rattle.std.proofs.Common.{rules, length, slice_index, sym}
use Rattle.std.proofs.lemmas.List.{get_or-replicate}
use Rattle.ltm_units.proofs.Sums.{sum_below-zero}
use Rattle.ltm_lean.proofs.mail.Mail.clear.Goals as goal

pub invariant_of-self : goal.invariant_of-self
invariant_of-self c = record { whole = sym (sum_below-zero (length c.fill.new.self.items) (slice_index c.fill.new.self.items) (λ k l. search (rules, get_or-replicate))) }
