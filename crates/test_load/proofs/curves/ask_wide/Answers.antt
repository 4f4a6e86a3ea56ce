use Rattle.std.proofs.Common.{ℕ, arith}
use Rattle.std.proofs.lemmas.List.{get_or-replicate}
use Rattle.test_load.proofs.curves.ask_wide.Goals as goal

pub set_row-requires-clause-small : goal.set_row-requires-clause-small
set_row-requires-clause-small g c d l = omega (arith, get_or-replicate {A = ℕ} 256 d 2147483647 0 l)
