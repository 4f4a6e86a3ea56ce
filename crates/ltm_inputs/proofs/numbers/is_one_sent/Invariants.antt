use Rattle.std.proofs.Common.{◌≡◌, ℕ, ◌<◌, slice_index}
use Rattle.ltm_inputs.proofs.numbers.is_one_sent.Given as goal

abbrev pub invariant-loop-amount : goal.invariant-loop-amount
invariant-loop-amount l = (k : ℕ) → k < l.amount-index → slice_index l.amounts k ≡ 0
