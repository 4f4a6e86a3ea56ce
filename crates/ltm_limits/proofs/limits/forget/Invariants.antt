use Rattle.std.proofs.Common.{◌≡◌, ℕ, ◌<◌, ◌≤◌, get_or, vec_len}
use Rattle.ltm_limits.specs.Limits.{never_set}
use Rattle.ltm_limits.proofs.limits.forget.Given as goal

abbrev pub invariant-loop-place : goal.invariant-loop-place
invariant-loop-place l = record {
  len : vec_len l.table ≡ vec_len l.initial.table;
  same : (k : ℕ) → k < l.from → get_or l.table.items k never_set ≡ get_or l.initial.table.items k never_set;
  unset : (k : ℕ) → l.from ≤ k → k < l.place → get_or l.table.items k never_set ≡ never_set;
}
