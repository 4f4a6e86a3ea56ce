use Rattle.std.proofs.Common.{◌≡◌, ℕ, ◌/◌, ◌%◌, ◌<◌, get_or, vec_len}
use Rattle.ltm_limits.specs.Tables.{wide_at}
use Rattle.ltm_limits.proofs.limits.widened.Given as goal

abbrev pub invariant-loop-place : goal.invariant-loop-place
invariant-loop-place l = record {
  len : vec_len l.wide ≡ l.place;
  limits : (k : ℕ) → k < l.place → get_or l.wide.items k 0 ≡ wide_at l.table l.links (k / l.wide_links) (k % l.wide_links);
}
