use Rattle.std.proofs.Common.{◌<◌, length}
use Rattle.ltm_gap.proofs.dealing.least.Given as goal

abbrev pub invariant-loop-place : goal.invariant-loop-place
invariant-loop-place l = l.least < length l.loads
