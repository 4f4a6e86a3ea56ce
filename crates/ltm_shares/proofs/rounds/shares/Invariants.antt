use Rattle.std.proofs.Common.{◌≡◌, ◌<◌, ℕ, slice_index, length}
use Rattle.ltm_shares.specs.Demands.{demands_of}
use Rattle.ltm_shares.specs.Rounds.{IsSound, open_arms}
use Rattle.ltm_shares.proofs.rounds.shares.Given as goal

abbrev pub invariant-loop-out : goal.invariant-loop-out
invariant-loop-out l = (length l.left ≡ 4) × ((j : ℕ) → j < l.out → slice_index l.left j ≡ slice_index l.demands.supply j)

abbrev pub invariant-loop-out-2 : goal.invariant-loop-out-2
invariant-loop-out-2 l = IsSound (demands_of l.demands) l.progress

abbrev pub decreases-loop-out-2 : goal.decreases-loop-out-2
decreases-loop-out-2 l = open_arms (demands_of l.demands) l.progress
