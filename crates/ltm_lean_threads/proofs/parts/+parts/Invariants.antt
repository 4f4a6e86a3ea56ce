use Rattle.std.proofs.Common.{◌+◌, ◌-◌, ◌*◌, length}
use Rattle.ltm_lean_threads.proofs.parts.+parts.Given as goal

abbrev pub decreases-move_both-first : goal.decreases-move_both-first
decreases-move_both-first g l = 3 * length l.low.now + 1

abbrev pub decreases-move_both-second : goal.decreases-move_both-second
decreases-move_both-second g l = 3 * length l.high.now + 1

abbrev pub decreases-move_both : goal.decreases-move_both
decreases-move_both g l = 3 * (length l.low.now + length l.high.now) - 1

abbrev pub decreases-move_parts : goal.decreases-move_parts
decreases-move_parts g l = 3 * length l.parts.now
