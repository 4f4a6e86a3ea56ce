use Rattle.ltm_loading.specs.Groups.{up_of, down_of}
use Rattle.std.proofs.Common.{length}
use Rattle.ltm_standing.specs.Listed.{listed}
use Rattle.ltm_standing.proofs.Moves.{leaves_keeps}
use Rattle.ltm_standing.proofs.standing.Standing.leave.Goals as goal

pub returns-clause-stands : goal.returns-clause-stands
returns-clause-stands c counts l k t ds gone h =
    leaves_keeps (length ds) (listed counts (up_of l) ds) (listed counts (down_of l) ds) k t c.args.self.now c.lose.new.self c.args.left.now c.lose.ensures gone h
