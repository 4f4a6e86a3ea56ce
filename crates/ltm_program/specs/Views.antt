-- What a session that viewers look on at writes.
use Rattle.std.specs.Prelude.{ℕ}
use Rattle.ltm_session.specs.Analysts.{Analysts, opening_state}
use Rattle.ltm_session_viewers.specs.View.{IsView}
use Rattle.ltm_program.specs.Sessions.{Outputs}

-- the outputs of a session that so many viewers look on at
abbrev pub IsViewed : ℕ → Outputs
IsViewed viewers script left s end output = (t : Analysts) × IsView viewers (opening_state s 0) script left end output t
