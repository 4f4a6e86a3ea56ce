-- How a core stands between two lines of a session without workers.
use Rattle.std.specs.Prelude.{◌≡◌}
use Rattle.ltm_flows.specs.Shown.{version_of}
use Rattle.ltm_core.specs.Log.{settled_of}
use Rattle.ltm_core.specs.Cores.{CoreData, IsNoneOut}

-- no claim is out, no commit was made since the last settle, and what was settled last is shown
pub record AwaitsLine (d : CoreData) : Type 0 where
  pub none_out : IsNoneOut d
  pub uncounted : d.commits ≡ 0
  pub shown : version_of d.shown ≡ settled_of d.log
