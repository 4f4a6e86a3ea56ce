-- A settle without workers, and its steps.
use Rattle.std.specs.Prelude.{◌≡◌, ℕ}
use Rattle.ltm_flows.specs.Shown.{version_of}
use Rattle.ltm_core.specs.Log.{version_now}
use Rattle.ltm_core.specs.Cores.{CoreData, IsResting}
use Rattle.ltm_core.specs.Told.{settles_of}
use Rattle.ltm_workers.specs.Draining.{CountsDifferences}
use Rattle.ltm_session.specs.Analysts.{state_of, settled}
use Rattle.ltm_session.specs.Answers.{CountsAlone}
use Rattle.ltm_session.specs.Ready.{AwaitsLine}

-- all pairs are worked on, and the commits are the pairs that differ from what was settled last
pub record IsRepaired (old new : CoreData) : Type 0 where
  pub log : new.log ≡ old.log
  pub shown : new.shown ≡ old.shown
  pub rest : IsResting new
  pub counts : CountsDifferences old new
  pub settles : settles_of new ≡ settles_of old

-- the loading of all batches is shown
pub record IsShowing (old new : CoreData) : Type 0 where
  pub log : new.log ≡ old.log
  pub shown : version_of new.shown ≡ version_now old.log
  pub commits : new.commits ≡ old.commits
  pub settles : settles_of new ≡ settles_of old

-- a settle without workers: all batches are shown and settled, the count is exact, and one settle more was counted
pub record SettlesAlone (old : CoreData) (n : ℕ) (new : CoreData) : Type 0 where
  pub state : state_of new ≡ settled (state_of old)
  pub count : CountsAlone old.log n
  pub rest : IsResting new
  pub awaits : AwaitsLine new
