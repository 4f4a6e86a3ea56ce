-- What work without other workers does to a core.
use Rattle.std.specs.Prelude.{◌≡◌, ℕ, ◌+◌, ◌-◌, ◌<◌, ◌^◌, min, Bool, true, false, List, length}
use Rattle.ltm_flows.specs.Counts.{Counts}
use Rattle.ltm_core.specs.Loading.{IsLoading}
use Rattle.ltm_core.specs.Differing.{differing}
use Rattle.ltm_repair.specs.Events.{CoreEvent}
use Rattle.ltm_repair.specs.Runs.{in_all, work_in, commits_in}
use Rattle.ltm_core.specs.Log.{settled_of}
use Rattle.ltm_core.specs.Settling.{setting_at}
use Rattle.ltm_core.specs.Cores.{CoreData, IsResting, IsNoneOut, left_of, undone_of}
use Rattle.ltm_core.specs.Runs.{setting_in, WorksOn}

-- all but the table, the count of commits and the history stays
abbrev pub KeepsButWork : CoreData → CoreData → Type 0
KeepsButWork old new = new ≡ record old { table = new.table; commits = new.commits; history = new.history }

-- each event is a worker's: a claim with or without a pair, a give-back or a commit
abbrev pub AreWork : List CoreEvent → Type 0
AreWork events = in_all work_in events ≡ length events

-- only work happened; the count of commits rose by the commits among them, and the counter of steps too,
-- up to the greatest number that it has; no claim is out
pub record Works (old : CoreData) (before : ℕ) (new : CoreData) (after : ℕ) : Type 0 where
  pub events : List CoreEvent
  pub run : WorksOn old events new
  pub work : AreWork events
  pub commits : new.commits ≡ old.commits + commits_in events
  pub steps : after ≡ min (before + commits_in events) (2 ^ 64 - 1)
  pub keeps : KeepsButWork old new
  pub none_out : IsNoneOut new

-- the commits are the pairs whose kept inputs were not those of the loading
abbrev pub CountsLeft : CoreData → CoreData → Type 0
CountsLeft old new = (c : Counts) → IsLoading (setting_in old) c → new.commits ≡ old.commits + left_of old c

-- where none was made since the last settle count, the commits are the pairs by which the loading differs from the settled
-- one
abbrev pub CountsDifferences : CoreData → CoreData → Type 0
CountsDifferences old new =
    old.commits ≡ 0 → (before after : Counts) → IsLoading (setting_at old.log (settled_of old.log)) before → IsLoading (setting_in old) after →
    new.commits ≡ differing (setting_at old.log (settled_of old.log)) (setting_in old) before after

-- whether a pair was claimed and committed, so that fewer are left; else none was left
abbrev pub TellsStep : CoreData → ℕ → Bool → CoreData → ℕ → Type 0
TellsStep old before true new after = Works old before new after × (undone_of new < undone_of old)
TellsStep old before false new after = Works old before new after × IsResting new
