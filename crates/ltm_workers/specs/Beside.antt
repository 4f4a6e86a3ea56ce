-- What is done to a core in one held turn, and what a settle beside workers is.
use Rattle.std.specs.Prelude.{◌≡◌, ◌+◌, ◌<◌, ◌≤◌, ℕ, List, true, false}
use Rattle.ltm_flows.specs.Shown.{version_of}
use Rattle.ltm_repair.specs.Answers.{AnswersClaim}
use Rattle.ltm_repair.specs.Events.{Settle}
use Rattle.ltm_repair.specs.Making.{claim_event}
use Rattle.ltm_core.specs.declared.answers.Published.{Published}
use Rattle.ltm_core.specs.declared.entry.LogEntry.{LogEntry}
use Rattle.ltm_core.specs.Log.{Log, with_mark, version_now}
use Rattle.ltm_core.specs.Told.{TellsLog, marks_in}
use Rattle.ltm_core.specs.Settling.{IsSettleCount}
use Rattle.ltm_core.specs.Cores.{CoreData, repair_of}
use Rattle.ltm_core.specs.CoreAnswers.{answer_in, KeepsAll, Adds, TellsPublish}
use Rattle.ltm_workers.specs.declared.events.Look.{Look}
use Rattle.ltm_workers.specs.declared.events.Look.TheVariants.{Stopped, Found}

-- a stopped core is left as it is; of another a pair is claimed, and no more is done: its history has this claim more
abbrev pub Looks : CoreData → Look → CoreData → Type 0
Looks old (Stopped scratch) new = (old.stopped ≡ true) × (new ≡ old)
Looks old (Found claimed) new = (old.stopped ≡ false) × AnswersClaim (repair_of old) (answer_in claimed) (repair_of new) × KeepsAll old new × Adds old (claim_event (answer_in claimed)) new

-- a stopped core is left as it is, and one that shows all batches; of another the working counts are shown, where it rests
pub record ShowsRunning (old new : CoreData) : Type 0 where
  pub stopped : old.stopped ≡ true → new ≡ old
  pub up_to_date : version_of old.shown ≡ version_now old.log → new ≡ old
  pub behind : old.stopped ≡ false → version_of old.shown < version_now old.log → (answer : Published) × TellsPublish old answer new

-- so many commits were counted: a settle count of the log, after which a mark is put; all batches are shown
pub record CountsCommits (old : CoreData) (version count : ℕ) (new : CoreData) : Type 0 where
  pub counts : IsSettleCount old.log count
  pub all : version ≡ version_now old.log
  pub shown : version_of old.shown ≡ version
  pub log : new.log ≡ with_mark old.log
  pub adds : Adds old (Settle count) new

-- a settle beside workers, by the list that its editor found and the list that it left: so many batches are settled, with
-- this count; a mark is put into the log, and one settle more was counted; the editor has seen all batches shown
unfoldable pub SettlesBeside : List LogEntry → ℕ → ℕ → List LogEntry → ℕ → Type 0
SettlesBeside list version count list' seen' = (log : Log) × TellsLog list log × IsSettleCount log count × (version ≡ version_now log)
    × TellsLog list' (with_mark log) × (marks_in list' ≡ marks_in list + 1) × (version_now log ≤ seen')
