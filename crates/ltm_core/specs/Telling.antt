-- What the list that a core tells says of it, and how it grows.
use Rattle.std.specs.Prelude.{◌≡◌, ℕ, ◌+◌, List, [], ◌∷◌, ◌++◌}
use Rattle.ltm_scenario.specs.declared.edit.Edit.{Edit}
use Rattle.ltm_repair.specs.Events.{CoreEvent, Settle}
use Rattle.ltm_repair.specs.Runs.{batch_in}
use Rattle.ltm_core.specs.declared.entry.LogEntry.{LogEntry}
use Rattle.ltm_core.specs.declared.entry.LogEntry.TheVariants.{Accepted, Mark}
use Rattle.ltm_core.specs.Log.{Log, with_mark}
use Rattle.ltm_core.specs.Cores.{CoreData}
use Rattle.ltm_core.specs.CoreAnswers.{Adds, AcceptsBatch}
use Rattle.ltm_core.specs.Histories.{CameBy}
use Rattle.ltm_core.specs.Told.{settle_in, settles_of, told_of, TellsLog, marks_in}

-- neither a batch nor a settle
abbrev pub IsNoEditors : CoreEvent → Type 0
IsNoEditors x = batch_in x + settle_in x ≡ 0

pub record ListLaws : Type 0 where
  -- it is that of the core's log, of no other, and of as many settles as the core has counted
  pub log : (d : CoreData) → CameBy d → TellsLog (told_of d) d.log
  pub one : (list : List LogEntry) (a b : Log) → TellsLog list a → TellsLog list b → a ≡ b
  pub settles : (d : CoreData) → marks_in (told_of d) ≡ settles_of d
  -- a batch and a settle put an entry at its end, and nothing else changes it
  pub batch : (d e : CoreData) (batch : List Edit) → AcceptsBatch d batch e → told_of e ≡ told_of d ++ Accepted batch ∷ []
  pub settle : (d e : CoreData) (count : ℕ) → e.log ≡ with_mark d.log → Adds d (Settle count) e
      → told_of e ≡ told_of d ++ Mark ∷ []
  pub stays : (d e : CoreData) (x : CoreEvent) → e.log ≡ d.log → Adds d x e → IsNoEditors x → told_of e ≡ told_of d
