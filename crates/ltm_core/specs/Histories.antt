-- The history of a core: the events that led to it since it began.
use Rattle.std.specs.Prelude.{◌≡◌, List, [], ◌∷◌, reverse}
use Rattle.ltm_repair.specs.Events.{CoreEvent, Look, Claim, GiveBack, Commit, Accept, Publish, Settle}
use Rattle.ltm_repair.specs.Runs.{CoreRun}
use Rattle.ltm_core.specs.declared.history.Event.{Event}
use Rattle.ltm_core.specs.declared.history.Event.TheVariants as done
use Rattle.ltm_core.specs.declared.history.History.{History, None, Then'}
use Rattle.ltm_core.specs.Cores.{CoreData, repair_of, IsCore}
use Rattle.ltm_core.specs.CoreAnswers.{IsOpeningCore}
use Rattle.ltm_core.specs.Told.{done_to, log_by}

-- an event of a core as one of a repair
abbrev pub event_of : Event → CoreEvent
event_of done.Look = Look
event_of (done.Claim pair) = Claim pair.node.0 pair.slot
event_of (done.GiveBack pair) = GiveBack pair.node.0 pair.slot
event_of (done.Commit pair) = Commit pair.node.0 pair.slot
event_of done.Accept = Accept
event_of done.Publish = Publish
event_of (done.Settle count) = Settle count

-- the events, the newest first
abbrev pub events_of : History → List CoreEvent
events_of None = []
events_of (Then' event at before) = event_of event.value ∷ events_of before

-- a core that began with the opening scenario of its log became this one by the events of its history, and by no other; its
-- log is that of the batches and the settles among them
pub record CameBy (d : CoreData) : Type 0 where
  pub first : CoreData
  pub core : IsCore first
  pub begins : IsOpeningCore d.log.opening first
  pub run : CoreRun (repair_of first) (reverse d.history) (repair_of d)
  pub log : d.log ≡ log_by d.log.opening (done_to d)
