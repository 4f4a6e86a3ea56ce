use Rattle.ltm_times.proofs.WasReady.{queues_stand_on_links_holds}
use Rattle.ltm_times.proofs.laws.queues_stand_on_links.Goals as goal

pub returns : goal.returns
returns c = queues_stand_on_links_holds c.never_fall.ensures c.within_storage.ensures
