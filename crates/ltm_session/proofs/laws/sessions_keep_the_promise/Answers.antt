use Rattle.ltm_session.proofs.Kept.{outputs_keep, fronts_keep}
use Rattle.ltm_session.proofs.laws.sessions_keep_the_promise.Goals as goal

pub returns-clause-whole : goal.returns-clause-whole
returns-clause-whole c = outputs_keep c.logs_tell_all.ensures

pub returns-clause-fronts : goal.returns-clause-fronts
returns-clause-fronts c = fronts_keep c.logs_tell_all.ensures
