use Rattle.ltm_program.proofs.Headlines.{headline, headline_of_fronts, headline_of_views}
use Rattle.ltm_program.proofs.laws.the_promise_is_kept.Goals as goal

pub returns-clause-well : goal.returns-clause-well
returns-clause-well c = headline c.sessions_say.ensures c.sessions_keep_the_promise.ensures.whole

pub returns-clause-fronts : goal.returns-clause-fronts
returns-clause-fronts c = headline_of_fronts c.sessions_keep_the_promise.ensures.fronts

pub returns-clause-views : goal.returns-clause-views
returns-clause-views c = headline_of_views c.sessions_say.ensures c.sessions_keep_the_promise.ensures.whole
