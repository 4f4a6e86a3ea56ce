use Rattle.ltm_check.proofs.Telling.{loading_told}
use Rattle.ltm_check.proofs.written.loading_is_told.Goals as goal

pub returns : goal.returns
returns c = loading_told c.counts_small.ensures c.set_by_one_pair.ensures c.kept_answers_alike.ensures c.written_is_read.ensures
