use Rattle.ltm_casefile.proofs.Headers.{headers_are_taken, columns_are_at_their_names}
use Rattle.ltm_casefile.proofs.laws.headers_are_read.Goals as goal

pub returns-clause-taken : goal.returns-clause-taken
returns-clause-taken c = headers_are_taken

pub returns-clause-names : goal.returns-clause-names
returns-clause-names c = columns_are_at_their_names
