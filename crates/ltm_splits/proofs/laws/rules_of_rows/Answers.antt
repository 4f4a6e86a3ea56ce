use Rattle.ltm_splits.proofs.Meaning.{start_forth, start_back, none_forth, none_back, latest_if}
use Rattle.ltm_splits.proofs.laws.rules_of_rows.Goals as goal

pub returns-clause-start : goal.returns-clause-start
returns-clause-start c = λ rows ordered n d. (start_forth n d rows, start_back n d rows ordered)

pub returns-clause-none : goal.returns-clause-none
returns-clause-none c = λ rows ordered n d t. (none_forth n d t rows, none_back n d t rows ordered)

pub returns-clause-greatest : goal.returns-clause-greatest
returns-clause-greatest c = λ rows ordered n d t. latest_if n d t rows ordered
