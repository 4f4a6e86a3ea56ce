use Rattle.std.proofs.Common.{rules}
use Rattle.std.proofs.lemmas.List.Sorted.{answers_always}
use Rattle.ltm_splits.proofs.Place.{searched}
use Rattle.ltm_splits.proofs.pair_rows.PairRows.search.Goals as goal

-- the closure gives a row's first slot, and the slice is the pair's rows
pub returns-clause-found : goal.returns-clause-found
returns-clause-found c =
    let facts = c.binary_search_by_key.ensures in
    let by_start = facts.position (λ e. e.0) (answers_always _ _ _ (λ f a r g called. search rules)) in
    rw (← c.self.view_is, ← c.as_slice.ensures) (searched _ (rw c.as_slice.ensures c.self.invariant) c.args.from _ facts.bound by_start).found

pub returns-clause-gap : goal.returns-clause-gap
returns-clause-gap c =
    let facts = c.binary_search_by_key.ensures in
    let by_start = facts.position (λ e. e.0) (answers_always _ _ _ (λ f a r g called. search rules)) in
    rw (← c.self.view_is, ← c.as_slice.ensures) (searched _ (rw c.as_slice.ensures c.self.invariant) c.args.from _ facts.bound by_start).gap
