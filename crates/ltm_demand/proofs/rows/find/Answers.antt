use Rattle.std.proofs.Common.{rules}
use Rattle.std.proofs.lemmas.Fn.{always_returns_same}
use Rattle.ltm_demand.specs.Rows.{row_cmp}
use Rattle.ltm_demand.proofs.Found.{searched}
use Rattle.ltm_demand.proofs.rows.find.Goals as goal

pub returns-clause-found : goal.returns-clause-found
returns-clause-found c =
    let facts = c.binary_search_by.ensures in
    (searched c.args.rows.now c.requires c.args.row.now _ facts.bound (facts.position (λ r. row_cmp r c.args.row.now) (always_returns_same _ _ _ (λ a r g called. (search rules, search rules))))).found

pub returns-clause-absent : goal.returns-clause-absent
returns-clause-absent c =
    let facts = c.binary_search_by.ensures in
    (searched c.args.rows.now c.requires c.args.row.now _ facts.bound (facts.position (λ r. row_cmp r c.args.row.now) (always_returns_same _ _ _ (λ a r g called. (search rules, search rules))))).absent
