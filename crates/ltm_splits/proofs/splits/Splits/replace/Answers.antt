use Rattle.std.proofs.Common.{◌≡◌, arith, sym, ap, ◌∙◌, subst}
use Rattle.std.specs.Option.{is_some}
use Rattle.ltm_splits.specs.Rows.{SplitsData, row_of, put_back}
use Rattle.ltm_splits.specs.Table.{rows_of_all}
use Rattle.ltm_splits.proofs.Kept.{replaced, rows_clause}
use Rattle.ltm_splits.proofs.splits.Splits.replace.Goals as goal

pub invariant_of-self : goal.invariant_of-self
invariant_of-self c =
    let r = replaced c.self.inside.table c.args.key.node.0 c.args.key.destination c.args.key.from c.args.weights c.replace.result c.replace.new.self c.replace.ensures.stood c.replace.ensures.rows c.self.invariant.0 c.requires c.self.invariant.2 in
    (r.ordered, c.self.invariant.1 ∙ sym r.count, r.weighted, omega (arith, r.count, c.self.invariant.3))

pub returns-clause-stood : goal.returns-clause-stood
returns-clause-stood c =
    let r = replaced c.self.inside.table c.args.key.node.0 c.args.key.destination c.args.key.from c.args.weights c.replace.result c.replace.new.self c.replace.ensures.stood c.replace.ensures.rows c.self.invariant.0 c.requires c.self.invariant.2 in
    r.stood ∙ ap (λ v. is_some (row_of v.rows c.args.key)) c.self.view_is

pub returns-clause-rows : goal.returns-clause-rows
returns-clause-rows c =
    let r = replaced c.self.inside.table c.args.key.node.0 c.args.key.destination c.args.key.from c.args.weights c.replace.result c.replace.new.self c.replace.ensures.stood c.replace.ensures.rows c.self.invariant.0 c.requires c.self.invariant.2 in
    rows_clause c.self.inside.slots c.self.inside.most_rows (rows_of_all c.self.inside.table) (rows_of_all c.replace.new.self) c.args.self.now c.args.key c.args.weights c.replace.result r.rows c.self.view_is

pub returns-clause-back : goal.returns-clause-back
returns-clause-back c =
    let r = replaced c.self.inside.table c.args.key.node.0 c.args.key.destination c.args.key.from c.args.weights c.replace.result c.replace.new.self c.replace.ensures.stood c.replace.ensures.rows c.self.invariant.0 c.requires c.self.invariant.2 in
    λ stands. subst (λ (v : SplitsData). put_back (rows_of_all c.replace.new.self) c.args.key (row_of v.rows c.args.key) ≡ v.rows) c.self.view_is (r.back stands)

pub returns-clause-stands : goal.returns-clause-stands
returns-clause-stands c =
    let r = replaced c.self.inside.table c.args.key.node.0 c.args.key.destination c.args.key.from c.args.weights c.replace.result c.replace.new.self c.replace.ensures.stood c.replace.ensures.rows c.self.invariant.0 c.requires c.self.invariant.2 in
    λ stands. r.there_now stands

pub returns-clause-have_weights : goal.returns-clause-have_weights
returns-clause-have_weights c =
    (replaced c.self.inside.table c.args.key.node.0 c.args.key.destination c.args.key.from c.args.weights c.replace.result c.replace.new.self c.replace.ensures.stood c.replace.ensures.rows c.self.invariant.0 c.requires c.self.invariant.2).weighted
