use Rattle.std.proofs.Common.{◌≡◌, ◌+◌, ◌++◌, ℕ, List, drop, Some, arith, ap, subst, ◌∙◌}
use Rattle.std.specs.Prelude.{slice_get}
use Rattle.csv.specs.Records.{fields_of}
use Rattle.ltm_records.specs.Fields.{Fields}
use Rattle.ltm_check.specs.declared.faults.CurvesCause.TheVariants.{Rows}
use Rattle.ltm_check.specs.File.{rows_of}
use Rattle.ltm_check.specs.Pieces.{IsReadTo}
use Rattle.ltm_check.proofs.Placing.{here_drop, fault_too_much}
use Rattle.ltm_check.proofs.Reaching.{row_below, wrong_next}
use Rattle.ltm_check.proofs.piece.read_piece.Goals as goal

pub returns-then-not-branch-clause-right : goal.returns-then-not-branch-clause-right
returns-then-not-branch-clause-right c all rest done at =
    let r = c.loop-index.invariant.read all rest done at in (r.0, r.1 ∙ ap (λ (z : List Fields). z ++ rest) (c.in_ok-next.ensures.end c.if-not-branch.true).0)

pub loop-index-preserved : goal.loop-index-preserved
loop-index-preserved c = record {
  shape = c.read_next.ensures.shape;
  read = λ all rest done at.
      let r = c.loop-index.invariant.read all rest done at in
      let there = here_drop all c.loop-index.index (fields_of c.next.new.row) (c.next.new.self ++ rest) (r.1 ∙ ap (λ (z : List Fields). z ++ rest) (c.in_ok-next.ensures.found c.if-not-branch.false)) in (
        c.in_default.ensures.right all r.0 there.0,
        there.1,
      );
}

pub returns-then-branch-clause-fault : goal.returns-then-branch-clause-fault
returns-then-branch-clause-fault c all rest done at =
    let s = c.args.scenario.now in
    let count : ℕ = c.record_count-count.result in
    let last : c.loop-index.index ≡ count + 1 = omega (arith, c.loop-index-test.false, c.loop-index.auto.index-end, c.requires.next, c.record_count-count.ensures.count) in
    let fields : Fields = fields_of c.next-2.new.row in
    let r = c.loop-index.invariant.read all rest done at in
    let there = here_drop all c.loop-index.index fields (c.next-2.new.self ++ rest) (r.1 ∙ ap (λ (z : List Fields). z ++ rest) (c.in_ok-next-2.ensures.found c.if-branch.true)) in
    wrong_next s all c.loop-index.curves count Rows c.bad_at.result (subst (IsReadTo s all c.loop-index.curves) last r.0)
    (fault_too_much s (rows_of all) count fields (omega (arith, c.record_count-count.ensures.count)) (row_below all count ∙ subst (λ (z : ℕ). slice_get all z ≡ Some fields) last there.0)) c.bad_at.ensures

pub returns-clause-right : goal.returns-clause-right
returns-clause-right c all rest done at =
    let s = c.args.scenario.now in
    let last : c.loop-index.index ≡ c.record_count-count.result + 1 = omega (arith, c.loop-index-test.false, c.loop-index.auto.index-end, c.requires.next, c.record_count-count.ensures.count) in
    let r = c.loop-index.invariant.read all rest done at in (
      subst (IsReadTo s all c.loop-index.curves) last r.0,
      subst (λ (z : ℕ). drop z all ≡ rest) last (r.1 ∙ ap (λ (z : List Fields). z ++ rest) (c.in_ok-next-2.ensures.end c.if-branch.false).0),
    )

pub returns-in-Err-clause-fault : goal.returns-in-Err-clause-fault
returns-in-Err-clause-fault c all rest done at =
    let r = c.loop-index.invariant.read all rest done at in
    let there = here_drop all c.loop-index.index (fields_of c.next.new.row) (c.next.new.self ++ rest) (r.1 ∙ ap (λ (z : List Fields). z ++ rest) (c.in_ok-next.ensures.found c.if-not-branch.false)) in
    c.in-Err.ensures.fault all r.0 there.0
