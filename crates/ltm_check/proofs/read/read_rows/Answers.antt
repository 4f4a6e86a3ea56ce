use Rattle.std.proofs.Common.{◌≡◌, ◌+◌, ◌/◌, ◌%◌, ℕ, List, Some, None, arith, refl, sym, ap, subst, ◌∙◌}
use Rattle.csv.specs.Records.{fields_of}
use Rattle.ltm_records.specs.Fields.{Fields}
use Rattle.ltm_check.specs.declared.faults.CurvesCause.TheVariants.{Rows}
use Rattle.ltm_check.specs.declared.faults.CurvesFault.{CurvesFault}
use Rattle.ltm_check.specs.declared.faults.CurvesFault.TheVariants.{Bad}
use Rattle.ltm_check.specs.Due.{record_count, group_at, destination_at}
use Rattle.ltm_check.specs.File.{counts_in, fault_of, or_no_counts, AreRightBelow}
use Rattle.ltm_check.specs.Kept.{PutsCounts}
use Rattle.ltm_check.proofs.Placing.{KeepsBelow, here_drop, none_drop, fault_here, fault_missing, fault_too_much, no_fault, right_next, bad_is_fault, keeps_next, keeps_all, still_shaped}
use Rattle.ltm_check.proofs.read.read_rows.Goals as goal

pub returns-then-not-branch-clause-fault : goal.returns-then-not-branch-clause-fault
returns-then-not-branch-clause-fault c =
    let s = c.args.scenario.now in
    let rows : List Fields = c.args.records.now in
    let place : ℕ = c.loop-place.place in
    let none = none_drop rows place (sym c.loop-place.invariant.left ∙ (c.in_ok-next.ensures.end c.if-not-branch.true).0) in
    bad_is_fault s rows place Rows c.bad_at.result (fault_missing s rows place (omega (arith, c.loop-place-test.true, c.record_count-count.ensures.count)) none) c.loop-place.invariant.right c.bad_at.ensures

pub bad_at-requires-in-Some : goal.bad_at-requires-in-Some
bad_at-requires-in-Some c = omega (arith, c.loop-place-test.true, c.record_count-count.ensures.few)

pub returns-in-Some-clause-fault : goal.returns-in-Some-clause-fault
returns-in-Some-clause-fault c =
    let s = c.args.scenario.now in
    let rows : List Fields = c.args.records.now in
    let place : ℕ = c.loop-place.place in
    let fields : Fields = fields_of c.next.new.row in
    let there = here_drop rows place fields c.next.new.self (sym c.loop-place.invariant.left ∙ c.in_ok-next.ensures.found c.if-not-branch.false) in
    let told : fault_of s (group_at s place) (destination_at s place) fields ≡ Some c.in-Some.cause =
    ap (λ (w : ℕ). fault_of s (place / w) (place % w) fields) (sym c.destination_count-destinations.ensures.value) ∙ (sym c.read_record.ensures.fault ∙ c.in-Some.is) in
    bad_is_fault s rows place c.in-Some.cause c.bad_at-in-Some.result
    (fault_here s rows place fields (omega (arith, c.loop-place-test.true, c.record_count-count.ensures.count)) there.0 ∙ told) c.loop-place.invariant.right c.bad_at-in-Some.ensures

pub loop-place-preserved : goal.loop-place-preserved
loop-place-preserved c =
    let s = c.args.scenario.now in
    let rows : List Fields = c.args.records.now in
    let place : ℕ = c.loop-place.place in
    let fields : Fields = fields_of c.next.new.row in
    let there = here_drop rows place fields c.next.new.self (sym c.loop-place.invariant.left ∙ c.in_ok-next.ensures.found c.if-not-branch.false) in
    let right : fault_of s (group_at s place) (destination_at s place) fields ≡ None =
    ap (λ (w : ℕ). fault_of s (place / w) (place % w) fields) (sym c.destination_count-destinations.ensures.value) ∙ (sym c.read_record.ensures.fault ∙ c.in_default.is) in
    let puts : PutsCounts c.loop-place.curves c.read_record.new.curves (group_at s place) (destination_at s place) (or_no_counts (counts_in s fields)) =
    subst (λ (w : ℕ). PutsCounts c.loop-place.curves c.read_record.new.curves (place / w) (place % w) (or_no_counts (counts_in s fields))) c.destination_count-destinations.ensures.value (c.in_default.ensures.puts refl) in
    record {
      left = sym there.1;
      right = right_next s rows place c.loop-place.invariant.right (fault_here s rows place fields (omega (arith, c.loop-place-test.true, c.record_count-count.ensures.count)) there.0 ∙ right);
      shape = still_shaped s c.loop-place.curves c.read_record.new.curves c.loop-place.invariant.shape c.read_record.ensures.shape;
      keeps = keeps_next s rows c.loop-place.curves c.read_record.new.curves place fields c.loop-place.invariant.shape there.0 c.loop-place.invariant.keeps puts;
    }

pub returns-then-branch-clause-fault : goal.returns-then-branch-clause-fault
returns-then-branch-clause-fault c =
    let s = c.args.scenario.now in
    let rows : List Fields = c.args.records.now in
    let place : ℕ = c.loop-place.place in
    let at : place ≡ c.record_count-count.result = omega (arith, c.loop-place-test.false, c.loop-place.auto.place-end) in
    let fields : Fields = fields_of c.next-2.new.row in
    let there = here_drop rows place fields c.next-2.new.self (sym c.loop-place.invariant.left ∙ c.in_ok-next-2.ensures.found c.if-branch.true) in
    let bad : CurvesFault → Type 0 = λ (fault : CurvesFault). c.bad_at-then-branch.result ≡ fault in
    bad_is_fault s rows place Rows c.bad_at-then-branch.result (fault_too_much s rows place fields (omega (arith, at, c.record_count-count.ensures.count)) there.0) c.loop-place.invariant.right
    (subst (λ (z : ℕ). bad (Bad (z + 2) Rows)) (sym at) c.bad_at-then-branch.ensures)

pub returns-clause-right : goal.returns-clause-right
returns-clause-right c =
    let s = c.args.scenario.now in
    let rows : List Fields = c.args.records.now in
    let place : ℕ = c.loop-place.place in
    let at : place ≡ record_count s = omega (arith, c.loop-place-test.false, c.loop-place.auto.place-end, c.record_count-count.ensures.count) in
    let none = none_drop rows place (sym c.loop-place.invariant.left ∙ (c.in_ok-next-2.ensures.end c.if-branch.false).0) in
    subst (λ (z : ℕ). AreRightBelow s rows (z + 1)) at (right_next s rows place c.loop-place.invariant.right (no_fault s rows place (omega (arith, at)) none))

pub returns-clause-keeps : goal.returns-clause-keeps
returns-clause-keeps c =
    let s = c.args.scenario.now in
    let rows : List Fields = c.args.records.now in
    let at : c.loop-place.place ≡ record_count s = omega (arith, c.loop-place-test.false, c.loop-place.auto.place-end, c.record_count-count.ensures.count) in
    keeps_all s rows c.loop-place.curves c.loop-place.invariant.shape (subst (KeepsBelow s rows c.loop-place.curves) at c.loop-place.invariant.keeps)
