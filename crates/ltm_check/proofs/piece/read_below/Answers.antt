use Rattle.std.proofs.Common.{◌≡◌, ◌/◌, ◌%◌, ℕ, Some, None, refl, sym, ap, subst, ◌∙◌}
use Rattle.csv.specs.Records.{fields_of}
use Rattle.ltm_records.specs.Fields.{Fields}
use Rattle.ltm_check.specs.Due.{group_at, destination_at}
use Rattle.ltm_check.specs.File.{counts_in, fault_of, or_no_counts, rows_of}
use Rattle.ltm_check.specs.Kept.{PutsCounts}
use Rattle.ltm_check.proofs.Placing.{fault_here, keeps_next}
use Rattle.ltm_check.proofs.Reaching.{row_below, reach_next, wrong_next}
use Rattle.ltm_check.proofs.piece.read_below.Goals as goal

pub returns-in-Some-clause-fault : goal.returns-in-Some-clause-fault
returns-in-Some-clause-fault c records done at =
    let s = c.args.scenario.now in
    let place : ℕ = c.args.place in
    let fields : Fields = fields_of c.args.row.now in
    let told : fault_of s (group_at s place) (destination_at s place) fields ≡ Some c.in-Some.cause =
    ap (λ (w : ℕ). fault_of s (place / w) (place % w) fields) (sym c.destination_count-destinations.ensures.value) ∙ (sym c.read_record.ensures.fault ∙ c.in-Some.is) in
    wrong_next s records c.args.curves.now place c.in-Some.cause c.bad_at.result done (fault_here s (rows_of records) place fields c.requires.place (row_below records place ∙ at) ∙ told) c.bad_at.ensures

pub returns-in-None-clause-right : goal.returns-in-None-clause-right
returns-in-None-clause-right c records done at =
    let s = c.args.scenario.now in
    let place : ℕ = c.args.place in
    let fields : Fields = fields_of c.args.row.now in
    let there = row_below records place ∙ at in
    let right : fault_of s (group_at s place) (destination_at s place) fields ≡ None =
    ap (λ (w : ℕ). fault_of s (place / w) (place % w) fields) (sym c.destination_count-destinations.ensures.value) ∙ (sym c.read_record.ensures.fault ∙ c.in-None.is) in
    let puts : PutsCounts c.args.curves.now c.read_record.new.curves (group_at s place) (destination_at s place) (or_no_counts (counts_in s fields)) =
    subst (λ (w : ℕ). PutsCounts c.args.curves.now c.read_record.new.curves (place / w) (place % w) (or_no_counts (counts_in s fields))) c.destination_count-destinations.ensures.value (c.in-None.ensures.puts refl) in
    reach_next s records c.args.curves.now c.read_record.new.curves place done (fault_here s (rows_of records) place fields c.requires.place there ∙ right)
    (λ keeps. keeps_next s (rows_of records) c.args.curves.now c.read_record.new.curves place fields c.requires.shape there keeps puts)
