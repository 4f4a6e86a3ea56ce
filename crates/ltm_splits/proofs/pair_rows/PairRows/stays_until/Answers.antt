use Rattle.std.proofs.Common.{subst, ◌<◌, [], length, arith}
use Rattle.std.proofs.lemmas.Bool.Decides.{nat_tests}
use Rattle.std.proofs.lemmas.List.{get_or_default}
use Rattle.ltm_splits.specs.Entries.{start_at, IsRising}
use Rattle.ltm_splits.proofs.Place.{force_until}
use Rattle.ltm_splits.proofs.pair_rows.PairRows.stays_until.Goals as goal

pub returns-in-Some-clause-stays : goal.returns-in-Some-clause-stays
returns-in-Some-clause-stays c u later before =
    let es = c.args.self.now in
    let n = c.count_begun-count.result in
    let next : n < length es → u < start_at es n = λ more.
    let read = get_or_default es n c.in-Some.row.now (0, []) more in
    grind (arith, c.self.view_is, c.as_slice.ensures, c.in-Some.ensures.lookup) in
    force_until es c.args.slot u n (subst IsRising c.self.view_is c.self.invariant) c.count_begun-count.ensures later next

pub returns-in-None-clause-stays : goal.returns-in-None-clause-stays
returns-in-None-clause-stays c u later before =
    let es = c.args.self.now in
    let n = c.count_begun-count.result in
    let next : n < length es → u < start_at es n = λ more. grind (arith, nat_tests, c.self.view_is, c.as_slice.ensures, c.in-None.ensures.lookup) in
    force_until es c.args.slot u n (subst IsRising c.self.view_is c.self.invariant) c.count_begun-count.ensures later next
