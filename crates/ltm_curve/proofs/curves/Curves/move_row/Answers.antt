use Rattle.std.proofs.Common.{◌≡◌, ℕ, ◌+◌, ◌*◌, ◌<◌, ◌∙◌, arith, refl, ap, sym, length, sum, slice_index}
use Rattle.std.proofs.lemmas.List.{get_or_read_under, length-set}
use Rattle.ltm_curve.specs.Table.{counts_of, total_of}
use Rattle.ltm_curve.specs.Totals.{capped}
use Rattle.ltm_curve.proofs.Adding.{sum_added}
use Rattle.ltm_curve.proofs.Kept.{capped_grows, kept_is}
use Rattle.ltm_curve.proofs.Lists.{length-list_below}
use Rattle.ltm_curve.proofs.Moving.{moved_row, moved_at, sums_written}
use Rattle.ltm_curve.proofs.PutOver.{sets_row_holds}
use Rattle.ltm_curve.proofs.Totals.{list_small, totals_over}
use Rattle.ltm_curve.proofs.curves.Curves.move_row.Goals as goal

pub overflow_add-kept : goal.overflow_add-kept
overflow_add-kept c =
    omega (
      arith,
      c.from-kept.ensures,
      c.write_sums-differs.ensures.whole,
      list_small c.args.amounts.now (omega (arith, c.args.self.now.few, c.requires.count)) (λ d l. omega (arith, c.requires.small d l)),
    )

pub invariant_of-self : goal.invariant_of-self
invariant_of-self c =
    let g : ℕ = c.args.group in
    let t : ℕ = c.args.slot in
    let row = moved_row c.args.self.now g t c.args.amounts.now in
    let many : length row ≡ c.args.self.now.destinations = length-list_below (length c.args.amounts.now) (λ d. counts_of c.args.self.now g d t + slice_index c.args.amounts.now d) ∙ c.requires.count in
    let written =
    sums_written c.args.self.now g t c.start-from.result c.start-to.result c.args.amounts.now c.deref_mut.result.now c.write_sums-differs.new.table c.deref_mut.ensures.value c.deref_mut.ensures.len c.write_sums-differs.auto.table
    c.start-from.ensures.place c.start-to.ensures.within c.requires.count c.requires.small c.write_sums-differs.ensures.sums c.write_sums-differs.ensures.others in
    let within : c.row_number-before.result < length c.args.self.now.totals.items = omega (arith, c.row_number-before.ensures.within, c.args.self.now.all_totals c.requires.several) in
    let kept : c.from-kept.result ≡ capped (total_of c.args.self.now g t) =
    c.from-kept.ensures
    ∙ (get_or_read_under c.args.self.now.totals.items c.row_number-before.result (length c.args.self.now.totals.items) c.index.result.now 0 c.index.ensures within refl
    ∙ kept_is c.args.self.now g t c.row_number-before.result c.requires.several c.row_number-before.ensures.number c.row_number-before.ensures.within) in
    let whole : total_of c.args.self.now g t + c.write_sums-differs.result.1 ≡ sum row =
    omega (arith, c.write_sums-differs.ensures.whole, sum_added c.args.self.now g t row c.args.amounts.now c.requires.count many (λ d l. moved_at c.args.self.now g t c.args.amounts.now d (omega (arith, l, c.requires.count)))) in
    let grown : capped (c.from-kept.result + c.write_sums-differs.result.1) ≡ capped (sum row) =
    ap (λ (z : ℕ). capped (z + c.write_sums-differs.result.1)) kept ∙ (capped_grows (total_of c.args.self.now g t) c.write_sums-differs.result.1 ∙ ap capped whole) in
    record {
      long = written.long;
      few = c.args.self.now.few;
      within = c.args.self.now.within;
      counts_room = c.args.self.now.counts_room;
      totals_room = c.args.self.now.totals_room;
      small = written.small;
      no_totals = λ few. length-set c.args.self.now.totals.items c.row_number-row.result _ ∙ c.args.self.now.no_totals few;
      all_totals = λ several. length-set c.args.self.now.totals.items c.row_number-row.result _ ∙ c.args.self.now.all_totals several;
      sums = λ several.
          totals_over c.args.self.now.totals.items c.args.self.now.counts.items _ row c.args.self.now.destinations _ c.row_number-row.result c.start-to.result c.capped.result (c.args.self.now.sums several)
          written.put many
          (c.start-to.ensures.place ∙ ap (λ (z : ℕ). z * c.args.self.now.destinations + 0) (sym c.row_number-row.ensures.number) ∙ omega arith)
          (omega (arith, c.start-to.ensures.within)) (omega (arith, c.row_number-row.ensures.within, c.args.self.now.all_totals c.requires.several)) (c.capped.ensures ∙ grown);
    }

pub returns-clause-sets : goal.returns-clause-sets
returns-clause-sets c =
    let g : ℕ = c.args.group in
    let t : ℕ = c.args.slot in
    let row = moved_row c.args.self.now g t c.args.amounts.now in
    let many : length row ≡ c.args.self.now.destinations = length-list_below (length c.args.amounts.now) (λ d. counts_of c.args.self.now g d t + slice_index c.args.amounts.now d) ∙ c.requires.count in
    let written =
    sums_written c.args.self.now g t c.start-from.result c.start-to.result c.args.amounts.now c.deref_mut.result.now c.write_sums-differs.new.table c.deref_mut.ensures.value c.deref_mut.ensures.len c.write_sums-differs.auto.table
    c.start-from.ensures.place c.start-to.ensures.within c.requires.count c.requires.small c.write_sums-differs.ensures.sums c.write_sums-differs.ensures.others in
    sets_row_holds c.args.self.now _ g (t + 1) c.start-to.result row c.requires.group many (record { groups = refl; destinations = refl; slots = refl }) c.start-to.ensures.place c.start-to.ensures.within written.put
