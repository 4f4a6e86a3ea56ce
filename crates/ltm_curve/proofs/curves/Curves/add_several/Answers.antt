use Rattle.std.proofs.Common.{◌≡◌, ℕ, ◌+◌, ◌*◌, ◌<◌, ◌∙◌, arith, refl, ap, sym, length, sum, slice_index}
use Rattle.std.proofs.lemmas.List.{get_or_read_under, length-set}
use Rattle.ltm_curve.specs.Table.{counts_of, total_of}
use Rattle.ltm_curve.specs.Totals.{capped}
use Rattle.ltm_curve.proofs.Adding.{count_in, sum_added, adds_row_holds}
use Rattle.ltm_curve.proofs.Kept.{capped_grows, kept_is}
use Rattle.ltm_curve.proofs.PutOver.{row_written, sets_row_holds}
use Rattle.ltm_curve.proofs.Totals.{list_small, totals_over}
use Rattle.ltm_curve.proofs.curves.Curves.add_several.Goals as goal

pub overflow_add-kept : goal.overflow_add-kept
overflow_add-kept c =
    omega (
      arith,
      c.from-kept.ensures,
      c.add_many-whole.ensures.whole,
      list_small c.args.amounts.now (omega (arith, c.args.self.now.few, c.requires.count)) (λ d l. omega (arith, c.requires.small d l)),
    )

pub invariant_of-self : goal.invariant_of-self
invariant_of-self c =
    let g : ℕ = c.args.group in
    let k : ℕ = c.args.boundary in
    let many : length c.add_many-whole.new.row ≡ c.args.self.now.destinations = omega (arith, c.add_many-whole.auto.row) in
    let each : (d : ℕ) → d < c.args.self.now.destinations → slice_index c.add_many-whole.new.row d ≡ counts_of c.args.self.now g d k + slice_index c.args.amounts.now d = λ d l.
    omega (arith, c.add_many-whole.ensures.added d (omega (arith, c.requires.count)), count_in c.args.self.now g k c.start-from.result d c.deref_mut.result.now c.deref_mut.ensures.value c.start-from.ensures.place l) in
    let written =
    row_written c.args.self.now c.start-from.result c.deref_mut.result.now c.add_many-whole.new.row c.add_many-whole.new.row c.deref_mut.ensures.value c.deref_mut.ensures.len refl c.start-from.ensures.within many
    (λ d l. omega (arith, each d (omega arith), c.requires.small d (omega (arith, c.requires.count)))) in
    let within : c.row_number-row.result < length c.args.self.now.totals.items = omega (arith, c.row_number-row.ensures.within, c.args.self.now.all_totals c.requires.several) in
    let kept : c.from-kept.result ≡ capped (total_of c.args.self.now g k) =
    c.from-kept.ensures
    ∙ (get_or_read_under c.args.self.now.totals.items c.row_number-row.result (length c.args.self.now.totals.items) c.index.result.now 0 c.index.ensures within refl
    ∙ kept_is c.args.self.now g k c.row_number-row.result c.requires.several c.row_number-row.ensures.number c.row_number-row.ensures.within) in
    let whole : total_of c.args.self.now g k + c.add_many-whole.result ≡ sum c.add_many-whole.new.row =
    omega (arith, c.add_many-whole.ensures.whole, sum_added c.args.self.now g k c.add_many-whole.new.row c.args.amounts.now c.requires.count many each) in
    let grown : capped (c.from-kept.result + c.add_many-whole.result) ≡ capped (sum c.add_many-whole.new.row) =
    ap (λ (z : ℕ). capped (z + c.add_many-whole.result)) kept ∙ (capped_grows (total_of c.args.self.now g k) c.add_many-whole.result ∙ ap capped whole) in
    record {
      long = written.long;
      few = c.args.self.now.few;
      within = c.args.self.now.within;
      counts_room = c.args.self.now.counts_room;
      totals_room = c.args.self.now.totals_room;
      small = written.small;
      no_totals = λ few. length-set c.args.self.now.totals.items c.row_number-row.result _ ∙ c.args.self.now.no_totals few;
      all_totals = λ several. length-set c.args.self.now.totals.items c.row_number-row.result _ ∙ c.args.self.now.all_totals several;
      sums = λ several.
          totals_over c.args.self.now.totals.items c.args.self.now.counts.items _ c.add_many-whole.new.row c.args.self.now.destinations _ c.row_number-row.result c.start-from.result c.capped.result (c.args.self.now.sums several)
          written.put many
          (c.start-from.ensures.place ∙ ap (λ (z : ℕ). z * c.args.self.now.destinations + 0) (sym c.row_number-row.ensures.number) ∙ omega arith)
          (omega (arith, c.start-from.ensures.within)) (omega (arith, c.args.self.now.all_totals several)) (c.capped.ensures ∙ grown);
    }

pub returns : goal.returns
returns c =
    let g : ℕ = c.args.group in
    let k : ℕ = c.args.boundary in
    let many : length c.add_many-whole.new.row ≡ c.args.self.now.destinations = omega (arith, c.add_many-whole.auto.row) in
    let each : (d : ℕ) → d < c.args.self.now.destinations → slice_index c.add_many-whole.new.row d ≡ counts_of c.args.self.now g d k + slice_index c.args.amounts.now d = λ d l.
    omega (arith, c.add_many-whole.ensures.added d (omega (arith, c.requires.count)), count_in c.args.self.now g k c.start-from.result d c.deref_mut.result.now c.deref_mut.ensures.value c.start-from.ensures.place l) in
    let written =
    row_written c.args.self.now c.start-from.result c.deref_mut.result.now c.add_many-whole.new.row c.add_many-whole.new.row c.deref_mut.ensures.value c.deref_mut.ensures.len refl c.start-from.ensures.within many
    (λ d l. omega (arith, each d (omega arith), c.requires.small d (omega (arith, c.requires.count)))) in
    adds_row_holds c.args.self.now _ g k c.add_many-whole.new.row c.args.amounts.now each
    (sets_row_holds c.args.self.now _ g k c.start-from.result c.add_many-whole.new.row c.requires.group many (record { groups = refl; destinations = refl; slots = refl }) c.start-from.ensures.place c.start-from.ensures.within written.put)
