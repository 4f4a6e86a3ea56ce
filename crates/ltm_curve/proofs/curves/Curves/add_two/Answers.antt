use Rattle.std.proofs.Common.{◌≡◌, ℕ, ◌+◌, ◌<◌, refl, arith, length, slice_index}
use Rattle.ltm_curve.specs.Table.{counts_of}
use Rattle.ltm_curve.proofs.Adding.{count_in, adds_row_holds}
use Rattle.ltm_curve.proofs.PutOver.{row_written, sets_row_holds}
use Rattle.ltm_curve.proofs.curves.Curves.add_two.Goals as goal

pub invariant_of-self : goal.invariant_of-self
invariant_of-self c =
    let g : ℕ = c.args.group in
    let k : ℕ = c.args.boundary in
    let many : length c.add_both.new.row ≡ c.args.self.now.destinations = omega (arith, c.add_both.auto.row) in
    let each : (d : ℕ) → d < c.args.self.now.destinations → slice_index c.add_both.new.row d ≡ counts_of c.args.self.now g d k + slice_index c.args.amounts.now d = λ d l.
    omega (arith, c.add_both.ensures d (omega (arith, c.requires.count)), count_in c.args.self.now g k c.start-from.result d c.deref_mut.result.now c.deref_mut.ensures.value c.start-from.ensures.place l) in
    let written =
    row_written c.args.self.now c.start-from.result c.deref_mut.result.now c.add_both.new.row c.add_both.new.row c.deref_mut.ensures.value c.deref_mut.ensures.len refl c.start-from.ensures.within many
    (λ d l. omega (arith, each d (omega arith), c.requires.small d (omega (arith, c.requires.count)))) in
    record {
      long = written.long;
      few = c.args.self.now.few;
      within = c.args.self.now.within;
      counts_room = c.args.self.now.counts_room;
      totals_room = c.args.self.now.totals_room;
      small = written.small;
      no_totals = c.args.self.now.no_totals;
      all_totals = c.args.self.now.all_totals;
      sums = λ several. absurd (omega (arith, several, c.requires.two));
    }

pub returns : goal.returns
returns c =
    let g : ℕ = c.args.group in
    let k : ℕ = c.args.boundary in
    let many : length c.add_both.new.row ≡ c.args.self.now.destinations = omega (arith, c.add_both.auto.row) in
    let each : (d : ℕ) → d < c.args.self.now.destinations → slice_index c.add_both.new.row d ≡ counts_of c.args.self.now g d k + slice_index c.args.amounts.now d = λ d l.
    omega (arith, c.add_both.ensures d (omega (arith, c.requires.count)), count_in c.args.self.now g k c.start-from.result d c.deref_mut.result.now c.deref_mut.ensures.value c.start-from.ensures.place l) in
    let written =
    row_written c.args.self.now c.start-from.result c.deref_mut.result.now c.add_both.new.row c.add_both.new.row c.deref_mut.ensures.value c.deref_mut.ensures.len refl c.start-from.ensures.within many
    (λ d l. omega (arith, each d (omega arith), c.requires.small d (omega (arith, c.requires.count)))) in
    adds_row_holds c.args.self.now _ g k c.add_both.new.row c.args.amounts.now each
    (sets_row_holds c.args.self.now _ g k c.start-from.result c.add_both.new.row c.requires.group many (record { groups = refl; destinations = refl; slots = refl }) c.start-from.ensures.place c.start-from.ensures.within written.put)
