use Rattle.std.proofs.Common.{arith, refl}
use Rattle.ltm_curve.proofs.PutOver.{row_written, sets_row_holds}
use Rattle.ltm_curve.proofs.curves.Curves.put_both.Goals as goal

pub invariant_of-self : goal.invariant_of-self
invariant_of-self c =
    let written =
    row_written c.args.self.now c.start-from.result c.deref_mut.result.now c.copy_from_slice.new.self c.args.counts.now c.deref_mut.ensures.value c.deref_mut.ensures.len c.copy_from_slice.ensures.after c.start-from.ensures.within c.requires.count c.requires.small in
    record {
      long = written.long;
      few = c.args.self.now.few;
      within = c.args.self.now.within;
      counts_room = c.args.self.now.counts_room;
      totals_room = c.args.self.now.totals_room;
      small = written.small;
      no_totals = c.args.self.now.no_totals;
      all_totals = c.args.self.now.all_totals;
      sums = λ several. absurd (omega (arith, several, c.requires.two));
    }

pub returns : goal.returns
returns c =
    let written =
    row_written c.args.self.now c.start-from.result c.deref_mut.result.now c.copy_from_slice.new.self c.args.counts.now c.deref_mut.ensures.value c.deref_mut.ensures.len c.copy_from_slice.ensures.after c.start-from.ensures.within c.requires.count c.requires.small in
    sets_row_holds c.args.self.now _ c.args.group c.args.boundary c.start-from.result c.args.counts.now c.requires.group c.requires.count (record { groups = refl; destinations = refl; slots = refl })
    c.start-from.ensures.place c.start-from.ensures.within written.put
