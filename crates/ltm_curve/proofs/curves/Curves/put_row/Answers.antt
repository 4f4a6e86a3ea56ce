use Rattle.std.proofs.Common.{ℕ, ◌+◌, ◌*◌, ◌∙◌, arith, refl, ap, sym}
use Rattle.std.proofs.lemmas.List.{length-set}
use Rattle.ltm_curve.specs.Totals.{capped}
use Rattle.ltm_curve.proofs.PutOver.{row_written, sets_row_holds}
use Rattle.ltm_curve.proofs.Totals.{totals_over}
use Rattle.ltm_curve.proofs.curves.Curves.put_row.Goals as goal

pub invariant_of-self : goal.invariant_of-self
invariant_of-self c =
    let written =
    row_written c.args.self.now c.start-from.result c.deref_mut.result.now c.copy_from_slice.new.self c.args.counts.now c.deref_mut.ensures.value c.deref_mut.ensures.len c.copy_from_slice.ensures.after c.start-from.ensures.within c.requires.count c.requires.small in
    record {
      long = written.long;
      few = c.args.self.now.few;
      within = c.args.self.now.within;
      counts_room = c.args.self.now.counts_room;
      totals_room = c.args.self.now.totals_room;
      small = written.small;
      no_totals = λ few. length-set c.args.self.now.totals.items c.row_number-row.result _ ∙ c.args.self.now.no_totals few;
      all_totals = λ several. length-set c.args.self.now.totals.items c.row_number-row.result _ ∙ c.args.self.now.all_totals several;
      sums = λ several.
          totals_over c.args.self.now.totals.items c.args.self.now.counts.items _ c.args.counts.now c.args.self.now.destinations _ c.row_number-row.result c.start-from.result c.capped.result (c.args.self.now.sums several)
          written.put c.requires.count
          (c.start-from.ensures.place ∙ ap (λ (z : ℕ). z * c.args.self.now.destinations + 0) (sym c.row_number-row.ensures.number) ∙ omega arith)
          (omega (arith, c.start-from.ensures.within)) (omega (arith, c.args.self.now.all_totals several)) (c.capped.ensures ∙ ap capped c.requires.total);
    }

pub returns : goal.returns
returns c =
    let written =
    row_written c.args.self.now c.start-from.result c.deref_mut.result.now c.copy_from_slice.new.self c.args.counts.now c.deref_mut.ensures.value c.deref_mut.ensures.len c.copy_from_slice.ensures.after c.start-from.ensures.within c.requires.count c.requires.small in
    sets_row_holds c.args.self.now _ c.args.group c.args.boundary c.start-from.result c.args.counts.now c.requires.group c.requires.count (record { groups = refl; destinations = refl; slots = refl })
    c.start-from.ensures.place c.start-from.ensures.within written.put
