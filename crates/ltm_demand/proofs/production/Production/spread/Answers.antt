use Rattle.std.proofs.Common.{◌≡◌, ◌+◌, ◌*◌, vec_len, slice_index, arith, sym, ap, ◌∙◌, inl, inr}
use Rattle.std.proofs.lemmas.Bool.{cases_lt}
use Rattle.ltm_demand.specs.Productions.{told}
use Rattle.ltm_demand.proofs.Cells.{within, next_slot}
use Rattle.ltm_demand.proofs.production.Production.spread.Goals as goal

pub loop-slot-preserved : goal.loop-slot-preserved
loop-slot-preserved c =
    let s = c.loop-slot.slot in
    let w = c.args.destinations + 1 in
    let more = c.in_ok-add_row.ensures in
    record {
      long = omega (arith, more.len, c.loop-slot.invariant.long, next_slot s w);
      rows = λ e t below before. elim (cases_lt t s) [
        | inl less ↦ more.front (t * w + e) (omega (arith, within w t e s (omega arith) less, c.loop-slot.invariant.long)) ∙ c.loop-slot.invariant.rows e t below less
        | inr last ↦
            let same : t ≡ s = omega arith in
            let at : t * w + e ≡ vec_len c.loop-slot.units + e = ap (λ n. n * w + e) same ∙ ap (λ n. n + e) (sym c.loop-slot.invariant.long) in
            ap (slice_index c.add_row.new.units.items) at ∙ (more.row e (omega arith) ∙ ap (told c.args.self.now e) (sym same))
      ];
    }
