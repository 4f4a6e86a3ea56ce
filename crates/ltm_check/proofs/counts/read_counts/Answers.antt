use Rattle.std.proofs.Common.{◌+◌, ℕ, List, [], ◌∷◌, ◌++◌, length-append, option_map, arith, subst, sym, ◌∙◌}
use Rattle.ltm_curve.specs.Table.{slots_of, Sets}
use Rattle.ltm_records.specs.Pieces.{pieces_behind}
use Rattle.ltm_check.proofs.Reading.{told_more, told_next, puts_next}
use Rattle.ltm_check.proofs.counts.read_counts.Goals as goal

pub returns-then-boundary-from-clause-none : goal.returns-then-boundary-from-clause-none
returns-then-boundary-from-clause-none c f =
    let (counts, long, told, puts) = c.pieces.invariant.read in
    let here = rw c.in-Some.is at told in
    told_more c.args.text.now counts c.in-Some.text.now (slots_of c.args.curves.now + 1) here (omega (arith, long, c.if-boundary-from.true, c.pieces.invariant.slots_are))

pub pieces-preserved : goal.pieces-preserved
pieces-preserved c =
    let (counts, long, told, puts) = c.pieces.invariant.read in
    let here = rw c.in-Some.is at told in
    let count : ℕ = c.in-Some-read_count.count in
    let more : List (List ℕ) = pieces_behind (option_map (λ s. s.now) c.cut.result.1) in
    let within = c.if-boundary-from.false in
    record {
      read = (
        counts ++ count ∷ [],
        omega (arith, length-append counts (count ∷ []), long),
        told_next c.args.text.now c.in-Some.text.now c.cut.result.0.now counts count more here c.cut.ensures (sym c.read_count.ensures ∙ c.in-Some-read_count.is),
        puts_next c.args.curves.now c.pieces.curves c.set.new.self c.args.group c.args.destination c.pieces.boundary count counts long c.requires.group c.requires.destination (omega (arith, within, c.pieces.invariant.slots_are)) puts
            (subst (λ (z : ℕ). Sets c.pieces.curves c.set.new.self c.args.group c.args.destination c.pieces.boundary z) c.min.ensures c.set.ensures),
      );
      within = omega (arith, within);
      slots_are = c.pieces.invariant.slots_are;
    }
