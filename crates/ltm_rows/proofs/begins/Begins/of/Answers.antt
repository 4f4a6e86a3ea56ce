use Rattle.std.proofs.Common.{◌+◌, sym, ◌∙◌, arith}
use Rattle.ltm_rows.specs.Begins.{row_begins}
use Rattle.ltm_rows.proofs.Begun.{none_of, same_weights}
use Rattle.ltm_rows.proofs.begins.Begins.of.Goals as goal

pub returns-clause-tells : goal.returns-clause-tells
returns-clause-tells c =
    let nodes = c.mark_all.ensures.width ∙ (c.in_ok-marks.ensures.width ∙ c.node_count-nodes.ensures.value) in
    let slots = c.mark_all.ensures.rows ∙ (c.in_ok-marks.ensures.rows ∙ c.slot_count-slots.ensures.value) in
    record {
      nodes = nodes;
      slots = slots;
      stay = λ u t l m none.
          let marked = c.mark_all.ensures.marks u (t + 1) (omega (arith, l, c.in_ok-marks.ensures.width, c.node_count-nodes.ensures.value)) (omega (arith, m, c.in_ok-marks.ensures.rows, c.slot_count-slots.ensures.value)) in
          same_weights c.args.scenario.now u t (none_of (row_begins c.args.scenario.now.splits u (t + 1)) _ (sym marked ∙ none)).0;
    }
