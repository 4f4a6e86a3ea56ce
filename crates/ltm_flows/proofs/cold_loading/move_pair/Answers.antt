use Rattle.std.proofs.Common.{◌≡◌, ◌∙◌, ◌+◌, ℕ, List, ap, arith, refl, slice_index, subst}
use Rattle.ltm_curve.specs.First.{list_below}
use Rattle.ltm_curve.specs.Table.{counts_of}
use Rattle.ltm_node.specs.Shape.{counts_width}
use Rattle.ltm_loading.specs.Pairs.{shape_at, pair_inputs, count_row}
use Rattle.ltm_loading.specs.NextPair.{Applies}
use Rattle.ltm_loading.specs.Uncounted.{moved_on, outputs_at}
use Rattle.ltm_setting.specs.Setting.{setting_of}
use Rattle.ltm_flows.proofs.Steps.{none_moves_in, kept_row}
use Rattle.ltm_flows.proofs.Progress.{working_next}
use Rattle.ltm_flows.proofs.cold_loading.move_pair.Goals as goal

pub write_moves-requires-clause-room : goal.write_moves-requires-clause-room
write_moves-requires-clause-room c =
    let u = c.args.pair.node.0 in
    omega (arith, c.requires.room u c.requires.node, ap counts_width c.requires.reads.shape)

pub add_moves-requires-clause-moves : goal.add_moves-requires-clause-moves
add_moves-requires-clause-moves c = (c.same_shape.ensures _ _ c.write_moves.ensures.step).0 ∙ c.requires.reads.shape

pub add_moves-requires-clause-small : goal.add_moves-requires-clause-small
add_moves-requires-clause-small c k =
    let s = setting_of c.args.scenario.now in
    let counts = counts_of c.args.curves.now in
    let u = c.args.pair.node.0 in
    let t = c.args.pair.slot in
    let moves : List ℕ = c.write_moves.new.outputs.row in
    let kept : count_row s counts u (t + 1) ≡ count_row s counts u t =
    kept_row s counts u t c.counts_by_place.ensures c.requires.setting c.requires.node (λ g d of m. c.requires.working.carried u g d (omega arith) c.requires.node of m) in
    let row : moved_on s counts u (t + 1) moves ≡ moved_on s counts u t moves =
    ap (λ (z : List ℕ). list_below (counts_width (shape_at s u)) (λ i. slice_index z i + slice_index moves i)) kept in
    omega (
      arith,
      ap (λ (z : List ℕ). slice_index z k) row,
      c.outputs_small.ensures s counts t u (pair_inputs s counts u t) (outputs_at s u (moved_on s counts u t moves)) c.requires.setting c.requires.slot c.requires.node c.requires.working.front.front (record { shape = refl; row = refl })
          (c.step_by_moves.ensures s counts u t _ _ c.requires.reads c.write_moves.ensures.step) k,
      c.slot_count-slots.ensures.few,
      c.slot_count-slots.ensures.value,
    )

pub add_moves-requires-clause-no_sink : goal.add_moves-requires-clause-no_sink
add_moves-requires-clause-no_sink c own = none_moves_in _ (counts_of c.args.curves.now) _ c.args.pair.slot _ _ c.no_arrivals.ensures c.requires.reads c.write_moves.ensures.step own

pub returns-clause-working : goal.returns-clause-working
returns-clause-working c =
    let s = setting_of c.args.scenario.now in
    let counts = counts_of c.args.curves.now in
    let u = c.args.pair.node.0 in
    let t = c.args.pair.slot in
    let moves : List ℕ = c.write_moves.new.outputs.row in
    let kept : count_row s counts u (t + 1) ≡ count_row s counts u t =
    kept_row s counts u t c.counts_by_place.ensures c.requires.setting c.requires.node (λ g d of m. c.requires.working.carried u g d (omega arith) c.requires.node of m) in
    let row : moved_on s counts u (t + 1) moves ≡ moved_on s counts u t moves =
    ap (λ (z : List ℕ). list_below (counts_width (shape_at s u)) (λ i. slice_index z i + slice_index moves i)) kept in
    let applies = subst (λ (z : List ℕ). Applies s u (t + 1) z counts (counts_of c.add_moves.new.curves)) row c.add_moves.ensures.applies in
    working_next s c.args.curves.now c.add_moves.new.curves t u (pair_inputs s counts u t) (outputs_at s u (moved_on s counts u t moves)) c.next_pair.ensures c.set_by_one_pair.ensures c.requires.setting c.requires.slot c.requires.node c.requires.working
    (record { shape = refl; row = refl }) (c.step_by_moves.ensures s counts u t _ _ c.requires.reads c.write_moves.ensures.step) c.add_moves.ensures.shape applies

pub returns-clause-stays : goal.returns-clause-stays
returns-clause-stays c g d k x m l = c.add_moves.ensures.applies.later g d k x m (omega (arith, l, c.requires.slot)) (λ e. absurd (omega (arith, e, l)))
