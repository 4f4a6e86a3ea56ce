use Rattle.std.proofs.Common.{◌≡◌, ℕ, List, length, arith, sym, ap, subst, ◌∙◌}
use Rattle.ltm_node.specs.declared.shape.NodeShape.{NodeShape}
use Rattle.ltm_node.specs.Inputs.{Inputs}
use Rattle.ltm_node.specs.Shape.{width}
use Rattle.ltm_node.specs.Solvable.{IsSolvable}
use Rattle.ltm_node.specs.Uncounted.{uncounted}
use Rattle.ltm_setting.specs.Setting.{setting_of}
use Rattle.ltm_thin.specs.NodeLists.{ReadsListed}
use Rattle.ltm_lean_node.specs.Rows.{listed_shape, IsWritten}
use Rattle.ltm_lean_node.proofs.Listed.{made, reads_made, solvable_made}
use Rattle.ltm_lean_node.proofs.step.step_listed.Goals as goal

pub write_moves-requires-clause-solvable : goal.write_moves-requires-clause-solvable
write_moves-requires-clause-solvable c =
    let s = setting_of c.args.scenario.now in
    let u : ℕ = c.args.pair.node.0 in
    let ds : List ℕ = c.args.list.now in
    let n : Inputs = c.write_inputs.new.inputs in
    let shape : c.shape_of-shape.result ≡ listed_shape (setting_of c.args.scenario.now) c.args.pair.node.0 (length c.args.list.now) c.args.own = c.shape_of-shape.ensures.shape in
    let written : IsWritten (setting_of c.args.scenario.now) c.args.pair.node.0 c.args.pair.slot (listed_shape (setting_of c.args.scenario.now) c.args.pair.node.0 (length c.args.list.now) c.args.own) c.args.sends.now c.args.takes.now c.args.weights.now c.write_inputs.new.inputs.row =
    subst (λ (z : NodeShape). IsWritten s u c.args.pair.slot z c.args.sends.now c.args.takes.now c.args.weights.now n.row) shape c.write_inputs.ensures.row in
    let is : c.write_inputs.new.inputs ≡ made (setting_of c.args.scenario.now) c.args.pair.node.0 c.args.list.now c.args.own c.write_inputs.new.inputs.row c.write_inputs.new.inputs.room =
    ap (λ (z : NodeShape). record { shape = z; row = n.row; room = n.room }) (c.write_inputs.ensures.shape ∙ shape) in
    subst (λ (m : Inputs). IsSolvable (uncounted m)) (sym is)
    (solvable_made s u c.args.pair.slot ds c.args.sends.now c.args.takes.now c.args.weights.now n.row c.args.own n.room c.is_setting.ensures.setting c.requires.node c.requires.slot c.requires.few c.requires.below
    (λ j l. c.requires.small j (omega (arith, l, c.requires.takes))) c.requires.fits (c.write_inputs.ensures.width ∙ ap width shape) written c.requires.weights)

pub returns-clause-moves : goal.returns-clause-moves
returns-clause-moves c = λ counts listed sent taken.
    let s = setting_of c.args.scenario.now in
    let u : ℕ = c.args.pair.node.0 in
    let ds : List ℕ = c.args.list.now in
    let n : Inputs = c.write_inputs.new.inputs in
    let shape : c.shape_of-shape.result ≡ listed_shape (setting_of c.args.scenario.now) c.args.pair.node.0 (length c.args.list.now) c.args.own = c.shape_of-shape.ensures.shape in
    let written : IsWritten (setting_of c.args.scenario.now) c.args.pair.node.0 c.args.pair.slot (listed_shape (setting_of c.args.scenario.now) c.args.pair.node.0 (length c.args.list.now) c.args.own) c.args.sends.now c.args.takes.now c.args.weights.now c.write_inputs.new.inputs.row =
    subst (λ (z : NodeShape). IsWritten s u c.args.pair.slot z c.args.sends.now c.args.takes.now c.args.weights.now n.row) shape c.write_inputs.ensures.row in
    let is : c.write_inputs.new.inputs ≡ made (setting_of c.args.scenario.now) c.args.pair.node.0 c.args.list.now c.args.own c.write_inputs.new.inputs.row c.write_inputs.new.inputs.room =
    ap (λ (z : NodeShape). record { shape = z; row = n.row; room = n.room }) (c.write_inputs.ensures.shape ∙ shape) in
    let reads : ReadsListed (setting_of c.args.scenario.now) counts c.args.pair.node.0 c.args.pair.slot c.args.list.now (uncounted c.write_inputs.new.inputs) =
    subst (λ (m : Inputs). ReadsListed s counts u c.args.pair.slot ds (uncounted m)) (sym is)
    (reads_made s counts u c.args.pair.slot ds c.args.sends.now c.args.takes.now c.args.weights.now n.row c.args.own n.room (c.write_inputs.ensures.width ∙ ap width shape) written c.requires.weights c.requires.own sent taken) in
    c.pairs_over_lists.ensures s counts u c.args.pair.slot ds (uncounted c.write_inputs.new.inputs) c.write_moves.new.outputs listed c.requires.slot reads c.write_moves.ensures.step

pub returns-clause-shape : goal.returns-clause-shape
returns-clause-shape c =
    (c.same_shape.ensures (uncounted c.write_inputs.new.inputs) c.write_moves.new.outputs c.write_moves.ensures.step).0 ∙ (c.write_inputs.ensures.shape ∙ c.shape_of-shape.ensures.shape)
