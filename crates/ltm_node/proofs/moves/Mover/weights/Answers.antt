use Rattle.std.proofs.Common.{ℕ, ◌+◌, ◌∙◌, slice_range, ap}
use Rattle.ltm_node.proofs.AsRead.{IsReadFrom, weights_from}
use Rattle.ltm_node.proofs.moves.Mover.weights.Goals as goal

pub returns-clause-weights : goal.returns-clause-weights
returns-clause-weights c =
    let v = c.args.self.now in
    let n = v.inputs.now in
    let held : IsReadFrom n v.numbers.counted v.shape v.numbers.row.now = record { shape = v.same_shape; row = v.same_row; long = v.long } in
    ap (λ (z : ℕ). slice_range v.numbers.row.now z (z + v.shape.outs)) c.weights_place-from.ensures.place
    ∙ weights_from n v.numbers.counted v.shape v.numbers.row.now c.args.destination held
