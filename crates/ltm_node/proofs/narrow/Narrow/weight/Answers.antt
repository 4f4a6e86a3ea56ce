use Rattle.std.proofs.Common.{◌≡◌, ℕ, ◌+◌, ◌∙◌, slice_index, ap, arith}
use Rattle.ltm_node.specs.Shape.{weights_place}
use Rattle.ltm_node.proofs.AsRead.{IsReadFrom, weight_from}
use Rattle.ltm_node.proofs.narrow.Narrow.weight.Goals as goal

pub returns : goal.returns
returns c =
    let v = c.args.self.now in
    let n = v.inputs.now in
    let held : IsReadFrom n v.numbers.counted v.shape v.numbers.row.now = record { shape = v.same_shape; row = v.same_row; long = v.long } in
    let place : c.weights_place.result ≡ weights_place v.shape 0 + 0 = omega (arith, c.weights_place.ensures.place) in
    ap (λ (z : ℕ). slice_index v.numbers.row.now z) place ∙ weight_from n v.numbers.counted v.shape v.numbers.row.now 0 0 held
