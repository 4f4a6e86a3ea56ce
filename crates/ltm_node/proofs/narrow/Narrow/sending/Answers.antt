use Rattle.std.proofs.Common.{ℕ, ◌∙◌, slice_index, ap, arith}
use Rattle.ltm_node.proofs.AsRead.{IsReadFrom, sending_from}
use Rattle.ltm_node.proofs.narrow.Narrow.sending.Goals as goal

pub returns : goal.returns
returns c =
    let v = c.args.self.now in
    let n = v.inputs.now in
    let held : IsReadFrom n v.numbers.counted v.shape v.numbers.row.now = record { shape = v.same_shape; row = v.same_row; long = v.long } in
    ap (λ (z : ℕ). slice_index v.numbers.row.now z) c.sending_place.ensures.place
    ∙ sending_from n v.numbers.counted v.shape v.numbers.row.now c.args.arm 0 held c.requires (omega (arith, v.narrow.one_destination))
