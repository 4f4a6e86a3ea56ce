use Rattle.std.proofs.Common.{ℕ, ◌∙◌, slice_index, ap}
use Rattle.ltm_node.specs.Reading.{count_as}
use Rattle.ltm_node.proofs.AsRead.{IsReadFrom, arrived_from}
use Rattle.ltm_node.proofs.narrow.Narrow.arrived.Goals as goal

pub returns : goal.returns
returns c =
    let v = c.args.self.now in
    let n = v.inputs.now in
    let held : IsReadFrom n v.numbers.counted v.shape v.numbers.row.now = record { shape = v.same_shape; row = v.same_row; long = v.long } in
    c.count_at.ensures ∙ (ap (λ (z : ℕ). count_as v.numbers.counted (slice_index v.numbers.row.now z)) c.arrived_place.ensures.place
    ∙ arrived_from n v.numbers.counted v.shape v.numbers.row.now held)
