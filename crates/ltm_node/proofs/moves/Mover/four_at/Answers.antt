use Rattle.std.proofs.Common.{◌≡◌, ℕ, ◌+◌, ◌-◌, slice_index, ap, arith}
use Rattle.ltm_node.specs.Shape.{sending_place}
use Rattle.ltm_node.proofs.AsRead.{IsReadFrom, sending_from}
use Rattle.ltm_node.proofs.Fours.{four_within}
use Rattle.ltm_node.proofs.moves.Mover.four_at.Goals as goal

pub returns : goal.returns
returns c = λ d more less.
    let v = c.args.self.now in
    let n = v.inputs.now in
    let held : IsReadFrom n v.numbers.counted v.shape v.numbers.row.now = record { shape = v.same_shape; row = v.same_row; long = v.long } in
    let k : ℕ = d - c.args.destination in
    let at : c.args.place + k ≡ sending_place v.shape c.args.arm d = omega (arith, c.requires.place, more) in
    omega (
      arith,
      four_within v.numbers.row.now c.args.place k (omega (arith, less, more)),
      ap (λ (z : ℕ). slice_index v.numbers.row.now z) at,
      sending_from n v.numbers.counted v.shape v.numbers.row.now c.args.arm d held c.requires.arm (omega (arith, c.requires.four, less)),
    )
