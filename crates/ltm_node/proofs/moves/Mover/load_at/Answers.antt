use Rattle.std.proofs.Common.{ℕ, ◌∙◌, slice_index, ap}
use Rattle.ltm_node.proofs.AsRead.{IsReadFrom, sending_from}
use Rattle.ltm_node.proofs.moves.Mover.load_at.Goals as goal

pub returns-clause-load : goal.returns-clause-load
returns-clause-load c =
    let v = c.args.self.now in
    let n = v.inputs.now in
    let held : IsReadFrom n v.numbers.counted v.shape v.numbers.row.now = record { shape = v.same_shape; row = v.same_row; long = v.long } in
    record {
      arm = c.requires.arm;
      destination = c.requires.destination;
      amount = ap (λ (z : ℕ). slice_index v.numbers.row.now z) c.requires.place
          ∙ sending_from n v.numbers.counted v.shape v.numbers.row.now c.args.arm c.args.destination held c.requires.arm c.requires.destination;
    }
