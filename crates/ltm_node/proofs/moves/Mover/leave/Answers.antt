use Rattle.std.proofs.Common.{◌≡◌, ◌≤◌, ℕ, ◌^◌, ◌∙◌, ap, arith, rules, slice_index}
use Rattle.ltm_node.specs.declared.shape.NodeShape.{NodeShape}
use Rattle.ltm_node.specs.Outputs.{left_after_place}
use Rattle.ltm_node.specs.Solvable.{IsSolvable}
use Rattle.ltm_node.specs.Portion.{denominator, numerator, AreFractions}
use Rattle.ltm_node.proofs.Ranges.{sunk_elsewhere}
use Rattle.ltm_node.proofs.Moved.{moved_out_small}
use Rattle.ltm_node.proofs.Room.{left_room}
use Rattle.ltm_node.proofs.Amounts.{row_added, left_on}
use Rattle.ltm_node.proofs.moves.Mover.leave.Goals as goal

pub overflow_add-row : goal.overflow_add-row
overflow_add-row g c =
    let n = c.args.self.now.inputs.now in
    let q = c.args.self.now.portion in
    let e : ℕ = denominator c.args.self.now.portion in
    let p : ℕ → ℕ = numerator c.args.self.now.portion in
    let s : IsSolvable n = search rules in
    let same : c.args.self.now.shape ≡ n.shape = search rules in
    let f : AreFractions n c.args.self.now.portion = search rules in
    let a : ℕ = c.args.load.arm in
    let b : ℕ = c.args.load.destination in
    let place : c.left_after_place.result ≡ left_after_place n.shape a b = c.left_after_place.ensures.place ∙ ap (λ (z : NodeShape). left_after_place z a b) same in
    let small : c.args.total ≤ 2 ^ 20 = omega (arith, c.requires.total, moved_out_small n e p a b n.shape.outs s (f.at_most_all a c.requires.load.arm) c.requires.load.arm c.requires.load.destination, s.few_outs) in
    omega (
      arith,
      left_room n e p (g.T.Tally.stands c.args.tally.now n q) b a n.shape.outs c.args.total c.args.row.now s c.requires.before c.requires.load.arm c.requires.load.destination small,
      ap (slice_index c.args.row.now) place,
    )

pub returns : goal.returns
returns g c =
    let n = c.args.self.now.inputs.now in
    let q = c.args.self.now.portion in
    let e : ℕ = denominator c.args.self.now.portion in
    let p : ℕ → ℕ = numerator c.args.self.now.portion in
    let s : IsSolvable n = search rules in
    let same : c.args.self.now.shape ≡ n.shape = search rules in
    let f : AreFractions n c.args.self.now.portion = search rules in
    let a : ℕ = c.args.load.arm in
    let b : ℕ = c.args.load.destination in
    let place : c.left_after_place.result ≡ left_after_place n.shape a b = c.left_after_place.ensures.place ∙ ap (λ (z : NodeShape). left_after_place z a b) same in
    record {
      after = left_on n e p (g.T.Tally.stands c.args.tally.now n q) b a c.args.total c.args.row.now _ s c.requires.before c.requires.load.arm c.requires.load.destination c.requires.total (sunk_elsewhere n e p a b c.requires.elsewhere)
          (row_added c.args.row.now c.left_after_place.result _ c.args.total place);
    }
