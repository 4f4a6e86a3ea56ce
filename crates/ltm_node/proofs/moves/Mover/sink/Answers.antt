use Rattle.std.proofs.Common.{◌≡◌, ◌≤◌, ℕ, ◌+◌, ◌∙◌, List, set, ap, arith, rules, slice_index}
use Rattle.ltm_node.specs.declared.shape.NodeShape.{NodeShape}
use Rattle.ltm_node.specs.Outputs.{left_after_place, arrived_after_place}
use Rattle.ltm_node.specs.Solvable.{IsSolvable}
use Rattle.ltm_node.specs.Portion.{denominator, numerator, AreFractions}
use Rattle.ltm_node.specs.Step.{sunk}
use Rattle.ltm_node.proofs.Ranges.{sending_small, part_own, sunk_is, sunk_small}
use Rattle.ltm_node.proofs.Room.{left_room, arrived_room}
use Rattle.ltm_node.proofs.Amounts.{row_added, sunk_on}
use Rattle.ltm_node.proofs.moves.Mover.sink.Goals as goal

pub of-sunk-requires-clause-amount : goal.of-sunk-requires-clause-amount
of-sunk-requires-clause-amount g c =
    let s : IsSolvable c.args.self.now.inputs.now = search rules in
    omega (arith, c.requires.load.amount, sending_small c.args.self.now.inputs.now c.args.load.arm c.args.load.destination s c.requires.load.arm c.requires.load.destination)

pub overflow_add-row : goal.overflow_add-row
overflow_add-row g c =
    let n = c.args.self.now.inputs.now in
    let q = c.args.self.now.portion in
    let e : ℕ = denominator c.args.self.now.portion in
    let p : ℕ → ℕ = numerator c.args.self.now.portion in
    let s : IsSolvable n = search rules in
    let same : c.args.self.now.shape ≡ n.shape = search rules in
    let f : AreFractions n c.args.self.now.portion = search rules in
    let a : ℕ = c.args.load.arm in
    let b : ℕ = c.args.load.destination in
    let v : c.of-sunk.result ≡ sunk n e p a b = sunk_is n e p a b c.args.load.amount c.of-sunk.result c.requires.here c.requires.load.amount c.of-sunk.ensures in
    let small : sunk n e p a b ≤ 32000 = sunk_small n e p a b s (f.at_most_all a c.requires.load.arm) c.requires.load.arm c.requires.load.destination in
    let place : c.left_after_place.result ≡ left_after_place n.shape a b = c.left_after_place.ensures.place ∙ ap (λ (z : NodeShape). left_after_place z a b) same in
    omega (
      arith,
      left_room n e p (g.T.Tally.stands c.args.tally.now n q) b a 0 c.of-sunk.result c.args.row.now s c.requires.before c.requires.load.arm c.requires.load.destination (omega arith),
      ap (slice_index c.args.row.now) place,
    )

pub overflow_add-row-2 : goal.overflow_add-row-2
overflow_add-row-2 g c =
    let n = c.args.self.now.inputs.now in
    let q = c.args.self.now.portion in
    let e : ℕ = denominator c.args.self.now.portion in
    let p : ℕ → ℕ = numerator c.args.self.now.portion in
    let s : IsSolvable n = search rules in
    let same : c.args.self.now.shape ≡ n.shape = search rules in
    let f : AreFractions n c.args.self.now.portion = search rules in
    let a : ℕ = c.args.load.arm in
    let b : ℕ = c.args.load.destination in
    let v : c.of-sunk.result ≡ sunk n e p a b = sunk_is n e p a b c.args.load.amount c.of-sunk.result c.requires.here c.requires.load.amount c.of-sunk.ensures in
    let small : sunk n e p a b ≤ 32000 = sunk_small n e p a b s (f.at_most_all a c.requires.load.arm) c.requires.load.arm c.requires.load.destination in
    let place : c.left_after_place.result ≡ left_after_place n.shape a b = c.left_after_place.ensures.place ∙ ap (λ (z : NodeShape). left_after_place z a b) same in
    let end : c.arrived_after_place.result ≡ arrived_after_place n.shape = c.arrived_after_place.ensures.place ∙ ap (λ (z : NodeShape). arrived_after_place z) same in
    let row : List ℕ = set c.args.row.now c.left_after_place.result (slice_index c.args.row.now c.left_after_place.result + c.of-sunk.result) in
    omega (
      arith,
      arrived_room n e p (g.T.Tally.stands c.args.tally.now n q) b a c.of-sunk.result _ c.args.row.now row s f.at_most_all c.requires.before
          (row_added c.args.row.now c.left_after_place.result _ c.of-sunk.result place) c.requires.load.arm c.requires.load.destination (omega arith),
      ap (slice_index row) end,
    )

pub returns : goal.returns
returns g c =
    let n = c.args.self.now.inputs.now in
    let q = c.args.self.now.portion in
    let e : ℕ = denominator c.args.self.now.portion in
    let p : ℕ → ℕ = numerator c.args.self.now.portion in
    let s : IsSolvable n = search rules in
    let same : c.args.self.now.shape ≡ n.shape = search rules in
    let f : AreFractions n c.args.self.now.portion = search rules in
    let a : ℕ = c.args.load.arm in
    let b : ℕ = c.args.load.destination in
    let v : c.of-sunk.result ≡ sunk n e p a b = sunk_is n e p a b c.args.load.amount c.of-sunk.result c.requires.here c.requires.load.amount c.of-sunk.ensures in
    let place : c.left_after_place.result ≡ left_after_place n.shape a b = c.left_after_place.ensures.place ∙ ap (λ (z : NodeShape). left_after_place z a b) same in
    let end : c.arrived_after_place.result ≡ arrived_after_place n.shape = c.arrived_after_place.ensures.place ∙ ap (λ (z : NodeShape). arrived_after_place z) same in
    let row : List ℕ = set c.args.row.now c.left_after_place.result (slice_index c.args.row.now c.left_after_place.result + c.of-sunk.result) in
    record {
      after = sunk_on n e p (g.T.Tally.stands c.args.tally.now n q) b a c.of-sunk.result c.args.row.now row _ s (c.passes.ensures c.args.tally.now n q) c.requires.before c.requires.load.arm c.requires.load.destination v
          (λ j. part_own n a b j c.requires.here) (row_added c.args.row.now c.left_after_place.result _ c.of-sunk.result place)
          (row_added row c.arrived_after_place.result _ c.of-sunk.result end);
    }
