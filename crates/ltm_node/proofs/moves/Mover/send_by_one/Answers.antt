use Rattle.std.proofs.Common.{◌<◌, ℕ, ◌+◌, ◌∙◌, ap, arith, rules, subst, sym}
use Rattle.ltm_node.specs.declared.loads.Part.{Part}
use Rattle.ltm_node.specs.Solvable.{IsSolvable}
use Rattle.ltm_node.specs.Portion.{denominator, numerator}
use Rattle.ltm_node.specs.Step.{moved}
use Rattle.ltm_node.specs.Moving.{IsMoving, IsPart}
use Rattle.ltm_node.proofs.Moved.{moved_none}
use Rattle.ltm_node.proofs.Amounts.{entered_past}
use Rattle.ltm_node.proofs.Splitting.{sum_of_term}
use Rattle.ltm_node.proofs.Ways.{is_out, part_one, beside_one, unsent_on}
use Rattle.ltm_node.proofs.moves.Mover.send_by_one.Goals as goal

pub returns-then-load-eq0 : goal.returns-then-load-eq0
returns-then-load-eq0 g c =
    let n = c.args.self.now.inputs.now in
    let q = c.args.self.now.portion in
    let e : ℕ = denominator c.args.self.now.portion in
    let p : ℕ → ℕ = numerator c.args.self.now.portion in
    let s : IsSolvable n = search rules in
    record {
      after = unsent_on n e p (g.T.Tally.stands c.args.tally.now n q) c.args.load.destination c.args.load.arm c.args.row.now s (c.passes.ensures c.args.tally.now n q) c.requires.before c.requires.load.arm c.requires.load.destination
          (omega (arith, c.requires.load.amount, c.if-load-eq0.true));
    }

pub enter-moved-requires-clause-part : goal.enter-moved-requires-clause-part
enter-moved-requires-clause-part g c =
    let n = c.args.self.now.inputs.now in
    let a : ℕ = c.args.load.arm in
    let b : ℕ = c.args.load.destination in
    let k : ℕ = c.args.way.out in
    subst (IsPart n) (sym c.by.ensures) (record {
      arm = c.requires.load.arm;
      destination = c.requires.load.destination;
      out = is_out n b k c.requires.way.all.within;
      amount = part_one n a b c.args.load.amount k c.requires.elsewhere c.requires.load.amount c.requires.way.all;
    })

pub enter-moved-requires-clause-before : goal.enter-moved-requires-clause-before
enter-moved-requires-clause-before g c =
    let n = c.args.self.now.inputs.now in
    let q = c.args.self.now.portion in
    let e : ℕ = denominator c.args.self.now.portion in
    let p : ℕ → ℕ = numerator c.args.self.now.portion in
    let s : IsSolvable n = search rules in
    let a : ℕ = c.args.load.arm in
    let b : ℕ = c.args.load.destination in
    let k : ℕ = c.args.way.out in
    let within : k < n.shape.outs = is_out n b k c.requires.way.all.within in
    subst (λ (r : Part). IsMoving n e p (g.T.Tally.stands c.args.tally.now n q) r.destination r.arm r.out c.args.row.now) (sym c.by.ensures)
    (entered_past n e p (g.T.Tally.stands c.args.tally.now n q) b a 0 k c.args.row.now s (c.passes.ensures c.args.tally.now n q) c.requires.before c.requires.load.destination (omega arith) (omega arith) (λ j _ less.
    beside_one n a b k c.requires.elsewhere c.requires.way.all j (omega arith)))

pub leave-requires-clause-total : goal.leave-requires-clause-total
leave-requires-clause-total g c =
    let n = c.args.self.now.inputs.now in
    let e : ℕ = denominator c.args.self.now.portion in
    let p : ℕ → ℕ = numerator c.args.self.now.portion in
    let a : ℕ = c.args.load.arm in
    let b : ℕ = c.args.load.destination in
    let k : ℕ = c.args.way.out in
    let within : k < n.shape.outs = is_out n b k c.requires.way.all.within in
    c.enter-moved.ensures.moved
    ∙ (ap (λ (q : Part). moved n e p q.arm q.destination q.out) c.by.ensures
    ∙ sym (sum_of_term n.shape.outs k (λ j. moved n e p a b j) within (λ j ne. moved_none n e p a b j (beside_one n a b k c.requires.elsewhere c.requires.way.all j ne))))

pub leave-requires-clause-before : goal.leave-requires-clause-before
leave-requires-clause-before g c =
    let n = c.args.self.now.inputs.now in
    let q = c.args.self.now.portion in
    let e : ℕ = denominator c.args.self.now.portion in
    let p : ℕ → ℕ = numerator c.args.self.now.portion in
    let s : IsSolvable n = search rules in
    let a : ℕ = c.args.load.arm in
    let b : ℕ = c.args.load.destination in
    let k : ℕ = c.args.way.out in
    let within : k < n.shape.outs = is_out n b k c.requires.way.all.within in
    let after : IsMoving n e p (g.T.Tally.stands c.enter-moved.new.tally n q) b a (k + 1) c.enter-moved.new.row =
    subst (λ (r : Part). IsMoving n e p (g.T.Tally.stands c.enter-moved.new.tally n q) r.destination r.arm (r.out + 1) c.enter-moved.new.row) c.by.ensures c.enter-moved.ensures.after in
    entered_past n e p (g.T.Tally.stands c.enter-moved.new.tally n q) b a (k + 1) n.shape.outs c.enter-moved.new.row s (c.passes.ensures c.enter-moved.new.tally n q) after c.requires.load.destination (omega arith) (omega arith) (λ j more _.
    beside_one n a b k c.requires.elsewhere c.requires.way.all j (omega arith))
