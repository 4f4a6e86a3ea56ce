use Rattle.std.proofs.Common.{◌≡◌, ◌≤◌, ◌<◌, ℕ, ◌+◌, ◌∙◌, ap, arith, rules, subst, sym}
use Rattle.ltm_node.specs.declared.loads.Part.{Part}
use Rattle.ltm_node.specs.Solvable.{IsSolvable}
use Rattle.ltm_node.specs.Portion.{denominator, numerator, AreFractions}
use Rattle.ltm_node.specs.Step.{moved}
use Rattle.ltm_node.specs.Moving.{IsMoving, IsPart}
use Rattle.ltm_node.proofs.Ranges.{sending_small}
use Rattle.ltm_node.proofs.Moved.{moved_none, moved_small}
use Rattle.ltm_node.proofs.Amounts.{entered_past}
use Rattle.ltm_node.proofs.Splitting.{sum_of_terms}
use Rattle.ltm_node.proofs.Ways.{is_out, weight_small, product_small, part_first, part_second, beside_two, unsent_on}
use Rattle.ltm_node.proofs.moves.Mover.send_by_two.Goals as goal

pub returns-then-load-eq0 : goal.returns-then-load-eq0
returns-then-load-eq0 g c =
    let n = c.args.self.now.inputs.now in
    let q = c.args.self.now.portion in
    let e : ℕ = denominator c.args.self.now.portion in
    let p : ℕ → ℕ = numerator c.args.self.now.portion in
    let s : IsSolvable n = search rules in
    record {
      after = unsent_on n e p (g.T.Tally.stands c.args.tally.now n q) c.args.load.destination c.args.load.arm c.args.row.now s (c.passes.ensures c.args.tally.now n q) c.requires.before c.requires.load.arm c.requires.load.destination
          (omega (arith, c.requires.load.amount, c.if-load-eq0.true));
    }

pub overflow_mul-part : goal.overflow_mul-part
overflow_mul-part g c =
    let n = c.args.self.now.inputs.now in
    let s : IsSolvable n = search rules in
    let a : ℕ = c.args.load.arm in
    let b : ℕ = c.args.load.destination in
    let i : ℕ = c.args.pair.first.out in
    let k : ℕ = c.args.pair.second.out in
    let within : k < n.shape.outs = is_out n b k c.requires.pair.all.within in
    let amount : c.args.load.amount ≤ 32000 = omega (arith, c.requires.load.amount, sending_small n a b s c.requires.load.arm c.requires.load.destination) in
    let weight : c.args.pair.weight ≤ 4294967295 = omega (arith, c.requires.pair.weight, weight_small n b i s c.requires.load.destination (omega (arith, c.requires.pair.all.order))) in
    omega (arith, product_small c.args.load.amount c.args.pair.weight amount weight)

pub enter-first-requires-clause-part : goal.enter-first-requires-clause-part
enter-first-requires-clause-part g c =
    let n = c.args.self.now.inputs.now in
    let a : ℕ = c.args.load.arm in
    let b : ℕ = c.args.load.destination in
    let i : ℕ = c.args.pair.first.out in
    let k : ℕ = c.args.pair.second.out in
    let within : k < n.shape.outs = is_out n b k c.requires.pair.all.within in
    subst (IsPart n) (sym c.by.ensures) (record {
      arm = c.requires.load.arm;
      destination = c.requires.load.destination;
      out = omega (arith, c.requires.pair.all.order);
      amount = part_first n a b c.args.load.amount i k c.args.pair.weight c.args.pair.whole c.requires.elsewhere c.requires.load.amount c.requires.pair.all c.requires.pair.weight c.requires.pair.whole;
    })

pub enter-first-requires-clause-before : goal.enter-first-requires-clause-before
enter-first-requires-clause-before g c =
    let n = c.args.self.now.inputs.now in
    let q = c.args.self.now.portion in
    let e : ℕ = denominator c.args.self.now.portion in
    let p : ℕ → ℕ = numerator c.args.self.now.portion in
    let s : IsSolvable n = search rules in
    let a : ℕ = c.args.load.arm in
    let b : ℕ = c.args.load.destination in
    let i : ℕ = c.args.pair.first.out in
    let k : ℕ = c.args.pair.second.out in
    let order : i < k = c.requires.pair.all.order in
    let within : k < n.shape.outs = is_out n b k c.requires.pair.all.within in
    subst (λ (r : Part). IsMoving n e p (g.T.Tally.stands c.args.tally.now n q) r.destination r.arm r.out c.args.row.now) (sym c.by.ensures)
    (entered_past n e p (g.T.Tally.stands c.args.tally.now n q) b a 0 i c.args.row.now s (c.passes.ensures c.args.tally.now n q) c.requires.before c.requires.load.destination (omega arith) (omega arith) (λ j _ less.
    beside_two n a b i k c.requires.elsewhere c.requires.pair.all j (omega arith) (omega arith)))

pub enter-second-requires-clause-part : goal.enter-second-requires-clause-part
enter-second-requires-clause-part g c =
    let n = c.args.self.now.inputs.now in
    let a : ℕ = c.args.load.arm in
    let b : ℕ = c.args.load.destination in
    let i : ℕ = c.args.pair.first.out in
    let k : ℕ = c.args.pair.second.out in
    subst (IsPart n) (sym c.by-2.ensures) (record {
      arm = c.requires.load.arm;
      destination = c.requires.load.destination;
      out = is_out n b k c.requires.pair.all.within;
      amount = part_second n a b c.args.load.amount i k c.args.pair.weight c.args.pair.whole c.requires.elsewhere c.requires.load.amount c.requires.pair.all c.requires.pair.weight c.requires.pair.whole;
    })

pub enter-second-requires-clause-before : goal.enter-second-requires-clause-before
enter-second-requires-clause-before g c =
    let n = c.args.self.now.inputs.now in
    let q = c.args.self.now.portion in
    let e : ℕ = denominator c.args.self.now.portion in
    let p : ℕ → ℕ = numerator c.args.self.now.portion in
    let s : IsSolvable n = search rules in
    let a : ℕ = c.args.load.arm in
    let b : ℕ = c.args.load.destination in
    let i : ℕ = c.args.pair.first.out in
    let k : ℕ = c.args.pair.second.out in
    let order : i < k = c.requires.pair.all.order in
    let within : k < n.shape.outs = is_out n b k c.requires.pair.all.within in
    let after : IsMoving n e p (g.T.Tally.stands c.enter-first.new.tally n q) b a (i + 1) c.enter-first.new.row =
    subst (λ (r : Part). IsMoving n e p (g.T.Tally.stands c.enter-first.new.tally n q) r.destination r.arm (r.out + 1) c.enter-first.new.row) c.by.ensures c.enter-first.ensures.after in
    subst (λ (r : Part). IsMoving n e p (g.T.Tally.stands c.enter-first.new.tally n q) r.destination r.arm r.out c.enter-first.new.row) (sym c.by-2.ensures)
    (entered_past n e p (g.T.Tally.stands c.enter-first.new.tally n q) b a (i + 1) k c.enter-first.new.row s (c.passes.ensures c.enter-first.new.tally n q) after c.requires.load.destination (omega arith) (omega arith) (λ j more less.
    beside_two n a b i k c.requires.elsewhere c.requires.pair.all j (omega arith) (omega arith)))

pub overflow_add-first : goal.overflow_add-first
overflow_add-first g c =
    let n = c.args.self.now.inputs.now in
    let e : ℕ = denominator c.args.self.now.portion in
    let p : ℕ → ℕ = numerator c.args.self.now.portion in
    let s : IsSolvable n = search rules in
    let fractions : AreFractions n c.args.self.now.portion = search rules in
    let a : ℕ = c.args.load.arm in
    let b : ℕ = c.args.load.destination in
    let i : ℕ = c.args.pair.first.out in
    let k : ℕ = c.args.pair.second.out in
    let one : c.enter-first.result ≡ moved n e p a b i = c.enter-first.ensures.moved ∙ ap (λ (q : Part). moved n e p q.arm q.destination q.out) c.by.ensures in
    let other : c.enter-second.result ≡ moved n e p a b k = c.enter-second.ensures.moved ∙ ap (λ (q : Part). moved n e p q.arm q.destination q.out) c.by-2.ensures in
    let small : (j : ℕ) → moved n e p a b j ≤ 32000 = λ j. moved_small n e p a b j s (fractions.at_most_all a c.requires.load.arm) c.requires.load.arm c.requires.load.destination in
    omega (arith, small i, small k)

pub leave-requires-clause-total : goal.leave-requires-clause-total
leave-requires-clause-total g c =
    let n = c.args.self.now.inputs.now in
    let e : ℕ = denominator c.args.self.now.portion in
    let p : ℕ → ℕ = numerator c.args.self.now.portion in
    let a : ℕ = c.args.load.arm in
    let b : ℕ = c.args.load.destination in
    let i : ℕ = c.args.pair.first.out in
    let k : ℕ = c.args.pair.second.out in
    let one : c.enter-first.result ≡ moved n e p a b i = c.enter-first.ensures.moved ∙ ap (λ (q : Part). moved n e p q.arm q.destination q.out) c.by.ensures in
    let other : c.enter-second.result ≡ moved n e p a b k = c.enter-second.ensures.moved ∙ ap (λ (q : Part). moved n e p q.arm q.destination q.out) c.by-2.ensures in
    let within : k < n.shape.outs = is_out n b k c.requires.pair.all.within in
    omega (arith, one, other, sum_of_terms n.shape.outs i k (λ j. moved n e p a b j) c.requires.pair.all.order within (λ j ne ne'. moved_none n e p a b j (beside_two n a b i k c.requires.elsewhere c.requires.pair.all j ne ne')))

pub leave-requires-clause-before : goal.leave-requires-clause-before
leave-requires-clause-before g c =
    let n = c.args.self.now.inputs.now in
    let q = c.args.self.now.portion in
    let e : ℕ = denominator c.args.self.now.portion in
    let p : ℕ → ℕ = numerator c.args.self.now.portion in
    let s : IsSolvable n = search rules in
    let a : ℕ = c.args.load.arm in
    let b : ℕ = c.args.load.destination in
    let i : ℕ = c.args.pair.first.out in
    let k : ℕ = c.args.pair.second.out in
    let order : i < k = c.requires.pair.all.order in
    let within : k < n.shape.outs = is_out n b k c.requires.pair.all.within in
    let after : IsMoving n e p (g.T.Tally.stands c.enter-second.new.tally n q) b a (k + 1) c.enter-second.new.row =
    subst (λ (r : Part). IsMoving n e p (g.T.Tally.stands c.enter-second.new.tally n q) r.destination r.arm (r.out + 1) c.enter-second.new.row) c.by-2.ensures c.enter-second.ensures.after in
    entered_past n e p (g.T.Tally.stands c.enter-second.new.tally n q) b a (k + 1) n.shape.outs c.enter-second.new.row s (c.passes.ensures c.enter-second.new.tally n q) after c.requires.load.destination (omega arith) (omega arith) (λ j more _.
    beside_two n a b i k c.requires.elsewhere c.requires.pair.all j (omega arith) (omega arith))
