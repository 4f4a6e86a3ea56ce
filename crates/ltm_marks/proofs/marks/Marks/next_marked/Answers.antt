use Rattle.std.proofs.Common.{arith, inl, inr}
use Rattle.std.proofs.lemmas.Bool.{cases_lt}
use Rattle.ltm_marks.specs.Marks.{IsNextInWord}
use Rattle.ltm_marks.proofs.marks.Marks.next_marked.Goals as goal

pub returns-then-place-self : goal.returns-then-place-self
returns-then-place-self c =
    let is : IsNextInWord c.args.self.now c.args.row c.loop-from.from c.in-Some.place = c.in-Some.ensures in
    record {
      least = omega (c.loop-from.invariant.0, is.least, arith);
      inside = c.if-place-self.true;
      marked = is.marked;
      before = λ w l b. elim (cases_lt w c.loop-from.from) [ inl low ↦ c.loop-from.invariant.1 w l low | inr high ↦ is.before w high b ];
    }
