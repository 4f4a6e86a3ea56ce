use Rattle.std.proofs.Common.{ℕ, ◌*◌, ◌-◌, replicate, List, slice_index, refl, ap, arith, ◌∙◌, length, length-append}
use Rattle.std.proofs.lemmas.List.{length-replicate}
use Rattle.ltm_marks.proofs.Bits.{same_marks, zeros_after, more_rows}
use Rattle.ltm_marks.proofs.marks.Marks.reserve.Goals as goal

pub returns-in_err-extend-clause-same : goal.returns-in_err-extend-clause-same
returns-in_err-extend-clause-same c = record {
  width = refl;
  rows = refl;
  marks = same_marks _ _ refl (λ i. ap (λ (xs : List ℕ). slice_index xs i) c.in_err-extend.ensures.err);
}

pub invariant_of-self-2 : goal.invariant_of-self-2
invariant_of-self-2 c =
    let n : ℕ = (c.args.rows - c.args.self.now.room) * c.args.self.now.words in
    record {
      narrow = c.args.self.now.narrow;
      words_are = c.args.self.now.words_are;
      within = omega (arith, c.args.self.now.within, c.if-rows-self.false);
      few = c.requires;
      long = ap (λ (xs : List ℕ). length xs) c.in_ok-extend.ensures.ok
          ∙ (length-append c.args.self.now.bits.items (replicate n 0) ∙ more_rows c.args.self.now.room c.args.rows c.args.self.now.words _ _ (omega (arith, c.if-rows-self.false)) c.args.self.now.long (length-replicate {A = ℕ} n 0));
      rest = λ i l. ap (λ (xs : List ℕ). slice_index xs i) c.in_ok-extend.ensures.ok ∙ (zeros_after c.args.self.now.bits.items n i ∙ c.args.self.now.rest i l);
    }

pub returns-clause-same : goal.returns-clause-same
returns-clause-same c = record {
  width = refl;
  rows = refl;
  marks = same_marks _ _ refl (λ i. ap (λ (xs : List ℕ). slice_index xs i) c.in_ok-extend.ensures.ok ∙ zeros_after c.args.self.now.bits.items _ i);
}
