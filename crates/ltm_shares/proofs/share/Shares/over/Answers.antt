use Rattle.std.proofs.Common.{◌≡◌, ◌≤◌, ℕ, slice_index, set, inl, inr, sym, subst, ◌∙◌, arith}
use Rattle.std.proofs.Math.ListN.{length-set}
use Rattle.std.proofs.lemmas.Bool.{cases_eq}
use Rattle.std.proofs.lemmas.List.{get_or-set_other, get_or-set_same}
use Rattle.ltm_shares.specs.Factors.{factor}
use Rattle.ltm_shares.proofs.share.Shares.over.Goals as goal

pub loop-arm-preserved : goal.loop-arm-preserved
loop-arm-preserved c =
    let here : slice_index (set c.loop-arm.factors c.loop-arm.arm c.factor_of.result) c.loop-arm.arm ≡ c.factor_of.result =
    get_or-set_same c.loop-arm.factors c.loop-arm.arm c.factor_of.result 0 (omega (arith, c.loop-arm-test.true, c.loop-arm.invariant.five)) in
    let P : ℕ → Type 0 = λ k. slice_index c.args.numerators k ≤ c.args.denominator → slice_index (set c.loop-arm.factors c.loop-arm.arm c.factor_of.result) k ≡ factor (slice_index c.args.numerators k) c.args.denominator in
    record {
      five = length-set c.loop-arm.factors c.loop-arm.arm c.factor_of.result ∙ c.loop-arm.invariant.five;
      done = λ i l h. elim (cases_eq i c.loop-arm.arm) [
        | inl e ↦ subst P (sym e) (λ g. here ∙ c.factor_of.ensures g) h
        | inr ne ↦ get_or-set_other c.loop-arm.factors c.loop-arm.arm i c.factor_of.result 0 ne ∙ c.loop-arm.invariant.done i (omega arith) h
      ];
    }
