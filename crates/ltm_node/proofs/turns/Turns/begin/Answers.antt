use Rattle.std.proofs.Common.{◌≡◌, ℕ, inl, inr, ap, arith, sym, subst, ◌∙◌}
use Rattle.std.proofs.lemmas.Bool.{cases_eq}
use Rattle.ltm_shares.specs.declared.sent.Sent.{Sent}
use Rattle.ltm_shares.specs.Sent.{sent_at}
use Rattle.ltm_node.specs.Portion.{denominator, numerator}
use Rattle.ltm_node.specs.Step.{turned}
use Rattle.ltm_node.proofs.Tallies.{left_begun}
use Rattle.ltm_node.proofs.turns.Turns.begin.Goals as goal

pub loop-arm-preserved : goal.loop-arm-preserved
loop-arm-preserved c =
    let n = c.args.inputs.now in
    let e : ℕ = denominator c.args.portion in
    let p : ℕ → ℕ = numerator c.args.portion in
    let a : ℕ = c.loop-arm.arm in
    record {
      begun = λ i j il jl. elim (cases_eq i a) [
        | inl same ↦ subst (λ (z : ℕ). sent_at c.begin_arm.new.self.left z j ≡ turned n e p z j) (sym same) (c.begin_arm.ensures.turns j jl)
        | inr other ↦ c.begin_arm.ensures.others i j (omega (arith, c.requires.solvable.few_outs)) other ∙ c.loop-arm.invariant.begun i j (omega arith) jl
      ];
      later = λ i j more l. c.begin_arm.ensures.others i j l (λ same. absurd (omega arith)) ∙ c.loop-arm.invariant.later i j (omega arith) l;
      rest = c.begin_arm.ensures.rest ∙ c.loop-arm.invariant.rest;
    }

pub returns : goal.returns
returns c =
    let n = c.args.inputs.now in
    λ i j il jl.
    left_begun c.loop-arm.turns n c.args.portion i j c.requires.by_turn (c.loop-arm.invariant.begun i j (omega (arith, c.loop-arm-test.false)) jl)
    (ap (λ (z : Sent). sent_at z i j) c.loop-arm.invariant.rest ∙ c.requires.sent i j il jl)
