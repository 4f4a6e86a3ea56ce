use Rattle.std.proofs.Common.{◌≡◌, ℕ, ◌+◌, ◌*◌, ◌≤◌, inl, inr, bit_or, arith, sym, subst}
use Rattle.std.proofs.lemmas.Bool.{cases_eq}
use Rattle.std.proofs.lemmas.Nat.{le_or_l, le_or_r}
use Rattle.ltm_node.specs.Inputs.{sending}
use Rattle.ltm_node.proofs.moves.Mover.is_sent_to_four.Goals as goal

pub loop-arm-preserved : goal.loop-arm-preserved
loop-arm-preserved c =
    let n = c.args.self.now.inputs.now in
    let many : ℕ = c.args.self.now.shape.destinations in
    let a : ℕ = c.loop-arm.arm in
    let any : ℕ = c.loop-arm.any in
    let four : ℕ = c.four_at-any.result in
    let next : (a + 1) * many ≡ a * many + many = omega arith in
    record {
      within = λ i d l more less. elim (cases_eq i a) [
        | inl same ↦ subst (λ (z : ℕ). sending n z d ≤ bit_or any four) (sym same) (omega (arith, c.four_at-any.ensures d more less, le_or_r any four))
        | inr other ↦ omega (arith, c.loop-arm.invariant.within i d (omega arith) more less, le_or_l any four)
      ];
      place = omega (arith, c.loop-arm.invariant.place, next);
    }
