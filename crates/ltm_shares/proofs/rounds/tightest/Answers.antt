use Rattle.std.proofs.Common.{subst, ◌≡◌, ℕ, ◌*◌, ◌<◌, arith, ap, slice_index, ◌∙◌}
use Rattle.ltm_shares.specs.Demands.{demands_of}
use Rattle.ltm_shares.specs.Rounds.{IsTightest, weight}
use Rattle.ltm_shares.proofs.Levels.{weight_small, left_times_weight}
use Rattle.ltm_shares.proofs.Steps.{tightest_kept, tightest_taken, tightest_first, IsBest, best_skipped}
use Rattle.ltm_shares.proofs.rounds.tightest.Goals as goal
use Rattle.ltm_shares.proofs.rounds.tightest.Goals.{then-weight-gt0+in-Some, then-weight-gt0+in_default-2, then-weight-gt0+in_default, else-weight-gt0}

pub weight_on-requires-clause-fits : goal.weight_on-requires-clause-fits
weight_on-requires-clause-fits c = weight_small (demands_of c.args.demands.now) c.args.progress.now c.loop-out.out c.requires.small c.requires.sound c.loop-out-test.true

pub product-requires : goal.product-requires
product-requires c =
    let n = demands_of c.args.demands.now in
    let s = c.args.progress.now in
    let h : IsTightest n s c.loop-out.out c.in-Some.at c.in-Some.least = subst (IsBest n s c.loop-out.out) c.in-Some.is c.loop-out.invariant in
    omega (
      arith,
      ap (λ v. slice_index s.left c.in-Some.at * v) c.from-weight.ensures,
      ap (λ v. slice_index s.left c.in-Some.at * v) c.weight_on.ensures,
      left_times_weight n s c.in-Some.at c.loop-out.out c.requires.small c.requires.sound (omega (arith, h.is_out)) c.loop-out-test.true,
    )

pub product-requires-in-Some-1 : goal.product-requires-in-Some-1
product-requires-in-Some-1 c =
    let n = demands_of c.args.demands.now in
    let s = c.args.progress.now in
    let h : IsTightest n s c.loop-out.out c.in-Some.at c.in-Some.least = subst (IsBest n s c.loop-out.out) c.in-Some.is c.loop-out.invariant in
    omega (
      arith,
      ap (λ v. slice_index s.left c.loop-out.out * v) h.is_weight,
      left_times_weight n s c.loop-out.out c.in-Some.at c.requires.small c.requires.sound c.loop-out-test.true (omega (arith, h.is_out)),
    )

pub loop-out-preserved : goal.loop-out-preserved
loop-out-preserved c =
    let n = demands_of c.args.demands.now in
    let s = c.args.progress.now in
    let m : ℕ = c.loop-out.out in
    let is : c.from-weight.result ≡ weight n s m = c.from-weight.ensures ∙ c.weight_on.ensures in
    elim c.if-weight-gt0.branch [
      | then-weight-gt0+in-Some w ↦
          let h : IsTightest n s m w.in-Some.at w.in-Some.least = subst (IsBest n s m) w.in-Some.is c.loop-out.invariant in
          rw w.best-is (tightest_kept n s m w.in-Some.at w.in-Some.least h
          (omega (arith, w.if-product.true, w.product.ensures, w.product-in-Some-1.ensures, ap (λ v. slice_index s.left w.in-Some.at * v) is)))
      | then-weight-gt0+in_default-2 w ↦
          let h : IsTightest n s m w.in-Some.at w.in-Some.least = subst (IsBest n s m) w.in-Some.is c.loop-out.invariant in
          rw w.best-is (tightest_taken n s m w.in-Some.at w.in-Some.least c.from-weight.result h w.if-weight-gt0.true is (omega (arith, w.if-product.false, w.product.ensures, w.product-in-Some-1.ensures)))
      | then-weight-gt0+in_default w ↦
          let h : (j : ℕ) → j < m → weight n s j ≡ 0 = subst (IsBest n s m) w.in_default.is c.loop-out.invariant in
          rw w.best-is (tightest_first n s m c.from-weight.result h w.if-weight-gt0.true is)
      | else-weight-gt0 w ↦ rw w.best-is (best_skipped n s m c.loop-out.best c.loop-out.invariant (omega (arith, w.if-weight-gt0.false, is)))
    ]
