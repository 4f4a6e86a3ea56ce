use Rattle.std.proofs.Common.{ℕ, ◌*◌, ◌≤◌, arith, ap, slice_index}
use Rattle.ltm_shares.specs.Demands.{demands_of}
use Rattle.ltm_shares.proofs.Levels.{room, is_open}
use Rattle.ltm_shares.proofs.Steps.{denominator_times, left_times, left_fits, pending_small, whole_fixed, whole_skipped}
use Rattle.ltm_shares.proofs.rounds.settle_whole.Goals as goal
use Rattle.ltm_shares.proofs.rounds.settle_whole.Goals.{then-pending-gt0+then-at-gt0+then-bar-product, else-pending-gt0, else-pending-gt0-via-then-pending-gt0+then-at-gt0+else-bar-product, else-pending-gt0-via-then-pending-gt0+else-at-gt0, else-pending-gt0-via-else-pending-gt0}

pub product-bar-requires : goal.product-bar-requires
product-bar-requires c =
    denominator_times (demands_of c.args.demands.now) c.args.progress.now c.args.out c.args.weight c.requires.small c.requires.sound c.requires.tight

pub product-requires : goal.product-requires
product-requires c =
    let n = demands_of c.args.demands.now in
    let small : c.from.result ≤ 163840000 = omega (arith, c.from.ensures, pending_small n c.loop-arm.progress c.loop-arm.arm c.requires.small c.loop-arm.invariant.sound c.loop-arm-test.true) in
    left_times n c.args.progress.now c.args.out c.args.weight c.args.out c.from.result c.requires.small c.requires.sound c.requires.tight c.requires.tight.is_out small

pub fix-requires-clause-fits : goal.fix-requires-clause-fits
fix-requires-clause-fits c =
    λ j m. left_fits (demands_of c.args.demands.now) c.loop-arm.progress j c.requires.small c.loop-arm.invariant.sound m

pub fix-requires-clause-room : goal.fix-requires-clause-room
fix-requires-clause-room c =
    let n = demands_of c.args.demands.now in
    let o = is_open n c.loop-arm.progress c.loop-arm.arm c.loop-arm.invariant.sound c.loop-arm-test.true c.if-pending-gt0.true in
    let x : ℕ = slice_index c.args.progress.now.left c.args.out in
    λ j m. room n x c.args.weight c.loop-arm.progress c.loop-arm.arm c.loop-arm.progress.denominator j c.loop-arm.invariant.level c.requires.tight.some_user c.loop-arm-test.true o.pending
    (omega (arith, c.if-bar-product.true, c.product-bar.ensures, ap (λ z. z * c.args.weight) c.loop-arm.invariant.denominator, c.product.ensures, ap (λ z. x * z) c.from.ensures, ap (λ z. x * z) o.pending)) m

pub loop-arm-preserved : goal.loop-arm-preserved
loop-arm-preserved c =
    let n = demands_of c.args.demands.now in
    let x : ℕ = slice_index c.args.progress.now.left c.args.out in
    elim c.if-pending-gt0.branch [
      | then-pending-gt0+then-at-gt0+then-bar-product w ↦
          rw (w.progress-is, w.any-is) (whole_fixed n x c.args.weight c.args.out c.loop-arm.arm c.args.progress.now c.loop-arm.progress w.fix.new.progress c.loop-arm.any c.loop-arm.invariant c.requires.tight.some_user
          c.loop-arm-test.true w.if-pending-gt0.true (omega (arith, w.if-bar-product.true, c.product-bar.ensures, ap (λ z. z * c.args.weight) c.loop-arm.invariant.denominator, w.product.ensures, ap (λ z. x * z) w.from.ensures)) w.fix.ensures)
      | else-pending-gt0 w ↦ rw (w.progress-is, w.any-is) (whole_skipped n x c.args.weight c.args.out c.loop-arm.arm c.args.progress.now c.loop-arm.progress c.loop-arm.any c.loop-arm.invariant (λ used some. elim w.else-pending-gt0.branch [
        | else-pending-gt0-via-then-pending-gt0+then-at-gt0+else-bar-product v ↦ omega (arith, v.if-bar-product.false, c.product-bar.ensures, ap (λ z. z * c.args.weight) c.loop-arm.invariant.denominator, v.product.ensures, ap (λ z. x * z) v.from.ensures)
        | else-pending-gt0-via-then-pending-gt0+else-at-gt0 v ↦ absurd (omega (arith, v.if-at-gt0.false, v.at.ensures))
        | else-pending-gt0-via-else-pending-gt0 v ↦ absurd (omega (arith, v.if-pending-gt0.false))
      ]))
    ]
