use Rattle.std.proofs.Common.{◌<◌, ◌≡◌, ◌≤◌, ℕ, ◌*◌, arith, ap, slice_index, List}
use Rattle.ltm_shares.specs.Demands.{demands_of}
use Rattle.ltm_shares.proofs.Levels.{room, is_open_scaling, scaling_starts}
use Rattle.ltm_shares.proofs.Steps.{denominator_times, left_times, left_fits_scaling, pending_small, numerator_times, tightest_small, scaled_fixed, scaled_skipped, scaled_sound, scaled_fewer}
use Rattle.ltm_shares.proofs.rounds.settle_scaled.Goals as goal
use Rattle.ltm_shares.proofs.rounds.settle_scaled.Goals.{then-pending-gt0+then-at-gt0, else-pending-gt0, else-pending-gt0-via-then-pending-gt0+else-at-gt0, else-pending-gt0-via-else-pending-gt0}

pub scale-requires-clause-fits : goal.scale-requires-clause-fits
scale-requires-clause-fits c =
    denominator_times (demands_of c.args.demands.now) c.args.progress.now c.args.out c.args.weight c.requires.small c.requires.sound c.requires.tight

pub scale-requires-clause-numerators_fit : goal.scale-requires-clause-numerators_fit
scale-requires-clause-numerators_fit c =
    λ i l. numerator_times (demands_of c.args.demands.now) c.args.progress.now c.args.out c.args.weight i c.requires.small c.requires.sound c.requires.tight l

pub scale-requires-clause-left_fits : goal.scale-requires-clause-left_fits
scale-requires-clause-left_fits c =
    let n = demands_of c.args.demands.now in
    λ j m. left_times n c.args.progress.now c.args.out c.args.weight j c.args.weight c.requires.small c.requires.sound c.requires.tight m
    (tightest_small n c.args.progress.now c.args.out c.args.weight c.requires.small c.requires.sound c.requires.tight)

pub loop-arm-init : goal.loop-arm-init
loop-arm-init c =
    let same : (i : ℕ) → slice_index c.scale.new.progress.pending i ≡ slice_index c.args.progress.now.pending i =
    λ i. ap (λ (q : List ℕ). slice_index q i) c.scale.ensures.pending in
    record {
      denominator = c.scale.ensures.denominator;
      scaling = scaling_starts (demands_of c.args.demands.now) c.args.progress.now c.scale.new.progress c.args.out c.args.weight c.requires.sound c.requires.tight c.scale.ensures;
      closed = λ i l u. absurd (omega arith);
      fewer = λ i. omega (arith, same i);
      rest = λ i l. same i;
    }

pub product-share-requires : goal.product-share-requires
product-share-requires c =
    let n = demands_of c.args.demands.now in
    let start : slice_index c.loop-arm.progress.pending c.loop-arm.arm ≡ slice_index c.args.progress.now.pending c.loop-arm.arm = c.loop-arm.invariant.rest c.loop-arm.arm (omega arith) in
    let small : c.from.result ≤ 163840000 = omega (arith, c.from.ensures, start, pending_small n c.args.progress.now c.loop-arm.arm c.requires.small c.requires.sound c.loop-arm-test.true) in
    left_times n c.args.progress.now c.args.out c.args.weight c.args.out c.from.result c.requires.small c.requires.sound c.requires.tight c.requires.tight.is_out small

pub fix-requires-clause-room : goal.fix-requires-clause-room
fix-requires-clause-room c =
    let n = demands_of c.args.demands.now in
    let o = is_open_scaling n (slice_index c.args.progress.now.left c.args.out) c.args.out c.loop-arm.progress c.loop-arm.arm c.loop-arm.invariant.scaling c.loop-arm-test.true c.if-pending-gt0.true in
    let x : ℕ = slice_index c.args.progress.now.left c.args.out in
    λ j m. room n x 1 c.loop-arm.progress c.loop-arm.arm c.product-share.result j c.loop-arm.invariant.scaling.level (omega arith) c.loop-arm-test.true o.pending
    (omega (arith, c.product-share.ensures, ap (λ z. x * z) c.from.ensures, ap (λ z. x * z) o.pending)) m

pub fix-requires-clause-fits : goal.fix-requires-clause-fits
fix-requires-clause-fits c =
    λ j m. left_fits_scaling (demands_of c.args.demands.now) (slice_index c.args.progress.now.left c.args.out) c.args.weight c.args.out c.loop-arm.arm c.args.progress.now c.loop-arm.progress j c.requires.small c.requires.sound c.requires.tight c.loop-arm.invariant m

pub loop-arm-preserved : goal.loop-arm-preserved
loop-arm-preserved c =
    let n = demands_of c.args.demands.now in
    let x : ℕ = slice_index c.args.progress.now.left c.args.out in
    let arm : ℕ = c.loop-arm.arm in
    let start : slice_index c.loop-arm.progress.pending arm ≡ slice_index c.args.progress.now.pending arm = c.loop-arm.invariant.rest arm (omega arith) in
    elim c.if-pending-gt0.branch [
      | then-pending-gt0+then-at-gt0 w ↦
          let used : 0 < (demands_of c.args.demands.now).sending arm c.args.out = omega (arith, w.if-at-gt0.true, w.at.ensures) in
          rw w.progress-is (scaled_fixed n x c.args.weight c.args.out arm c.args.progress.now c.loop-arm.progress w.fix.new.progress c.loop-arm.invariant c.requires.tight.is_out
          c.loop-arm-test.true used w.if-pending-gt0.true
          (omega (arith, c.loop-arm.invariant.denominator, c.requires.none arm c.loop-arm-test.true used (omega (arith, w.if-pending-gt0.true, start)), ap (λ z. x * z) start))
          (rw (w.product-share.ensures, w.from.ensures) at w.fix.ensures))
      | else-pending-gt0 w ↦ rw w.progress-is (scaled_skipped n x c.args.weight c.args.out arm c.args.progress.now c.loop-arm.progress c.loop-arm.invariant (λ used. elim w.else-pending-gt0.branch [
        | else-pending-gt0-via-then-pending-gt0+else-at-gt0 v ↦ absurd (omega (arith, v.if-at-gt0.false, v.at.ensures))
        | else-pending-gt0-via-else-pending-gt0 v ↦ omega (arith, v.if-pending-gt0.false)
      ]))
    ]

pub returns-clause-sound : goal.returns-clause-sound
returns-clause-sound c =
    scaled_sound (demands_of c.args.demands.now) (slice_index c.args.progress.now.left c.args.out) c.args.weight c.args.out c.loop-arm.arm c.args.progress.now c.loop-arm.progress c.requires.small c.requires.sound c.requires.tight c.loop-arm.invariant c.loop-arm-test.false

pub returns-clause-fewer : goal.returns-clause-fewer
returns-clause-fewer c =
    scaled_fewer (demands_of c.args.demands.now) (slice_index c.args.progress.now.left c.args.out) c.args.weight c.args.out c.loop-arm.arm c.args.progress.now c.loop-arm.progress c.requires.tight c.loop-arm.invariant c.loop-arm-test.false
