use Rattle.std.proofs.Common.{◌++◌, List, [], ℕ, take, length-append, length-take, refl, arith}
use Rattle.ltm_check.proofs.Rest.{none_taken, more_taken, whole, taken_whole}
use Rattle.ltm_check.proofs.file.count_rest.Goals as goal

pub loop-init : goal.loop-init
loop-init g c = record {
  room = c.requires.room;
  within = c.requires.taken;
  steps = omega arith;
  got = ([], omega arith, none_taken _);
  later = omega arith;
}

pub returns-in_default-clause-told : goal.returns-in_default-clause-told
returns-in_default-clause-told g c =
    let got = c.loop.invariant.got in
    let all = whole _ _ got.0 got.2 in (all.0, all.1, tt)

pub returns-then-count-eq0-clause-told : goal.returns-then-count-eq0-clause-told
returns-then-count-eq0-clause-told g c =
    let got = c.loop.invariant.got in (
      got.0,
      taken_whole _ _ got.0 got.2 (c.in-Ok.ensures.end c.if-count-eq0.true (omega (arith, c.loop.invariant.room, c.read.auto.into))),
      (refl, omega (arith, got.1, c.loop.invariant.within)),
    )

pub returns-then-taken-most-clause-told : goal.returns-then-taken-most-clause-told
returns-then-taken-most-clause-told g c =
    let got = c.loop.invariant.got in
    let more : List ℕ = take c.in-Ok.count c.read.new.into in
    let all = whole _ _ (got.0 ++ more) (more_taken _ _ _ got.0 more got.2 c.in-Ok.ensures.took) in (
      all.0,
      all.1,
      omega (arith, got.1, all.2, length-append got.0 more, length-take c.in-Ok.count c.read.new.into, c.in-Ok.ensures.count, c.if-taken-most.true),
    )

pub loop-preserved : goal.loop-preserved
loop-preserved g c =
    let got = c.loop.invariant.got in
    let more : List ℕ = take c.in-Ok.count c.read.new.into in record {
      room = omega (arith, c.loop.invariant.room, c.read.auto.into);
      within = omega (arith, c.if-taken-most.false);
      steps = omega (arith, c.loop.invariant.steps, c.if-count-eq0.false);
      got = (
        got.0 ++ more,
        omega (arith, got.1, length-append got.0 more, length-take c.in-Ok.count c.read.new.into, c.in-Ok.ensures.count),
        more_taken _ _ _ got.0 more got.2 c.in-Ok.ensures.took,
      );
      later = omega (arith, c.loop.invariant.later, c.read.ensures.later);
    }

pub returns-clause-told : goal.returns-clause-told
returns-clause-told g c = absurd (omega (arith, c.loop-test.false, c.loop.invariant.steps, c.loop.invariant.within))
