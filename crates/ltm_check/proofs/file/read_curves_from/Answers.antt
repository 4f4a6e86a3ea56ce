use Rattle.std.proofs.Common.{◌+◌, ◌++◌, List, [], ℕ, length-append, sym, subst, ◌∙◌, arith}
use Rattle.ltm_check.specs.Pieces.{HasRead}
use Rattle.ltm_check.proofs.Rest.{none_taken, more_taken, whole, rest_whole, end_taken}
use Rattle.ltm_check.proofs.Reaching.{grown, answers_rest, answers_nothing}
use Rattle.ltm_check.proofs.file.read_curves_from.Goals as goal

pub returns-in-Err-take_some-clause-told : goal.returns-in-Err-take_some-clause-told
returns-in-Err-take_some-clause-told g c =
    let got = c.loop.invariant.got in
    let all = whole _ _ got.0 got.2 in (all.0, all.1, answers_nothing c.args.scenario.now c.args.most all.0 c.in-Err-take_some.fault c.in-Err-take_some.ensures.causes)

pub returns-then-taken-most-clause-told : goal.returns-then-taken-most-clause-told
returns-then-taken-most-clause-told g c =
    let got = c.loop.invariant.got in
    let more = c.in-Ok-take_some.ensures.got in
    let all = whole _ _ (got.0 ++ more.0) (more_taken _ _ _ got.0 more.0 got.2 more.3) in (
      all.0,
      all.1,
      omega (arith, got.1, more.1, all.2, length-append got.0 more.0, c.if-taken-most.true),
    )

pub returns-in-Err-read_end-clause-told : goal.returns-in-Err-read_end-clause-told
returns-in-Err-read_end-clause-told g c =
    let s = c.args.scenario.now in
    let got = c.loop.invariant.got in
    let more = c.in-Ok-take_some.ensures.got in
    let bytes : List ℕ = got.0 ++ more.0 in
    let has : HasRead s bytes c.loop.curves c.loop.next c.take_some.new.text.items = subst (HasRead s bytes c.loop.curves c.loop.next) (sym more.2) (grown s got.0 c.loop.curves c.loop.next c.loop.text.items more.0 got.3) in (
      bytes,
      end_taken _ _ got.0 more.0 got.2 (c.in-Ok-take_some.ensures.end c.if-count-eq0.true) (more.1 ∙ c.if-count-eq0.true),
      (
        omega (arith, got.1, more.1, length-append got.0 more.0, c.if-taken-most.false),
        c.in-Err-read_end.ensures.fault bytes (subst (HasRead s bytes c.loop.curves c.loop.next) (sym c.as_slice.ensures.value) has),
      ),
    )

pub returns-in-Err-read_front-clause-told : goal.returns-in-Err-read_front-clause-told
returns-in-Err-read_front-clause-told g c =
    let s = c.args.scenario.now in
    let got = c.loop.invariant.got in
    let more = c.in-Ok-take_some.ensures.got in
    let bytes : List ℕ = got.0 ++ more.0 in
    let has : HasRead s bytes c.loop.curves c.loop.next c.take_some.new.text.items = subst (HasRead s bytes c.loop.curves c.loop.next) (sym more.2) (grown s got.0 c.loop.curves c.loop.next c.loop.text.items more.0 got.3) in
    let told = c.count_rest.ensures.told in (
      bytes ++ told.0,
      rest_whole _ _ bytes told.0 (more_taken _ _ _ got.0 more.0 got.2 more.3) told.1,
      answers_rest s c.args.most (c.loop.taken + c.in-Ok-take_some.count) bytes told.0 c.in-Err-read_front.fault c.count_rest.result (omega (arith, got.1, more.1, length-append got.0 more.0)) (c.in-Err-read_front.ensures.fault bytes told.0 has) told.2,
    )

pub loop-preserved : goal.loop-preserved
loop-preserved g c =
    let s = c.args.scenario.now in
    let got = c.loop.invariant.got in
    let more = c.in-Ok-take_some.ensures.got in
    let bytes : List ℕ = got.0 ++ more.0 in
    let has : HasRead s bytes c.loop.curves c.loop.next c.take_some.new.text.items = subst (HasRead s bytes c.loop.curves c.loop.next) (sym more.2) (grown s got.0 c.loop.curves c.loop.next c.loop.text.items more.0 got.3) in record {
      room = omega (arith, c.loop.invariant.room, c.take_some.auto.piece);
      shape = c.read_front.ensures.shape;
      few = c.in-Ok-read_front.ensures.few;
      within = omega (arith, c.if-taken-most.false);
      steps = omega (arith, c.loop.invariant.steps, c.if-count-eq0.false);
      got = (
        bytes,
        omega (arith, got.1, more.1, length-append got.0 more.0),
        more_taken _ _ _ got.0 more.0 got.2 more.3,
        c.in-Ok-read_front.ensures.right bytes has,
      );
      later = omega (arith, c.loop.invariant.later, c.take_some.ensures.later);
    }

pub returns-in-Err-clause-told : goal.returns-in-Err-clause-told
returns-in-Err-clause-told g c =
    let all = whole (g.S.Source.left c.args.source.now) (g.S.Source.left c.args.source.now) [] (none_taken (g.S.Source.left c.args.source.now)) in (all.0, all.1, tt)

pub returns-in-Err-zeros-clause-told : goal.returns-in-Err-zeros-clause-told
returns-in-Err-zeros-clause-told g c =
    let all = whole (g.S.Source.left c.args.source.now) (g.S.Source.left c.args.source.now) [] (none_taken (g.S.Source.left c.args.source.now)) in (all.0, all.1, tt)
