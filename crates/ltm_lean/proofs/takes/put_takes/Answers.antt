use Rattle.std.proofs.Common.{◌<◌, length, slice_index, slice_set, arith, ap, ◌∙◌, inl, inr, get_or-set_same, get_or-set_other}
use Rattle.std.proofs.lemmas.Bool.{cases_eq}
use Rattle.ltm_curve.proofs.Lists.{written}
use Rattle.ltm_loading.specs.Flows.{receiving}
use Rattle.ltm_setting.specs.Setting.{setting_of}
use Rattle.ltm_lean.proofs.takes.put_takes.Goals as goal

pub loop-j-preserved : goal.loop-j-preserved
loop-j-preserved c =
    let s = setting_of c.args.scenario.now in
    let there : c.loop-j.j < length c.loop-j.into = omega (arith, c.loop-j-test.true, c.loop-j.auto.into, c.requires.room) in
    let place : c.loop-j.j < (setting_of c.args.scenario.now).outs c.args.node = omega (arith, c.loop-j-test.true, c.requires.outs.count) in
    record {
      small = λ j l. elim (cases_eq j c.loop-j.j) [
        | inl e ↦ omega (arith, ap (slice_index (slice_set c.loop-j.into c.loop-j.j c.can_take.result)) e, get_or-set_same c.loop-j.into c.loop-j.j c.can_take.result 0 there, c.can_take.ensures.small)
        | inr other ↦ omega (arith, get_or-set_other c.loop-j.into c.loop-j.j j c.can_take.result 0 other, c.loop-j.invariant.small j (omega (arith, l, other)))
      ];
      taken = λ counts frozen.
          written c.loop-j.into (λ j. receiving s counts (s.out_link c.args.node j) c.args.slot) c.loop-j.j c.can_take.result (c.loop-j.invariant.taken counts frozen) there
          (c.can_take.ensures.value counts frozen.up frozen.down ∙ ap (λ l. receiving s counts l c.args.slot) (c.requires.outs.each c.loop-j.j _ place).link);
    }
