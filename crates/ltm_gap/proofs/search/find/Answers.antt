use Rattle.std.proofs.Common.{◌≡◌, ◌≤◌, Some, None, ap, sym, subst, ◌∙◌}
use Rattle.ltm_units.specs.declared.quantities.Millis.{Millis}
use Rattle.ltm_setting.specs.Setting.{setting_of}
use Rattle.ltm_search.specs.Arrivals.{arrivals_of, millis_of}
use Rattle.ltm_gap.proofs.Shown.{has_earliest, start_within, small_by}
use Rattle.ltm_gap.proofs.search.find.Goals as goal

never : {y : Millis} → None ≡ Some y → ⊥
never e = cc

pub returns-in_default : goal.returns-in_default
returns-in_default c =
    let s = setting_of c.args.scenario.now in
    record {
      filled = record {
        one_for_each = c.clear.ensures.one_for_each ∙ c.requires.one_for_each;
        small = λ node time at. absurd (never (sym (c.clear.ensures.arrivals node) ∙ at));
      };
      earliest = has_earliest s c.args.loading.now c.args.origin.0 c.args.slot c.args.number None (arrivals_of c.clear.new.self) c.earliest_is_first.ensures c.is_setting.ensures.setting c.requires.origin
          c.in_default.ensures (λ node low. ap millis_of (c.clear.ensures.arrivals node));
    }

pub run-requires-clause-start : goal.run-requires-clause-start
run-requires-clause-start c = start_within (setting_of c.args.scenario.now) c.args.loading.now c.args.origin.0 c.args.slot c.args.number c.in-Some.start c.requires.suits c.in-Some.ensures

pub returns : goal.returns
returns c =
    let s = setting_of c.args.scenario.now in
    let a = arrivals_of c.run.new.self in
    record {
      filled = record {
        one_for_each = c.in_ok-run.ensures.one_for_each;
        small = small_by s a c.is_setting.ensures.setting.small.few_slots (subst (λ n. n ≤ 60000) c.step-step.ensures.value c.step-step.ensures.small) c.in_ok-run.ensures.by;
      };
      earliest = has_earliest s c.args.loading.now c.args.origin.0 c.args.slot c.args.number (Some c.in-Some.start) a c.earliest_is_first.ensures c.is_setting.ensures.setting c.requires.origin
          c.in-Some.ensures c.in_ok-run.ensures.earliest;
    }
