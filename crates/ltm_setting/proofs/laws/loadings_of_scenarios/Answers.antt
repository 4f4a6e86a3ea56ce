use Rattle.std.proofs.Common.{◌+◌, arith}
use Rattle.ltm_loading.specs.Setting.{IsSetting}
use Rattle.ltm_setting.specs.Setting.{setting_of}
use Rattle.ltm_setting.proofs.AreSettings.{by_next}
use Rattle.ltm_setting.proofs.laws.loadings_of_scenarios.Goals as goal

pub returns : goal.returns
unfolding setting_of
returns c = λ s counts is loading.
    let v : IsSetting (setting_of s) = c.scenarios_are_settings.ensures s is in
    record {
      never_falls = c.never_fall.ensures (setting_of s) counts v loading;
      link_first_out = λ l d t x m y. (c.first_in_first_out.ensures (setting_of s) counts v loading t d y m).0 l x;
      origin_first_out = λ u d t x some m y. (c.first_in_first_out.ensures (setting_of s) counts v loading t d y m).1 u x some;
      within_exit = λ l t x y. c.within_exit.ensures (setting_of s) counts v loading t l y x;
      within_storage = λ l k x y. c.within_storage.ensures (setting_of s) counts v loading l k x y;
      within_produced = λ u d t x m y. omega (arith, c.within_produced.ensures (setting_of s) counts v loading u d (t + 1) x m (omega arith), by_next s.demand u d t);
      conserved = λ d k m y. c.conserved.ensures (setting_of s) counts v loading d k m y;
      left_has_entered = λ l d k x m y. c.left_has_entered.ensures (setting_of s) counts v loading l d k x m y;
      adds_up = λ k y. omega (arith, (c.adds_up.ensures (setting_of s) counts v loading k y).0, (c.adds_up.ensures (setting_of s) counts v loading k y).1);
      one = λ other b. c.one_loading.ensures (setting_of s) counts other v loading b;
    }
