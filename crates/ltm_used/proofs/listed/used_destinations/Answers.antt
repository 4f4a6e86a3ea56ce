use Rattle.std.proofs.Common.{sym, subst}
use Rattle.ltm_setting.specs.Setting.{setting_of}
use Rattle.ltm_standing.specs.Listed.{Ascends}
use Rattle.ltm_used.specs.Closed.{AreClosed}
use Rattle.ltm_used.specs.Lists.{list_of}
use Rattle.ltm_used.proofs.Listing.{found_ascend, are_lists_of}
use Rattle.ltm_used.proofs.listed.used_destinations.Goals as goal

pub returns-clause-order : goal.returns-clause-order
returns-clause-order c = λ l link.
    let s = setting_of c.args.scenario.now in subst (Ascends 0 s.destinations) (sym (c.in_ok-used.ensures.lists l link)) (found_ascend s c.in_ok-found.found l)

pub returns-clause-listed : goal.returns-clause-listed
returns-clause-listed c = λ counts l load link.
    let s = setting_of c.args.scenario.now in
    let closed : AreClosed (setting_of c.args.scenario.now) (list_of c.in_ok-used.used) =
    c.in_ok-found.ensures.closed (list_of c.in_ok-used.used) (are_lists_of (setting_of c.args.scenario.now) c.in_ok-found.found (list_of c.in_ok-used.used) c.in_ok-used.ensures.lists) in
    record {
      setting = c.is_setting.ensures.setting;
      loading = load;
      link = link;
      order = subst (Ascends 0 s.destinations) (sym (c.in_ok-used.ensures.lists l link)) (found_ascend s c.in_ok-found.found l);
      others = λ d k m y out. (c.nothing_else.ensures s counts (list_of c.in_ok-used.used) c.is_setting.ensures.setting load closed l d k link m y out).0;
    }
