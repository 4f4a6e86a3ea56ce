use Rattle.std.proofs.Common.{ℕ, List, subst}
use Rattle.ltm_setting.specs.Setting.{setting_of}
use Rattle.ltm_used.specs.Found.{AreRooted, IsClosedUnder}
use Rattle.ltm_used.proofs.Finding.{roots_of}
use Rattle.ltm_used.proofs.roots.reached.Goals as goal

pub returns-clause-closed : goal.returns-clause-closed
returns-clause-closed c = λ lists are.
    let s = setting_of c.args.scenario.now in
    let goes : List ℕ = c.in_ok-goes.goes.items in
    let rooted : AreRooted (setting_of c.args.scenario.now) c.in_ok-goes.goes.items c.find_all.new.found =
    subst (λ (xs : List ℕ). AreRooted (setting_of c.args.scenario.now) xs c.find_all.new.found) c.deref.ensures.value c.in_ok-find_all.ensures.roots in
    let closed : IsClosedUnder (setting_of c.args.scenario.now) c.in_ok-goes.goes.items c.close.new.found =
    subst (λ (xs : List ℕ). IsClosedUnder (setting_of c.args.scenario.now) xs c.close.new.found) c.deref-2.ensures.value c.in_ok-close.ensures.closed in
    c.found_are_closed.ensures s goes c.close.new.found lists c.is_setting.ensures.setting c.in_ok-goes.ensures.marks
    (roots_of s goes c.find_all.new.found c.close.new.found c.in_ok-goes.ensures.marks rooted c.in_ok-close.ensures.grows) closed are
