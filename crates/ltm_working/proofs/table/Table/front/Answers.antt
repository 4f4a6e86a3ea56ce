use Rattle.std.proofs.Common.{sym, subst, arith}
use Rattle.ltm_setting.specs.Setting.{setting_of}
use Rattle.ltm_repair.specs.Desk.{Desk, IsIdleBefore}
use Rattle.ltm_repair.specs.Answers.{HasClaimAt}
use Rattle.ltm_working.specs.Desks.{desk_at}
use Rattle.ltm_working.proofs.Fronts.{front_desk, front_ready, before_front, all_rest, claims_at_front, none_at_rest}
use Rattle.ltm_working.proofs.table.Table.front.Goals as goal

pub returns-in-Some-clause-ready : goal.returns-in-Some-clause-ready
returns-in-Some-clause-ready c =
    let s = setting_of c.args.scenario.now in
    record {
      ready = front_ready s c.args.self.now _ c.requires c.advance.ensures.pairs c.advance.ensures.size;
      idle = subst (λ (d : Desk). IsIdleBefore s d c.in-Some.slot) (sym (front_desk s c.args.self.now _ c.requires c.advance.ensures.pairs)) (before_front s c.args.self.now c.in-Some.slot c.requires c.in-Some.ensures.front);
    }

pub returns-in-Some-clause-claims : goal.returns-in-Some-clause-claims
returns-in-Some-clause-claims c = λ v has.
    let s = setting_of c.args.scenario.now in
    claims_at_front s c.args.self.now c.in-Some.slot v c.requires c.in-Some.ensures.front (subst (λ (d : Desk). HasClaimAt s d v) (front_desk s c.args.self.now _ c.requires c.advance.ensures.pairs) has)

pub returns-in-Some-clause-desk : goal.returns-in-Some-clause-desk
returns-in-Some-clause-desk c = front_desk (setting_of c.args.scenario.now) c.args.self.now _ c.requires c.advance.ensures.pairs

pub returns-in-None-clause-ready : goal.returns-in-None-clause-ready
returns-in-None-clause-ready c =
    let s = setting_of c.args.scenario.now in
    record {
      ready = front_ready s c.args.self.now _ c.requires c.advance.ensures.pairs c.advance.ensures.size;
      idle = λ u v x l. subst (λ (d : Desk). IsIdleBefore s d s.slots) (sym (front_desk s c.args.self.now _ c.requires c.advance.ensures.pairs)) (all_rest s c.args.self.now c.requires c.in-None.ensures.front) u v x (omega (arith, l, c.slot_count.ensures.value));
    }

pub returns-in-None-clause-claims : goal.returns-in-None-clause-claims
returns-in-None-clause-claims c = λ v has.
    let s = setting_of c.args.scenario.now in
    absurd (none_at_rest s (desk_at s c.args.self.now) v (all_rest s c.args.self.now c.requires c.in-None.ensures.front) (subst (λ (d : Desk). HasClaimAt s d v) (front_desk s c.args.self.now _ c.requires c.advance.ensures.pairs) has))

pub returns-in-None-clause-desk : goal.returns-in-None-clause-desk
returns-in-None-clause-desk c = front_desk (setting_of c.args.scenario.now) c.args.self.now _ c.requires c.advance.ensures.pairs
