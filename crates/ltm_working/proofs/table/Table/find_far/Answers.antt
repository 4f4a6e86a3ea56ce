use Rattle.std.proofs.Common.{ℕ, ◌∙◌, subst, arith}
use Rattle.ltm_setting.specs.Setting.{setting_of}
use Rattle.ltm_frontier.specs.Claims.{slot_in}
use Rattle.ltm_repair.specs.Desk.{Desk}
use Rattle.ltm_repair.specs.Answers.{HasClaimAt}
use Rattle.ltm_working.specs.Desks.{desk_at}
use Rattle.ltm_working.specs.Searching.{Finds}
use Rattle.ltm_working.proofs.Desks.{changed_stays}
use Rattle.ltm_working.proofs.Counting.{some_claimed, none_claimed}
use Rattle.ltm_working.proofs.table.Table.find_far.Goals as goal

pub find_beside-requires-clause-out : goal.find_beside-requires-clause-out
find_beside-requires-clause-out c =
    let s = setting_of c.args.scenario.now in
    let has : HasClaimAt s (desk_at s c.front-front.new.self) (slot_in c.front-front.new.self.frontier.claims) = some_claimed s c.front-front.new.self c.front-front.ensures.ready.ready (omega (arith, c.if-claimed-gt0.true, c.claimed.ensures.count)) in
    subst (λ (v : ℕ). HasClaimAt s (desk_at s c.front-front.new.self) v) (c.front-front.ensures.claims (slot_in c.front-front.new.self.frontier.claims) has) has

pub returns-then-claimed-gt0-clause-finds : goal.returns-then-claimed-gt0-clause-finds
returns-then-claimed-gt0-clause-finds c =
    let s = setting_of c.args.scenario.now in
    subst (λ (d : Desk). Finds s d c.find_beside.result c.find_beside.new.inputs c.find_beside.new.self) c.front-front.ensures.desk c.find_beside.ensures.finds

pub returns-then-claimed-gt0-clause-changed : goal.returns-then-claimed-gt0-clause-changed
returns-then-claimed-gt0-clause-changed c =
    let s = setting_of c.args.scenario.now in
    changed_stays s c.front-front.new.self c.find_beside.new.self c.find_beside.ensures.same ∙ changed_stays s c.args.self.now c.front-front.new.self c.front-front.ensures.same

pub find_first-requires-clause-none : goal.find_first-requires-clause-none
find_first-requires-clause-none c = none_claimed (setting_of c.args.scenario.now) c.front-front.new.self c.front-front.ensures.ready.ready (omega (arith, c.if-claimed-gt0.false, c.claimed.ensures.count))

pub returns-clause-finds : goal.returns-clause-finds
returns-clause-finds c =
    let s = setting_of c.args.scenario.now in
    subst (λ (d : Desk). Finds s d c.find_first.result c.find_first.new.inputs c.find_first.new.self) c.front-front.ensures.desk c.find_first.ensures.finds

pub returns-clause-changed : goal.returns-clause-changed
returns-clause-changed c =
    let s = setting_of c.args.scenario.now in
    changed_stays s c.front-front.new.self c.find_first.new.self c.find_first.ensures.same ∙ changed_stays s c.args.self.now c.front-front.new.self c.front-front.ensures.same
