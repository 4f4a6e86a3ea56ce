use Rattle.std.proofs.Common.{◌≡◌, true, false}
use Rattle.ltm_core.proofs.Histories.{core_told}
use Rattle.ltm_core.proofs.Claimings.{kept_in, tells_give, core_after_give, came_give, gives_none}
use Rattle.ltm_core.proofs.the_core.Core.free.Goals as goal

pub give_back-requires-clause-ready : goal.give_back-requires-clause-ready
give_back-requires-clause-ready c = c.self.invariant.0.ready

pub give_back-requires-clause-claimed : goal.give_back-requires-clause-claimed
give_back-requires-clause-claimed c = λ none.
    let kept = kept_in _ _ c.claim.inside.pair c.claim.inside.ticket c.claim.inside.inputs c.self.view_is (c.keeps.ensures.0 c.if-keeps.true) in
    cc (kept.claimed)

pub invariant_of-self : goal.invariant_of-self
invariant_of-self c = (
  core_told _ _ (core_after_give c.repair_laws.ensures _ c.give_back.new.self _ _ c.self.invariant.0 c.give_back.ensures.ready c.give_back.ensures.changed c.give_back.ensures.desk),
  came_give _ c.give_back.new.self _ _ _ c.give_back.ensures.changed c.give_back.ensures.desk c.add.ensures c.self.invariant.1,
)

pub returns-then-keeps : goal.returns-then-keeps
returns-then-keeps c = tells_give _ _ c.give_back.new.self _ _ _ c.self.view_is c.claim.view_is (c.keeps.ensures.0 c.if-keeps.true) c.give_back.ensures.changed c.give_back.ensures.desk c.add.ensures

pub returns-else-keeps : goal.returns-else-keeps
returns-else-keeps c = gives_none _ _ _ c.claim.view_is (λ kept.
    let on : c.keeps.result ≡ true = c.keeps.ensures.1 kept in
    let off : c.keeps.result ≡ false = c.if-keeps.false in absurd (cc))
