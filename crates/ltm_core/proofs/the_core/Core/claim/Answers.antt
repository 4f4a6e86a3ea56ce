use Rattle.ltm_core.proofs.Histories.{core_told}
use Rattle.ltm_core.proofs.Claimings.{core_after_claim, came_claim, core_claims_at, kept_claim}
use Rattle.ltm_core.proofs.the_core.Core.claim.Goals as goal

pub claim-requires-clause-ready : goal.claim-requires-clause-ready
claim-requires-clause-ready c = c.self.invariant.0.ready

pub invariant_of-self : goal.invariant_of-self
invariant_of-self c = (
  core_told _ _ (core_after_claim c.repair_laws.ensures _ c.claim.new.self _ c.self.invariant.0 c.claim.ensures.ready c.claim.ensures.changed (c.in-Work.ensures.answer c.version-ticket.result) c.version-ticket.ensures.version),
  came_claim c.repair_laws.ensures _ c.claim.new.self _ _ c.self.invariant.0 c.claim.ensures.changed (c.in-Work.ensures.answer c.version-ticket.result) c.version-ticket.ensures.version c.add.ensures c.self.invariant.1,
)

pub invariant_of-self-in-Wait : goal.invariant_of-self-in-Wait
invariant_of-self-in-Wait c = (
  core_told _ _ (core_after_claim c.repair_laws.ensures _ c.claim.new.self _ c.self.invariant.0 c.claim.ensures.ready c.claim.ensures.changed (c.in-Wait.ensures.answer c.version-ticket.result) tt),
  came_claim c.repair_laws.ensures _ c.claim.new.self _ _ c.self.invariant.0 c.claim.ensures.changed (c.in-Wait.ensures.answer c.version-ticket.result) tt c.add-in-Wait.ensures c.self.invariant.1,
)

pub invariant_of-self-in-Rest : goal.invariant_of-self-in-Rest
invariant_of-self-in-Rest c = (
  core_told _ _ (core_after_claim c.repair_laws.ensures _ c.claim.new.self _ c.self.invariant.0 c.claim.ensures.ready c.claim.ensures.changed (c.in-Rest.ensures.answer c.version-ticket.result) tt),
  came_claim c.repair_laws.ensures _ c.claim.new.self _ _ c.self.invariant.0 c.claim.ensures.changed (c.in-Rest.ensures.answer c.version-ticket.result) tt c.add-in-Rest.ensures c.self.invariant.1,
)

pub returns-in-Work-clause-answer : goal.returns-in-Work-clause-answer
returns-in-Work-clause-answer c =
    core_claims_at _ _ c.claim.new.self _ _ c.self.view_is c.self.invariant.0 c.claim.ensures.changed (c.in-Work.ensures.answer c.version-ticket.result) c.version-ticket.ensures.version

pub returns-in-Wait-clause-answer : goal.returns-in-Wait-clause-answer
returns-in-Wait-clause-answer c = core_claims_at _ _ c.claim.new.self _ _ c.self.view_is c.self.invariant.0 c.claim.ensures.changed (c.in-Wait.ensures.answer c.version-ticket.result) tt

pub returns-in-Rest-clause-answer : goal.returns-in-Rest-clause-answer
returns-in-Rest-clause-answer c = core_claims_at _ _ c.claim.new.self _ _ c.self.view_is c.self.invariant.0 c.claim.ensures.changed (c.in-Rest.ensures.answer c.version-ticket.result) tt

pub returns-in-Work-clause-kept : goal.returns-in-Work-clause-kept
returns-in-Work-clause-kept c =
    kept_claim _ _ c.in-Work.pair c.version-ticket.result c.claim.new.inputs c.version-ticket.ensures.version (c.in-Work.ensures.answer c.version-ticket.result) c.in-Work.ensures.fits.0
