use Rattle.std.proofs.Common.{refl}
use Rattle.ltm_repair.specs.Events.{Look, Claim}
use Rattle.ltm_workers.proofs.Holding.{got_spares, got_next, wait_spares, rest_spares}
use Rattle.ltm_workers.proofs.virtual_turns.take_pair.Goals as goal

pub returns-in-Got-clause-act : goal.returns-in-Got-clause-act
returns-in-Got-clause-act c =
    λ byte. (
      Claim c.in-Got.claim.pair.node.0 c.in-Got.claim.pair.slot,
      record { give_back = refl; look = refl; commit = refl },
      (c.in-Got.claim.ticket, c.in-Got.claim.inputs.row, c.in-Got.ensures.answer, refl, c.in-Got.ensures.adds),
    )

pub returns-in-Got-clause-spares : goal.returns-in-Got-clause-spares
returns-in-Got-clause-spares c =
    got_spares c.args.core.now c.claim.new.self c.in-Got.claim.pair.node.0 c.in-Got.claim.pair.slot c.in-Got.claim.ticket c.in-Got.claim.inputs.row c.args.scratch c.facts.ensures.core c.in-Got.ensures.keeps c.in-Got.ensures.answer

pub returns-in-Got-clause-next : goal.returns-in-Got-clause-next
returns-in-Got-clause-next c = got_next c.args.core.now c.claim.new.self c.in-Got.claim c.args.scratch c.facts.ensures.core c.in-Got.ensures.answer c.in-Got.ensures.kept

pub returns-in-NotYet-clause-act : goal.returns-in-NotYet-clause-act
returns-in-NotYet-clause-act c = λ byte. (Look, record { give_back = refl; look = refl; commit = refl }, (c.in-NotYet.ensures.answer, refl, c.in-NotYet.ensures.adds))

pub returns-in-NotYet-clause-spares : goal.returns-in-NotYet-clause-spares
returns-in-NotYet-clause-spares c = wait_spares c.args.core.now c.claim.new.self c.args.scratch c.in-NotYet.ensures.keeps c.in-NotYet.ensures.answer

pub returns-in-Rest-clause-spares : goal.returns-in-Rest-clause-spares
returns-in-Rest-clause-spares c = rest_spares c.args.core.now c.claim.new.self c.args.scratch c.in-Rest.ensures.keeps c.in-Rest.ensures.answer
