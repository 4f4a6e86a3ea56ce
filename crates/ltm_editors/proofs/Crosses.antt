-- An office may go to another thread: the history of its core and a call's batch are for clauses alone.
use denote.Param.Send.{IsSend, sendable}
use denote.Param.SendFields.{declared_send}
use Rattle.std.proofs.Crossing.{crosses}
use Rattle.ltm_scenario.proofs.scenario.Scenario.TheSendSync as scenario
use Rattle.ltm_scenario.proofs.batch.Batch.TheSendSync as batch
use Rattle.ltm_core.specs.contracts.the_core.Core.{the_row as core_row}
use Rattle.ltm_editors.specs.contracts.call.Call as call
use Rattle.ltm_editors.proofs.call.Verdict.TheSendSync as verdict
use Rattle.ltm_editors.specs.contracts.office.Office as office

core_sends : IsSend core_row
core_sends = search (sendable, crosses, scenario.the_send, batch.the_send) depth 30 fits 20000

call_sends : IsSend call.the_row
call_sends = declared_send call.the_type (search (sendable, crosses) depth 20, (verdict.the_send, (search (sendable, crosses) depth 20, tt)))

pub office_sends : IsSend office.the_row
office_sends = search (sendable, crosses, call_sends, core_sends) depth 20
