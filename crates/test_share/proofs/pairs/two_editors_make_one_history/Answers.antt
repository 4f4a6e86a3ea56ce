use Rattle.std.proofs.Common.{rules}
use denote.Param.Send.{sendable}
use Rattle.std.proofs.Crossing.{crosses, send, sync}
use Rattle.ltm_editors.proofs.desk.Seat.TheSendSync as seat
use Rattle.ltm_editors.proofs.desk.Desk.TheSendSync as desk
use Rattle.ltm_editors.proofs.Crosses.{office_sends}
use Rattle.test_share.proofs.pairs.two_editors_make_one_history.Goals as goal

pub join-one-requires-send-A : goal.join-one-requires-send-A
join-one-requires-send-A g c = search (rules, sendable, crosses, seat.the_send, office_sends) depth 30

pub join-one-requires-send-F : goal.join-one-requires-send-F
join-one-requires-send-F g c = search (rules, sendable, crosses, seat.the_send, desk.the_sync, office_sends, send, sync) depth 40
