use Rattle.std.proofs.Common.{rules}
use denote.Param.Send.{sendable}
use Rattle.std.proofs.Crossing.{crosses, send, sync}
use Rattle.ltm_editors.proofs.desk.Seat.TheSendSync as seat
use Rattle.ltm_editors.proofs.desk.Desk.TheSendSync as desk
use Rattle.ltm_editors.proofs.Crosses.{office_sends}
use Rattle.test_share.proofs.crowds.+crowd+fn-crowd-join+arg3.Goals as goal

pub join-seat-requires-send-A : goal.join-seat-requires-send-A
join-seat-requires-send-A g t c κs within = search (rules, sendable, crosses, seat.the_send, office_sends) depth 30

pub join-seat-requires-send-F : goal.join-seat-requires-send-F
join-seat-requires-send-F g t c κs within = search (rules, sendable, crosses, seat.the_send, desk.the_sync, office_sends, send, sync) depth 40
