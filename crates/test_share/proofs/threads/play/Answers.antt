use Rattle.std.proofs.Common.{rules}
use denote.Param.Send.{sendable}
use Rattle.std.proofs.Crossing.{crosses}
use Rattle.ltm_board.proofs.sheet.Sheet.TheSendSync as sheet
use Rattle.ltm_board.proofs.Crosses.{viewer_sends}
use Rattle.test_share.proofs.signs.Sign.TheSendSync as sign
use Rattle.test_share.proofs.threads.play.Goals as goal

pub join_mut-requires-send-F : goal.join_mut-requires-send-F
join_mut-requires-send-F g c κs within = search (rules, sendable, crosses, viewer_sends, sheet.the_send, sign.the_sync) depth 30
