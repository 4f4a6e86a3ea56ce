-- Viewers may go to another thread with their sheets.
use denote.Param.Send.{IsSend, sendable}
use denote.Param.SendFields.{declared_send}
use Rattle.std.proofs.Crossing.{crosses}
use Rattle.ltm_board.proofs.sheet.Sheet.TheSendSync as sheet
use Rattle.ltm_board.proofs.Crosses.{viewer_sends}
use Rattle.ltm_session_viewers.specs.contracts.watch.Watch as watch
use Rattle.ltm_session_viewers.specs.contracts.watches.Watches as watches

pub watch_sends : IsSend watch.the_row
watch_sends = declared_send watch.the_type (viewer_sends, (sheet.the_send, (sheet.the_send, tt)))

pub watches_send : IsSend watches.the_row
watches_send = declared_send watches.the_type (watch_sends, (search (sendable, crosses, watch_sends) depth 20, tt))
