-- A viewer may go to another thread: threads may share what is on a board, and a snapshot has no bytes.
use denote.Param.Send.{IsSend, IsSync, sendable}
use Rattle.std.proofs.Crossing.{crosses}
use Rattle.left_right.proofs.reader.Reader.TheSendSync as reader
use Rattle.ltm_scenario.proofs.batch.Batch.TheSendSync as batch
use Rattle.ltm_board.proofs.sheet.Sheet.TheSendSync as sheet
use Rattle.ltm_board.specs.contracts.panel.Panel.{the_row as panel_row}
use Rattle.ltm_board.specs.contracts.viewer.Viewer.{the_row as viewer_row}

pub panel_syncs : IsSync panel_row
panel_syncs = search (sendable, crosses, batch.the_sync, sheet.the_sync) depth 20

pub viewer_sends : IsSend viewer_row
viewer_sends = search (sendable, crosses, panel_syncs, reader.the_send) depth 30
