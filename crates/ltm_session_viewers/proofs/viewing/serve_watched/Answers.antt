use Rattle.std.proofs.Common.{rules}
use denote.Param.Send.{sendable}
use Rattle.std.proofs.Crossing.{crosses}
use Rattle.ltm_session_viewers.proofs.news.News.TheSendSync as news
use Rattle.ltm_session_viewers.proofs.Sent.{watches_send}
use Rattle.ltm_session_viewers.proofs.viewing.serve_watched.Goals as goal

pub join_mut-looked-requires-send-F : goal.join_mut-looked-requires-send-F
join_mut-looked-requires-send-F g c κs within = search (rules, sendable, crosses, watches_send, news.the_sync) depth 30
