use Rattle.std.proofs.Common.{◌≡◌, ◌*◌}
use Rattle.ltm_setting.specs.Setting.{setting_of}
use Rattle.ltm_lean.proofs.Sent.{SentTo}
use Rattle.ltm_lean.proofs.in_links.send_links.Given as goal

abbrev pub invariant-loop-i : goal.invariant-loop-i
invariant-loop-i l = record {
  place : l.from ≡ l.i * l.wide;
  sent : SentTo (setting_of l.scenario) l.tables l.node l.slot l.wide l.fn.ins l.ins l.row l.i;
}
