use Rattle.ltm_setting.specs.Setting.{setting_of}
use Rattle.ltm_lean_load.proofs.Trading.{TradesFor}
use Rattle.ltm_lean_load.proofs.mails.trade_all.Given as goal

abbrev pub invariant-loop-u : goal.invariant-loop-u
invariant-loop-u l = TradesFor (setting_of l.scenario) l.u l.initial.mails l.mails l.initial.nodes l.nodes
