use Rattle.ltm_lean_load.specs.Publishing.{TradesTo}
use Rattle.ltm_lean_load.proofs.mails.trade_mails.Given as goal

abbrev pub invariant-loop-j : goal.invariant-loop-j
invariant-loop-j l = TradesTo l.j l.initial.mails l.mails l.initial.outs l.outs
