use Rattle.ltm_lean.specs.declared.mail.Mail.{Mail}
use Rattle.ltm_lean_make.proofs.First.{IsFirstMail}
use Rattle.ltm_lean_make.proofs.Pushed.{AreAll}
use Rattle.ltm_lean_make.proofs.tables.mails_of.Given as goal

abbrev pub invariant-loop-link : goal.invariant-loop-link
invariant-loop-link l = AreAll Mail (IsFirstMail l.lists) l.link l.mails.items
