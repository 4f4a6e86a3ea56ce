use Rattle.std.proofs.Common.{◌≡◌, length, ap, arith}
use Rattle.ltm_used.specs.Lists.{list_of}
use Rattle.ltm_lean.specs.declared.mail.Mail.{Mail}
use Rattle.ltm_lean.specs.Ends.{mail_width}
use Rattle.ltm_lean_make.proofs.First.{IsFirstMail}
use Rattle.ltm_lean_make.proofs.Pushed.{all_none, all_more}
use Rattle.ltm_lean_make.proofs.tables.mails_of.Goals as goal

pub loop-link-init : goal.loop-link-init
loop-link-init c = all_none Mail (IsFirstMail c.args.lists.now) c.new-mails.result.items c.new-mails.ensures.items

pub loop-link-preserved : goal.loop-link-preserved
loop-link-preserved c =
    let wide : mail_width c.in_ok-mail.mail ≡ length (list_of c.args.lists.now c.loop-link.link) = omega (arith, c.in_ok-mail.ensures.wide, ap length c.on.ensures) in
    all_more Mail (IsFirstMail c.args.lists.now) c.loop-link.link c.loop-link.mails.items c.push.new.self.items c.in_ok-mail.mail c.in_ok-push.ensures.items c.loop-link.invariant
    (record { wide = wide; none = c.in_ok-mail.ensures.none })

pub returns-clause-wide : goal.returns-clause-wide
returns-clause-wide c = λ l d m. (c.loop-link.invariant.each l d (omega (arith, m, c.loop-link-test.false))).wide

pub returns-clause-none : goal.returns-clause-none
returns-clause-none c = λ l d m. (c.loop-link.invariant.each l d (omega (arith, m, c.loop-link-test.false))).none
