use Rattle.std.proofs.Common.{rules, ◌≡◌, length, sym, subst}
use Rattle.std.proofs.lemmas.List.{take_at}
use Rattle.ltm_standing.specs.Listed.{HasEntered}
use Rattle.ltm_lean.proofs.mail.Mail.write.Goals as goal

pub returns-clause-entered : goal.returns-clause-entered
returns-clause-entered c = λ s counts l t ds us moved.
    let long : length c.enter_listed-self.new.mail ≡ c.args.self.now.numbers.len = search rules in
    subst (HasEntered s counts l ds t c.enter_listed-self.result) (sym (take_at c.enter_listed-self.new.mail _ c.args.self.now.numbers.len long)) (c.enter_listed-self.ensures.entered s counts l t ds us moved)
