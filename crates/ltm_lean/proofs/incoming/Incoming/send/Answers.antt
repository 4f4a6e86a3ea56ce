use Rattle.std.proofs.Common.{ℕ, List, arith, sym, subst}
use Rattle.ltm_setting.specs.Setting.{setting_of}
use Rattle.ltm_used.specs.Lists.{list_of}
use Rattle.ltm_lean_node.specs.Places.{ArePlaces}
use Rattle.ltm_lean_link.specs.Moved.{IsLinkAt, HasCome}
use Rattle.ltm_lean.specs.declared.mail.Mail.{Mail}
use Rattle.ltm_lean.proofs.incoming.Incoming.send.Goals as goal

pub returns-clause-sends : goal.returns-clause-sends
returns-clause-sends c = λ counts us load frozen stood order placed long.
    let s = setting_of c.args.scenario.now in
    let l : ℕ = c.args.self.now.link.0 in
    let ds : List ℕ = list_of c.args.tables.now.links l in
    let come : HasCome s counts l ds c.args.slot c.index-mail.result.now.came c.deref.result.now =
    subst (HasCome s counts l ds c.args.slot c.index-mail.result.now.came) (sym c.deref.ensures.value)
    (subst (λ (m : Mail). HasCome s counts l ds c.args.slot m.came m.numbers.items) (sym c.index-mail.ensures) (frozen.came l c.index-mail.result.now c.requires.link)) in
    let at : IsLinkAt s counts l c.args.slot ds c.args.tables.now.entered c.args.tables.now.left c.take_in_last.new.standing = record {
      listed = c.requires.tables.link_listed counts l load c.requires.link;
      up = frozen.up;
      down = frozen.down;
      stands = c.in_ok-take_in_last.ensures.ok s counts l ds (c.requires.tables.link_listed counts l load c.requires.link) (omega (arith, c.requires.slot)) come stood;
    } in
    c.send_listed.ensures.sends counts ds us at order (subst (ArePlaces ds us) (sym c.deref-2.ensures.value) placed) long

pub returns-clause-stands : goal.returns-clause-stands
returns-clause-stands c = λ counts load frozen stood.
    let s = setting_of c.args.scenario.now in
    let l : ℕ = c.args.self.now.link.0 in
    let ds : List ℕ = list_of c.args.tables.now.links l in
    let come : HasCome s counts l ds c.args.slot c.index-mail.result.now.came c.deref.result.now =
    subst (HasCome s counts l ds c.args.slot c.index-mail.result.now.came) (sym c.deref.ensures.value)
    (subst (λ (m : Mail). HasCome s counts l ds c.args.slot m.came m.numbers.items) (sym c.index-mail.ensures) (frozen.came l c.index-mail.result.now c.requires.link)) in
    c.send_listed.ensures.stands counts ds
    (record {
      listed = c.requires.tables.link_listed counts l load c.requires.link;
      up = frozen.up;
      down = frozen.down;
      stands = c.in_ok-take_in_last.ensures.ok s counts l ds (c.requires.tables.link_listed counts l load c.requires.link) (omega (arith, c.requires.slot)) come stood;
    })
