use Rattle.std.proofs.Common.{List, length, slice_index_or, arith, sym, ap, subst, ◌∙◌, refl}
use Rattle.std.proofs.lemmas.List.{with_items_is}
use Rattle.ltm_setting.specs.Setting.{setting_of}
use Rattle.ltm_lean.specs.declared.mail.Mail.{Mail}
use Rattle.ltm_lean.specs.Ends.{mail_width}
use Rattle.ltm_lean_load.specs.Nodes.{gone_at, came_at}
use Rattle.ltm_lean_load.specs.Publishing.{TradesAll}
use Rattle.ltm_lean_load.proofs.Published.{ends_of, mail_wide_at, tables_published, frozen_published, nodes_published, all_published}
use Rattle.ltm_lean_load.proofs.publishing.publish.Goals as goal

pub add_all_left-requires-clause-ends : goal.add_all_left-requires-clause-ends
add_all_left-requires-clause-ends c = ends_of (setting_of c.args.scenario.now) c.args.tables.now c.args.nodes.now c.requires.nodes

pub add_all_entered-requires-clause-ends : goal.add_all_entered-requires-clause-ends
add_all_entered-requires-clause-ends c = ends_of (setting_of c.args.scenario.now) c.args.tables.now c.args.nodes.now c.requires.nodes

pub trade_all-requires-clause-ends : goal.trade_all-requires-clause-ends
trade_all-requires-clause-ends c = ends_of (setting_of c.args.scenario.now) c.args.tables.now c.args.nodes.now c.requires.nodes

pub trade_all-requires-clause-mails : goal.trade_all-requires-clause-mails
trade_all-requires-clause-mails c = ap length c.deref_mut.ensures.value ∙ c.requires.tables.mail_count

pub trade_all-requires-clause-wide : goal.trade_all-requires-clause-wide
trade_all-requires-clause-wide c = λ l d m.
    ap (λ (xs : List Mail). mail_width (slice_index_or xs l d)) c.deref_mut.ensures.value
    ∙ (c.requires.tables.mail_wide l d m ∙ sym (mail_wide_at (setting_of c.args.scenario.now) c.args.tables.now c.args.nodes.now l d c.is_setting.ensures.setting.network c.requires.nodes m))

pub returns-clause-tables : goal.returns-clause-tables
returns-clause-tables c =
    let s = setting_of c.args.scenario.now in
    let put = with_items_is c.args.tables.now.mails c.trade_all.new.mails (omega (arith, c.trade_all.auto.mails, c.deref_mut.ensures.len)) in
    tables_published s c.args.tables.now _ (came_at s c.args.nodes.now) (gone_at s c.args.nodes.now) c.args.slot c.args.nodes.now c.trade_all.new.nodes c.is_setting.ensures.setting.network c.requires.tables c.requires.nodes refl refl c.add_all_entered.ensures c.add_all_left.ensures
    (subst (λ (xs : List Mail). TradesAll s c.args.tables.now.mails.items xs c.args.nodes.now c.trade_all.new.nodes) (sym put)
    (subst (λ (xs : List Mail). TradesAll s xs c.trade_all.new.mails c.args.nodes.now c.trade_all.new.nodes) c.deref_mut.ensures.value c.trade_all.ensures))

pub returns-clause-nodes : goal.returns-clause-nodes
returns-clause-nodes c =
    let s = setting_of c.args.scenario.now in
    nodes_published s c.args.tables.now _ c.deref_mut.result.now c.trade_all.new.mails c.args.nodes.now c.trade_all.new.nodes refl refl c.trade_all.ensures c.requires.nodes

pub returns-clause-frozen : goal.returns-clause-frozen
returns-clause-frozen c = λ counts load frozen moved.
    let s = setting_of c.args.scenario.now in
    let put = with_items_is c.args.tables.now.mails c.trade_all.new.mails (omega (arith, c.trade_all.auto.mails, c.deref_mut.ensures.len)) in
    frozen_published s counts c.args.tables.now _ c.args.slot c.args.nodes.now c.trade_all.new.nodes c.is_setting.ensures.setting load c.requires.slot c.requires.nodes refl c.add_all_entered.ensures c.add_all_left.ensures
    (subst (λ (xs : List Mail). TradesAll s c.args.tables.now.mails.items xs c.args.nodes.now c.trade_all.new.nodes) (sym put)
    (subst (λ (xs : List Mail). TradesAll s xs c.trade_all.new.mails c.args.nodes.now c.trade_all.new.nodes) c.deref_mut.ensures.value c.trade_all.ensures)) frozen moved

pub returns-clause-stands : goal.returns-clause-stands
returns-clause-stands c = λ counts k t stood.
    let s = setting_of c.args.scenario.now in
    all_published s counts c.args.tables.now _ k t c.deref_mut.result.now c.trade_all.new.mails c.args.nodes.now c.trade_all.new.nodes refl refl c.requires.nodes.count c.trade_all.ensures stood
