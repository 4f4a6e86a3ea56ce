use Rattle.std.proofs.Common.{◌≡◌, ℕ, ◌<◌, List, [], length, map, slice_index, slice_index_or, arith, sym, ap, subst, ◌∙◌, refl}
use Rattle.std.proofs.lemmas.List.{length-map, get_or_default, with_items_is}
use Rattle.ltm_setting.specs.Setting.{setting_of}
use Rattle.ltm_lean.specs.declared.mail.Mail.{Mail}
use Rattle.ltm_lean.specs.declared.node.LeanNode.{LeanNode}
use Rattle.ltm_lean.specs.declared.outgoing.Outgoing.{Outgoing}
use Rattle.ltm_lean.specs.Ends.{mail_width}
use Rattle.ltm_lean_load.specs.Adding.{AreDistinct}
use Rattle.ltm_lean_load.specs.Nodes.{links_out, mails_out}
use Rattle.ltm_lean_load.specs.Publishing.{TradesTo}
use Rattle.ltm_lean_load.proofs.Elements.{read_map}
use Rattle.ltm_lean_load.proofs.Adding.{tails, at_once}
use Rattle.ltm_lean_load.proofs.Trading.{wide_here, trade_for_more, trade_for_all, same_but_mails}
use Rattle.ltm_lean_load.proofs.mails.trade_all.Goals as goal

pub trade_mails-requires-clause-links : goal.trade_mails-requires-clause-links
trade_mails-requires-clause-links c =
    let u : ℕ = c.loop-u.u in
    let r : LeanNode = c.index-nodes-u.result in
    let there : c.loop-u.u < (setting_of c.args.scenario.now).nodes = omega (arith, c.loop-u-test.true, c.requires.ends.count, c.loop-u.invariant.long) in
    let was : c.deref_mut.result.now ≡ (slice_index_or c.args.nodes.now c.loop-u.u c.index-nodes-u.result).outs.items =
    c.deref_mut.ensures.value ∙ ap (λ (n : LeanNode). n.outs.items) (c.loop-u.invariant.later u r (omega arith)) in
    subst (λ (xs : List Outgoing). (j : ℕ) → j < length xs → slice_index (links_out xs) j < length c.loop-u.mails) (sym was)
    (λ j l.
    let low : j < (setting_of c.args.scenario.now).outs c.loop-u.u = omega (arith, l, c.requires.ends.outs u r there) in
    omega (arith, c.requires.ends.out_links u j r there low, c.is_setting.ensures.setting.network.out_link_is_link u j there low, c.requires.mails, c.loop-u.invariant.count))

pub trade_mails-requires-clause-apart : goal.trade_mails-requires-clause-apart
trade_mails-requires-clause-apart c =
    let s = setting_of c.args.scenario.now in
    let u : ℕ = c.loop-u.u in
    let r : LeanNode = c.index-nodes-u.result in
    let there : c.loop-u.u < (setting_of c.args.scenario.now).nodes = omega (arith, c.loop-u-test.true, c.requires.ends.count, c.loop-u.invariant.long) in
    let outs : List Outgoing = (slice_index_or c.args.nodes.now u r).outs.items in
    let was : c.deref_mut.result.now ≡ (slice_index_or c.args.nodes.now c.loop-u.u c.index-nodes-u.result).outs.items =
    c.deref_mut.ensures.value ∙ ap (λ (n : LeanNode). n.outs.items) (c.loop-u.invariant.later u r (omega arith)) in
    subst (λ (xs : List Outgoing). AreDistinct (links_out xs)) (sym was)
    (at_once s s.tail s.out_place s.outs s.out_link u (links_out outs) (tails s c.is_setting.ensures.setting.network) there
    (length-map outs (λ (x : Outgoing). x.link.0) ∙ c.requires.ends.outs u r there) (λ j l. c.requires.ends.out_links u j r there l))

pub trade_mails-requires-clause-wide : goal.trade_mails-requires-clause-wide
trade_mails-requires-clause-wide c =
    let s = setting_of c.args.scenario.now in
    let u : ℕ = c.loop-u.u in
    let r : LeanNode = c.index-nodes-u.result in
    let there : c.loop-u.u < (setting_of c.args.scenario.now).nodes = omega (arith, c.loop-u-test.true, c.requires.ends.count, c.loop-u.invariant.long) in
    let was : c.deref_mut.result.now ≡ (slice_index_or c.args.nodes.now c.loop-u.u c.index-nodes-u.result).outs.items =
    c.deref_mut.ensures.value ∙ ap (λ (n : LeanNode). n.outs.items) (c.loop-u.invariant.later u r (omega arith)) in
    subst (λ (xs : List Outgoing). (j : ℕ) (d : Mail) → j < length xs → mail_width (slice_index_or c.loop-u.mails (slice_index (links_out xs) j) d) ≡ mail_width (slice_index_or (mails_out xs) j d)) (sym was)
    (λ j d l. wide_here s u c.args.mails.now c.loop-u.mails c.args.nodes.now c.loop-u.nodes r (tails s c.is_setting.ensures.setting.network) c.requires.ends there c.requires.wide c.loop-u.invariant j d
    (omega (arith, l, c.requires.ends.outs u r there)))

pub loop-u-preserved : goal.loop-u-preserved
loop-u-preserved c =
    let s = setting_of c.args.scenario.now in
    let u : ℕ = c.loop-u.u in
    let r : LeanNode = c.index-nodes-u.result in
    let y : LeanNode = slice_index_or c.loop-u.nodes u r in
    let inside : c.loop-u.u < length c.loop-u.nodes = omega (arith, c.loop-u-test.true, c.loop-u.invariant.long) in
    let old_inside : c.loop-u.u < length c.args.nodes.now = omega (arith, inside, c.loop-u.invariant.long) in
    let there : c.loop-u.u < (setting_of c.args.scenario.now).nodes = omega (arith, old_inside, c.requires.ends.count) in
    let was : slice_index_or c.loop-u.nodes c.loop-u.u c.index-nodes-u.result ≡ slice_index_or c.args.nodes.now c.loop-u.u c.index-nodes-u.result = c.loop-u.invariant.later u r (omega arith) in
    let traded : TradesTo (length (slice_index_or c.loop-u.nodes c.loop-u.u c.index-nodes-u.result).outs.items) c.loop-u.mails c.trade_mails.new.mails (slice_index_or c.loop-u.nodes c.loop-u.u c.index-nodes-u.result).outs.items c.trade_mails.new.outs =
    subst (λ (xs : List Outgoing). TradesTo (length xs) c.loop-u.mails c.trade_mails.new.mails xs c.trade_mails.new.outs) c.deref_mut.ensures.value c.trade_mails.ensures in
    let put = with_items_is y.outs c.trade_mails.new.outs (omega (arith, c.trade_mails.auto.outs, c.deref_mut.ensures.len)) in
    let trades = subst (λ (xs : List Outgoing). TradesTo (length y.outs.items) c.loop-u.mails c.trade_mails.new.mails y.outs.items xs) (sym put) traded in
    trade_for_more s u c.args.mails.now c.loop-u.mails c.trade_mails.new.mails c.args.nodes.now c.loop-u.nodes y _ (tails s c.is_setting.ensures.setting.network) there c.requires.ends.count
    (ap (λ (n : LeanNode). length n.outs.items) was ∙ c.requires.ends.outs u r there)
    (λ j l. ap (λ (n : LeanNode). slice_index (links_out n.outs.items) j) was ∙ c.requires.ends.out_links u j r there l)
    (λ l d m e. ap (λ (n : LeanNode). slice_index_or (mails_out n.outs.items) (s.out_place l) d) was
    ∙ (ap (λ (ys : List Mail). slice_index_or ys (s.out_place l) d) (read_map LeanNode (List Mail) (λ (n : LeanNode). mails_out n.outs.items) c.args.nodes.now u [] r old_inside)
    ∙ ap (λ (q : ℕ). slice_index_or (slice_index_or (map (λ (n : LeanNode). mails_out n.outs.items) c.args.nodes.now) q []) (s.out_place l) d) (sym e)))
    c.loop-u.invariant (get_or_default c.loop-u.nodes u r y inside) trades (same_but_mails y _ c.loop-u.mails c.trade_mails.new.mails refl refl refl refl refl refl trades)

pub returns : goal.returns
returns c =
    let s = setting_of c.args.scenario.now in
    trade_for_all s c.loop-u.u c.args.mails.now c.loop-u.mails c.args.nodes.now c.loop-u.nodes
    (λ l m. omega (arith, c.is_setting.ensures.setting.network.tail_is_node l m, c.loop-u-test.false, c.requires.ends.count, c.loop-u.invariant.long)) (omega (arith, c.loop-u-test.false, c.loop-u.invariant.long)) c.loop-u.invariant
