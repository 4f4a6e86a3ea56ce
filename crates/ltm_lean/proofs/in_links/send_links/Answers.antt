use Rattle.std.proofs.Common.{ℕ, ◌+◌, ◌*◌, ◌<◌, List, length, slice_index, slice_index_or, arith, sym, ap, subst, ◌∙◌}
use Rattle.std.proofs.lemmas.List.{get_or_default}
use Rattle.ltm_setting.specs.Setting.{setting_of}
use Rattle.ltm_used.specs.Lists.{list_of}
use Rattle.ltm_lean_node.specs.Places.{AreApart}
use Rattle.ltm_lean_node.proofs.Placing.{ascends_rise}
use Rattle.ltm_lean_link.proofs.Scattered.{places_apart}
use Rattle.ltm_lean.proofs.Putting.{put_incoming}
use Rattle.ltm_lean.proofs.Sent.{sent_more}
use Rattle.ltm_lean.proofs.in_links.send_links.Goals as goal

pub send_at-requires-clause-apart : goal.send_at-requires-clause-apart
send_at-requires-clause-apart c =
    let s = setting_of c.args.scenario.now in
    let l : ℕ = s.in_link c.args.node c.loop-i.i in
    let there : c.loop-i.i < (setting_of c.args.scenario.now).ins c.args.node = omega (arith, c.loop-i-test.true, c.loop-i.auto.ins, c.loop-i.invariant.sent.links.count) in
    let link : s.in_link c.args.node c.loop-i.i < s.links = c.is_setting.ensures.setting.network.in_link_is_link c.args.node c.loop-i.i c.requires.node there in
    let ds : List ℕ = list_of c.args.tables.now.links l in
    let us : List ℕ = list_of c.args.tables.now.nodes c.args.node in
    subst (AreApart (slice_index_or c.loop-i.ins c.loop-i.i c.index-ins-i.result).places.items) (sym c.requires.wide)
    (places_apart ds us (slice_index_or c.loop-i.ins c.loop-i.i c.index-ins-i.result).places.items (ascends_rise 0 s.destinations ds (c.requires.tables.link_order l link)) (c.loop-i.invariant.sent.links.each c.loop-i.i c.index-ins-i.result there).placed)

pub returns-in_err-send_at-clause-links : goal.returns-in_err-send_at-clause-links
returns-in_err-send_at-clause-links c =
    let l : c.loop-i.i < length c.loop-i.ins = omega (arith, c.loop-i-test.true, c.loop-i.auto.ins) in
    put_incoming (setting_of c.args.scenario.now) c.args.tables.now c.args.node c.loop-i.i c.loop-i.ins (slice_index_or c.loop-i.ins c.loop-i.i c.index-ins-i.result) c.send_at.new.link c.loop-i.invariant.sent.links l
    (get_or_default c.loop-i.ins c.loop-i.i c.index-ins-i.result (slice_index_or c.loop-i.ins c.loop-i.i c.index-ins-i.result) l) c.send_at.ensures.same

pub loop-i-preserved : goal.loop-i-preserved
loop-i-preserved c =
    let l : c.loop-i.i < length c.loop-i.ins = omega (arith, c.loop-i-test.true, c.loop-i.auto.ins) in
    record {
      place = omega (arith, c.loop-i.invariant.place);
      sent = sent_more (setting_of c.args.scenario.now) c.args.tables.now c.args.node c.args.slot c.args.wide c.args.ins.now c.loop-i.ins (slice_index_or c.loop-i.ins c.loop-i.i c.index-ins-i.result) c.send_at.new.link c.loop-i.row c.send_at.new.row
          c.loop-i.i c.loop-i.from c.requires.tables c.requires.node c.requires.wide c.loop-i.invariant.place l c.loop-i.invariant.sent
          (get_or_default c.loop-i.ins c.loop-i.i c.index-ins-i.result (slice_index_or c.loop-i.ins c.loop-i.i c.index-ins-i.result) l) c.send_at.ensures.same c.send_at.ensures.others
          c.in_ok-send_at.ensures.sends c.in_ok-send_at.ensures.stands;
    }

pub returns-clause-sends : goal.returns-clause-sends
returns-clause-sends c = λ counts load frozen stand i k l m.
    ap (λ (q : ℕ). slice_index c.loop-i.row (i * q + k)) (sym c.requires.wide)
    ∙ c.loop-i.invariant.sent.sends counts load frozen stand i k (omega (arith, l, c.loop-i-test.false, c.loop-i.auto.ins, c.loop-i.invariant.sent.links.count)) (omega (arith, m, c.requires.wide))
