use Rattle.std.proofs.Common.{◌≡◌, ℕ, ◌+◌, ◌-◌, ◌*◌, ◌<◌, ◌≤◌, List, ◌++◌, length, take, slice_index, arith, sym, ap, subst, ◌∙◌, length-take-le}
use Rattle.std.proofs.Math.Nat.{mul-le-mul_right}
use Rattle.std.proofs.lemmas.List.{get_or-take, with_items_is}
use Rattle.ltm_curve.specs.Counts.{Counts}
use Rattle.ltm_loading.specs.Setting.{Setting}
use Rattle.ltm_loading.specs.Flows.{link_sending, origin_sending}
use Rattle.ltm_loading.specs.Pairs.{arms_of}
use Rattle.ltm_origin.specs.Waiting.{HasLeft}
use Rattle.ltm_setting.specs.Setting.{setting_of}
use Rattle.ltm_setting.proofs.Links.{some_out, no_out}
use Rattle.ltm_used.specs.Lists.{list_of}
use Rattle.ltm_lean_node.specs.Rows.{AreSent}
use Rattle.ltm_lean_node.proofs.Written.{in_first, in_rest}
use Rattle.ltm_lean.specs.Nodes.{StandAt}
use Rattle.ltm_lean.proofs.Arms.{arms_sent}
use borrow.Rule.Slice.PartMut.{put_mid, post_of}
use Rattle.ltm_lean.proofs.slot.send_all.Goals as goal

-- the origin's part behind those of the links
origin_behind : (s : Setting) (c : Counts) (u t from w : ℕ) (us old into : List ℕ) → from ≡ s.ins u * length us → w ≡ length us → length into ≡ w → from ≤ length old
    → ((i k : ℕ) → i < s.ins u → k < length us → slice_index old (i * length us + k) ≡ link_sending s c (s.in_link u i) t (slice_index us k))
    → ((k : ℕ) → k < length us → slice_index into k ≡ origin_sending s c u t (slice_index us k)) → AreSent s c u t us (put_mid from (from + w - from) old into)
origin_behind s c u t from w us old into place wide long room links origin =
    let rest : List ℕ = post_of from (from + w - from) old in
    let front : length (take from old) ≡ from = length-take-le from old room in
    arms_sent s c u t us (put_mid from (from + w - from) old into)
    (λ i k l m.
    let end : (i + 1) * length us ≤ s.ins u * length us = mul-le-mul_right (length us) (omega (arith, l)) in
    let below : i * length us + k < from = omega (arith, end, place, m) in
    in_first (take from old) (into ++ rest) (i * length us + k) (omega (arith, below, front)) ∙ (get_or-take from old (i * length us + k) 0 below ∙ links i k l m))
    (λ some k m. in_rest (take from old) (into ++ rest) (s.ins u * length us + k) k (omega (arith, place, front)) ∙ (in_first into rest k (omega (arith, m, wide, long)) ∙ origin k m))

pub returns-then-not-is_empty-clause-sent : goal.returns-then-not-is_empty-clause-sent
returns-then-not-is_empty-clause-sent c = λ counts load frozen stood.
    let s = setting_of c.args.scenario.now in
    let u : ℕ = c.args.node.now.node.0 in
    let us : List ℕ = list_of c.args.tables.now.nodes u in
    let some : 0 < s.outs u = some_out c.is_empty.result c.args.node.now.outs.len (s.outs u) c.if-not-is_empty.true c.is_empty.ensures (c.args.node.now.outs.ok.0 ∙ c.requires.node.outgoing.count) in
    let count : c.len.result ≡ s.ins u = omega (arith, c.len.ensures, ap length c.deref_mut.ensures.value, c.deref_mut.ensures.len, c.requires.node.incoming.count) in
    let wide : length c.on-list.result.now ≡ length us = ap length c.on-list.ensures in
    let place : c.len.result * length c.on-list.result.now ≡ s.ins u * length us = ap (λ (q : ℕ). q * length c.on-list.result.now) count ∙ ap (λ (q : ℕ). s.ins u * q) wide in
    let arms : (s.ins u + 1) * length us ≤ arms_of s u * length us = mul-le-mul_right (length us) (omega (arith, some)) in
    let room : c.len.result * length c.on-list.result.now + length c.on-list.result.now ≤ length c.send_links.new.row = omega (arith, place, wide, arms, c.requires.room, c.send_links.auto.row) in
    let stand : StandAt s counts c.args.tables.now u (c.args.slot - 1) c.args.slot c.deref_mut.result.now = subst (StandAt s counts c.args.tables.now u (c.args.slot - 1) c.args.slot) (sym c.deref_mut.ensures.value) stood.links in
    let left : HasLeft s counts u c.args.slot c.on-list.result.now c.args.node.now.left c.deref.result.now =
    subst (λ (ds : List ℕ). HasLeft s counts u c.args.slot ds c.args.node.now.left c.deref.result.now) (sym c.on-list.ensures)
    (subst (HasLeft s counts u c.args.slot us c.args.node.now.left) (sym c.deref.ensures.value) (stood.origin some)) in
    origin_behind s counts u c.args.slot (c.len.result * length c.on-list.result.now) (length c.on-list.result.now) us c.send_links.new.row c.origin_sends_listed.new.into place wide
    (omega (arith, c.origin_sends_listed.auto.into, room)) (omega (arith, room)) (c.in_ok-send_links.ensures.sends counts load frozen stand)
    (λ k m. c.origin_sends_listed.ensures counts load left k (omega (arith, m, wide)) ∙ ap (λ (ds : List ℕ). origin_sending s counts u c.args.slot (slice_index ds k)) c.on-list.ensures)

pub returns-then-not-is_empty-clause-stands : goal.returns-then-not-is_empty-clause-stands
returns-then-not-is_empty-clause-stands c = λ counts load frozen stood.
    let s = setting_of c.args.scenario.now in
    let u : ℕ = c.args.node.now.node.0 in
    record {
      links = subst (StandAt s counts c.args.tables.now u c.args.slot c.args.slot) (sym (with_items_is c.args.node.now.ins c.send_links.new.ins (omega (arith, c.send_links.auto.ins, c.deref_mut.ensures.len))))
          (c.in_ok-send_links.ensures.stands counts load frozen (subst (StandAt s counts c.args.tables.now u (c.args.slot - 1) c.args.slot) (sym c.deref_mut.ensures.value) stood.links));
      origin = stood.origin;
    }

pub returns-else-not-is_empty-clause-sent : goal.returns-else-not-is_empty-clause-sent
returns-else-not-is_empty-clause-sent c = λ counts load frozen stood.
    let s = setting_of c.args.scenario.now in
    let u : ℕ = c.args.node.now.node.0 in
    let us : List ℕ = list_of c.args.tables.now.nodes u in
    let stand : StandAt s counts c.args.tables.now u (c.args.slot - 1) c.args.slot c.deref_mut.result.now = subst (StandAt s counts c.args.tables.now u (c.args.slot - 1) c.args.slot) (sym c.deref_mut.ensures.value) stood.links in
    arms_sent s counts u c.args.slot us c.send_links.new.row (c.in_ok-send_links.ensures.sends counts load frozen stand)
    (λ some k m. absurd (omega (arith, some, no_out c.is_empty.result c.args.node.now.outs.len (s.outs u) c.if-not-is_empty.false c.is_empty.ensures (c.args.node.now.outs.ok.0 ∙ c.requires.node.outgoing.count))))

pub returns-else-not-is_empty-clause-stands : goal.returns-else-not-is_empty-clause-stands
returns-else-not-is_empty-clause-stands c = λ counts load frozen stood.
    let s = setting_of c.args.scenario.now in
    let u : ℕ = c.args.node.now.node.0 in
    record {
      links = subst (StandAt s counts c.args.tables.now u c.args.slot c.args.slot) (sym (with_items_is c.args.node.now.ins c.send_links.new.ins (omega (arith, c.send_links.auto.ins, c.deref_mut.ensures.len))))
          (c.in_ok-send_links.ensures.stands counts load frozen (subst (StandAt s counts c.args.tables.now u (c.args.slot - 1) c.args.slot) (sym c.deref_mut.ensures.value) stood.links));
      origin = stood.origin;
    }
