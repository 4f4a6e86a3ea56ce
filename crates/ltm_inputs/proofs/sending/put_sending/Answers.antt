use Rattle.std.proofs.Common.{ℕ, ◌≡◌, ◌+◌, ◌*◌, ◌<◌, ◌∙◌, List, ◌++◌, ap, sym, length, arith}
use Rattle.ltm_curve.proofs.Lists.{list_from}
use Rattle.ltm_curve.specs.First.{list_below}
use Rattle.ltm_curve.specs.Table.{counts_of}
use Rattle.ltm_loading.specs.Flows.{link_sending, origin_sending}
use Rattle.ltm_loading.specs.Pairs.{arms_of, sending, grid}
use Rattle.ltm_loading.proofs.Picks.{pick_first, pick_second}
use Rattle.ltm_setting.specs.Setting.{setting_of}
use Rattle.ltm_inputs.specs.Parts.{link_at}
use Rattle.ltm_setting.proofs.Links.{some_out, no_out}
use Rattle.ltm_inputs.proofs.Arms.{arms_alone, arms_origin}
use Rattle.ltm_inputs.proofs.Filling.{nothing_behind}
use Rattle.ltm_inputs.proofs.sending.put_sending.Goals as goal

pub returns-then-not-is_empty : goal.returns-then-not-is_empty
returns-then-not-is_empty g c =
    let s = setting_of c.args.scenario.now in
    let counts = counts_of c.args.curves.now in
    let links = c.in_links-links.result.now in
    let u = c.args.pair.node.0 in
    let t = c.args.pair.slot in
    let w : ℕ = s.destinations in
    let f : ℕ → ℕ → ℕ = sending s counts u t in
    let g : ℕ → ℕ → ℕ = λ i d. link_sending s counts (link_at links i) t d in
    let h : ℕ → ℕ = origin_sending s counts u t in
    let some : 0 < s.outs u = some_out c.is_empty.result (length c.out_links.result.now) (s.outs u) c.if-not-is_empty.true c.is_empty.ensures c.out_links.ensures.count in
    let all : arms_of s u * w ≡ (length links + 1) * w = ap (λ (z : ℕ). z * w) (omega (arith, some, c.in_links-links.ensures.count)) in
    let mid : length links * c.destinations-destinations.result ≡ length links * w = ap (λ (z : ℕ). length links * z) (c.destinations-destinations.ensures ∙ c.requires.ready.shape.same_destinations) in
    let long : length c.origin_sends.new.into ≡ w = omega (arith, c.origin_sends.auto.into, c.split_at_mut-of_links.ensures.back_len, c.requires.room, all, mid) in
    let origin : c.origin_sends.new.into ≡ list_below w h = list_from w h c.origin_sends.new.into long c.origin_sends.ensures in
    ap (λ (z : List ℕ). z ++ c.origin_sends.new.into) c.put_links.ensures
    ∙ (ap (λ (z : List ℕ). grid (length links) w g ++ z) origin
    ∙ arms_origin (length links) w s u f g h c.in_links-links.ensures.count some
    (λ i d l x. ap (λ (z : ℕ). link_sending s counts z t d) (c.in_links-links.ensures.links i (omega (arith, c.in_links-links.ensures.count))) ∙ sym (pick_first i (s.ins u) (link_sending s counts (s.in_link u i) t d) (origin_sending s counts u t d) l))
    (λ d l. sym (pick_second (s.ins u) (s.ins u) (link_sending s counts (s.in_link u (s.ins u)) t d) (origin_sending s counts u t d) (omega arith))))

pub returns-else-not-is_empty : goal.returns-else-not-is_empty
returns-else-not-is_empty g c =
    let s = setting_of c.args.scenario.now in
    let counts = counts_of c.args.curves.now in
    let links = c.in_links-links.result.now in
    let u = c.args.pair.node.0 in
    let t = c.args.pair.slot in
    let w : ℕ = s.destinations in
    let none : s.outs u ≡ 0 = no_out c.is_empty.result (length c.out_links.result.now) (s.outs u) c.if-not-is_empty.false c.is_empty.ensures c.out_links.ensures.count in
    let all : arms_of s u * w ≡ length links * w = ap (λ (z : ℕ). z * w) (omega (arith, none, c.in_links-links.ensures.count)) in
    let mid : length links * c.destinations-destinations.result ≡ length links * w = ap (λ (z : ℕ). length links * z) (c.destinations-destinations.ensures ∙ c.requires.ready.shape.same_destinations) in
    nothing_behind c.put_links.new.into c.split_at_mut-of_links.result.1.now (omega (arith, c.split_at_mut-of_links.ensures.back_len, c.requires.room, all, mid))
    ∙ (c.put_links.ensures
    ∙ arms_alone (length links) w s u (sending s counts u t) (λ i d. link_sending s counts (link_at links i) t d) c.in_links-links.ensures.count none
    (λ i d l x. ap (λ (z : ℕ). link_sending s counts z t d) (c.in_links-links.ensures.links i (omega (arith, c.in_links-links.ensures.count))) ∙ sym (pick_first i (s.ins u) (link_sending s counts (s.in_link u i) t d) (origin_sending s counts u t d) l)))
