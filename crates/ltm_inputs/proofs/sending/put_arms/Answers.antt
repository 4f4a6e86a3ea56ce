use Rattle.std.proofs.Common.{ℕ, ◌≤◌, slice_index, ◌≡◌, ◌+◌, ◌*◌, ◌<◌, ◌∙◌, List, ◌++◌, ap, sym, length, arith}
use Rattle.std.proofs.Math.ListN.{length-set}
use Rattle.ltm_curve.proofs.Lists.{list_from}
use Rattle.ltm_curve.specs.First.{list_below}
use Rattle.ltm_curve.specs.Counts.{Counts}
use Rattle.ltm_curve.specs.Table.{counts_of}
use Rattle.ltm_loading.specs.Setting.{Setting}
use Rattle.ltm_loading.specs.Flows.{link_sending, origin_sending, position}
use Rattle.ltm_loading.specs.Pairs.{arms_of, arm_capacity, sending, grid}
use Rattle.ltm_loading.proofs.Picks.{pick_first, pick_second}
use Rattle.ltm_setting.specs.Setting.{setting_of}
use Rattle.ltm_units.specs.declared.places.LinkId.{LinkId}
use Rattle.ltm_inputs.specs.Parts.{link_at, ArePositions}
use Rattle.ltm_inputs.proofs.Arms.{arms_alone, arms_origin}
use Rattle.ltm_inputs.proofs.Filling.{nothing_behind, set_next}
use Rattle.ltm_inputs.proofs.sending.put_arms.Goals as goal

pub returns-then-outs-ne0-clause-sends : goal.returns-then-outs-ne0-clause-sends
returns-then-outs-ne0-clause-sends g c =
    let s = setting_of c.args.front.scenario.now in
    let counts = counts_of c.args.front.curves.now in
    let links = c.in_links-links.result.now in
    let u = c.args.pair.node.0 in
    let t = c.args.pair.slot in
    let w : ℕ = s.destinations in
    let f : ℕ → ℕ → ℕ = sending s counts u t in
    let g : ℕ → ℕ → ℕ = λ i d. link_sending s counts (link_at links i) t d in
    let h : ℕ → ℕ = origin_sending s counts u t in
    let some : 0 < s.outs u = omega (arith, c.requires.outs) in
    let all : arms_of s u * w ≡ (length links + 1) * w = ap (λ (z : ℕ). z * w) (omega (arith, some, c.in_links-links.ensures.count)) in
    let mid : length links * c.destinations-destinations.result ≡ length links * w = ap (λ (z : ℕ). length links * z) (c.destinations-destinations.ensures ∙ c.requires.ready.shape.same_destinations) in
    let long : length c.origin_sends.new.into ≡ w = omega (arith, c.origin_sends.auto.into, c.split_at_mut-of_links.ensures.back_len, c.requires.room, all, mid) in
    let origin : c.origin_sends.new.into ≡ list_below w h = list_from w h c.origin_sends.new.into long c.origin_sends.ensures in
    ap (λ (z : List ℕ). z ++ c.origin_sends.new.into) c.put_links_at.ensures.sends
    ∙ (ap (λ (z : List ℕ). grid (length links) w g ++ z) origin
    ∙ arms_origin (length links) w s u f g h c.in_links-links.ensures.count some
    (λ i d l x. ap (λ (z : ℕ). link_sending s counts z t d) (c.in_links-links.ensures.links i (omega (arith, c.in_links-links.ensures.count))) ∙ sym (pick_first i (s.ins u) (link_sending s counts (s.in_link u i) t d) (origin_sending s counts u t d) l))
    (λ d l. sym (pick_second (s.ins u) (s.ins u) (link_sending s counts (s.in_link u (s.ins u)) t d) (origin_sending s counts u t d) (omega arith))))

pub returns-else-outs-ne0-clause-sends : goal.returns-else-outs-ne0-clause-sends
returns-else-outs-ne0-clause-sends g c =
    let s = setting_of c.args.front.scenario.now in
    let counts = counts_of c.args.front.curves.now in
    let links = c.in_links-links.result.now in
    let u = c.args.pair.node.0 in
    let t = c.args.pair.slot in
    let w : ℕ = s.destinations in
    let none : s.outs u ≡ 0 = omega (arith, c.requires.outs) in
    let all : arms_of s u * w ≡ length links * w = ap (λ (z : ℕ). z * w) (omega (arith, none, c.in_links-links.ensures.count)) in
    let mid : length links * c.destinations-destinations.result ≡ length links * w = ap (λ (z : ℕ). length links * z) (c.destinations-destinations.ensures ∙ c.requires.ready.shape.same_destinations) in
    nothing_behind c.put_links_at.new.into c.split_at_mut-of_links.result.1.now (omega (arith, c.split_at_mut-of_links.ensures.back_len, c.requires.room, all, mid))
    ∙ (c.put_links_at.ensures.sends
    ∙ arms_alone (length links) w s u (sending s counts u t) (λ i d. link_sending s counts (link_at links i) t d) c.in_links-links.ensures.count none
    (λ i d l x. ap (λ (z : ℕ). link_sending s counts z t d) (c.in_links-links.ensures.links i (omega (arith, c.in_links-links.ensures.count))) ∙ sym (pick_first i (s.ins u) (link_sending s counts (s.in_link u i) t d) (origin_sending s counts u t d) l)))

-- the positions of the links are those of the node
positions : (s : Setting) (c : Counts) (u t : ℕ) (links : List LinkId) (xs : List ℕ) → length links ≡ s.ins u → ((i : ℕ) → i < length links → link_at links i ≡ s.in_link u i) →
    ((i : ℕ) → i < length links → slice_index xs i ≡ position s c (link_at links i) t) → ((i : ℕ) → i < length links → slice_index xs i ≤ t) → ArePositions s c u t xs
positions s c u t links xs count same each below = record {
  each = λ i l. each i (omega (arith, count, l)) ∙ ap (λ (z : ℕ). position s c z t) (same i (omega (arith, count, l)));
  below = λ i l. below i (omega (arith, count, l));
}

pub returns-then-outs-ne0-clause-positions : goal.returns-then-outs-ne0-clause-positions
returns-then-outs-ne0-clause-positions g c =
    positions (setting_of c.args.front.scenario.now) (counts_of c.args.front.curves.now) c.args.pair.node.0 c.args.pair.slot c.in_links-links.result.now c.put_links_at.new.positions
    c.in_links-links.ensures.count c.in_links-links.ensures.links c.put_links_at.ensures.positions c.put_links_at.ensures.below

pub returns-else-outs-ne0-clause-positions : goal.returns-else-outs-ne0-clause-positions
returns-else-outs-ne0-clause-positions g c =
    positions (setting_of c.args.front.scenario.now) (counts_of c.args.front.curves.now) c.args.pair.node.0 c.args.pair.slot c.in_links-links.result.now c.put_links_at.new.positions
    c.in_links-links.ensures.count c.in_links-links.ensures.links c.put_links_at.ensures.positions c.put_links_at.ensures.below

pub returns-then-outs-ne0-clause-capacities : goal.returns-then-outs-ne0-clause-capacities
returns-then-outs-ne0-clause-capacities g c =
    let s = setting_of c.args.front.scenario.now in
    let links = c.in_links-links.result.now in
    let u = c.args.pair.node.0 in
    let t = c.args.pair.slot in
    let xs : List ℕ = c.put_links_at.new.capacity in
    let some : 0 < s.outs u = omega (arith, c.requires.outs) in
    let arms : length xs ≡ arms_of s u = omega (arith, c.put_links_at.auto.capacity, c.requires.arms) in
    let all : length links ≡ s.ins u = c.in_links-links.ensures.count in
    list_from (arms_of s u) (arm_capacity s u t) _ (length-set xs (length links) c.origin_capacity.result ∙ arms) (λ i l.
    set_next xs (length links) c.origin_capacity.result (arm_capacity s u t)
    (λ k m. c.put_links_at.ensures.capacities k m ∙ (ap (λ l. s.capacity l t) (c.in_links-links.ensures.links k m) ∙ sym (pick_first k (s.ins u) (s.capacity (s.in_link u k) t) s.origin_capacity (omega (arith, all))))) (omega (arith, some, arms, all))
    (c.origin_capacity.ensures.value ∙ sym (pick_second (length links) (s.ins u) (s.capacity (s.in_link u (length links)) t) s.origin_capacity (omega (arith, all)))) i (omega (arith, some, all)))

pub returns-else-outs-ne0-clause-capacities : goal.returns-else-outs-ne0-clause-capacities
returns-else-outs-ne0-clause-capacities g c =
    let s = setting_of c.args.front.scenario.now in
    let links = c.in_links-links.result.now in
    let u = c.args.pair.node.0 in
    let t = c.args.pair.slot in
    let xs : List ℕ = c.put_links_at.new.capacity in
    let none : s.outs u ≡ 0 = omega (arith, c.requires.outs) in
    let all : length links ≡ s.ins u = c.in_links-links.ensures.count in
    list_from (arms_of s u) (arm_capacity s u t) xs (omega (arith, c.put_links_at.auto.capacity, c.requires.arms)) (λ i l.
    c.put_links_at.ensures.capacities i (omega (arith, none, all)) ∙ (ap (λ l. s.capacity l t) (c.in_links-links.ensures.links i (omega (arith, none, all))) ∙ sym (pick_first i (s.ins u) (s.capacity (s.in_link u i) t) s.origin_capacity (omega (arith, none)))))
