use Rattle.std.proofs.Common.{ℕ, ◌≡◌, ◌≤◌, ◌<◌, ◌+◌, ◌∙◌, List, ap, arith, drop, length, inl, inr, set, get_or-set_same, get_or-set_other, slice_index}
use Rattle.std.proofs.lemmas.Bool.{cases_eq}
use Rattle.std.proofs.lemmas.List.{length-take-le, length-drop}
use Rattle.ltm_curve.proofs.Lists.{list_from}
use Rattle.ltm_curve.specs.First.{list_below}
use Rattle.ltm_curve.specs.Table.{counts_of}
use Rattle.ltm_loading.specs.Flows.{link_sending, position}
use Rattle.ltm_setting.specs.Setting.{setting_of}
use Rattle.ltm_inputs.specs.Parts.{link_at}
use Rattle.ltm_setting.proofs.Links.{link_item}
use Rattle.ltm_inputs.proofs.Filling.{row_fits, filled_more, set_next}
use Rattle.ltm_inputs.proofs.sending.put_links_at.Goals as goal

-- one more number is written, and none is past a bound
bounded_next : (xs : List ℕ) (i v most : ℕ) → ((j : ℕ) → j < i → slice_index xs j ≤ most) → i < length xs → v ≤ most → (j : ℕ) → j < i + 1 → slice_index (set xs i v) j ≤ most
bounded_next xs i v most before l here j less =
    elim (cases_eq j i) [
      | inl same ↦ omega (arith, here, ap (slice_index (set xs i v)) same, get_or-set_same xs i v 0 l)
      | inr other ↦ omega (arith, get_or-set_other xs i j v 0 other, before j (omega (arith, less, other)))
    ]

pub loop-arm-preserved : goal.loop-arm-preserved
loop-arm-preserved g c =
    let s = setting_of c.args.front.scenario.now in
    let counts = counts_of c.args.front.curves.now in
    let links = c.args.links.now in
    let i : ℕ = c.loop-arm.arm in
    let wide : c.destinations-destinations.result ≡ s.destinations = omega (arith, c.destinations-destinations.ensures, c.requires.ready.shape.same_destinations) in
    let f : ℕ → ℕ → ℕ = λ k d. link_sending s counts (link_at links k) c.args.slot d in
    let at : i < length c.loop-arm.positions = omega (arith, c.loop-arm-test.true, c.loop-arm.auto.positions, c.requires.places) in
    let room : i < length c.loop-arm.capacity = omega (arith, c.loop-arm-test.true, c.loop-arm.auto.capacity, c.requires.arms) in
    let fits : c.loop-arm.place + s.destinations ≤ length c.loop-arm.into =
    row_fits c.loop-arm.into c.loop-arm.place i s.destinations (length links) f c.loop-arm.invariant.filled c.loop-arm-test.true (omega (arith, c.loop-arm.auto.into, c.requires.room)) in
    let long : length c.link_sends.new.into ≡ s.destinations =
    c.link_sends.auto.into ∙ (length-take-le _ (drop c.loop-arm.place c.loop-arm.into) (omega (arith, wide, length-drop c.loop-arm.place c.loop-arm.into)) ∙ omega (arith, wide)) in
    let row : c.link_sends.new.into ≡ list_below s.destinations (f i) =
    list_from s.destinations (f i) c.link_sends.new.into long (λ d l. c.link_sends.ensures.sends d l ∙ ap (λ (z : ℕ). link_sending s counts z c.args.slot d) (link_item links i c.loop-arm-test.true)) in
    record {
      filled = filled_more c.loop-arm.into c.loop-arm.place i s.destinations c.destinations-destinations.result _ (length links) f c.link_sends.new.into c.loop-arm.invariant.filled c.loop-arm-test.true (omega (arith, c.loop-arm.auto.into, c.requires.room))
          wide (omega (arith, wide)) row;
      positions = set_next c.loop-arm.positions i c.link_sends.result (λ j. position s counts (link_at links j) c.args.slot) c.loop-arm.invariant.positions at
          (c.link_sends.ensures.position ∙ ap (λ (z : ℕ). position s counts z c.args.slot) (link_item links i c.loop-arm-test.true));
      below = bounded_next c.loop-arm.positions i c.link_sends.result c.args.slot c.loop-arm.invariant.below at c.link_sends.ensures.below;
      capacities = set_next c.loop-arm.capacity i c.capacity-most.result (λ j. s.capacity (link_at links j) c.args.slot) c.loop-arm.invariant.capacities room
          (c.capacity-most.ensures ∙ ap (λ l. s.capacity l c.args.slot) (link_item links i c.loop-arm-test.true));
    }
