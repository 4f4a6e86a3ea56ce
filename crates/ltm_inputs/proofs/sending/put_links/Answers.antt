use Rattle.std.proofs.Common.{ℕ, ◌≡◌, ◌≤◌, ◌+◌, ◌∙◌, ap, arith, drop, length}
use Rattle.std.proofs.lemmas.List.{length-take-le, length-drop}
use Rattle.ltm_curve.proofs.Lists.{list_from}
use Rattle.ltm_curve.specs.First.{list_below}
use Rattle.ltm_curve.specs.Table.{counts_of}
use Rattle.ltm_loading.specs.Flows.{link_sending}
use Rattle.ltm_setting.specs.Setting.{setting_of}
use Rattle.ltm_inputs.specs.Parts.{link_at}
use Rattle.ltm_setting.proofs.Links.{link_item}
use Rattle.ltm_inputs.proofs.Filling.{row_fits, filled_more}
use Rattle.ltm_inputs.proofs.sending.put_links.Goals as goal

pub loop-link-preserved : goal.loop-link-preserved
loop-link-preserved g c =
    let s = setting_of c.args.scenario.now in
    let counts = counts_of c.args.curves.now in
    let links = c.args.links.now in
    let i : ℕ = c.loop-link.link-index in
    let wide : c.destinations-destinations.result ≡ s.destinations = omega (arith, c.destinations-destinations.ensures, c.requires.ready.shape.same_destinations) in
    let f : ℕ → ℕ → ℕ = λ k d. link_sending s counts (link_at links k) c.args.slot d in
    let fits : c.loop-link.place + s.destinations ≤ length c.loop-link.into =
    row_fits c.loop-link.into c.loop-link.place i s.destinations (length links) f c.loop-link.invariant c.loop-link-test.true (omega (arith, c.loop-link.auto.into, c.requires.room)) in
    let long : length c.link_sends_only.new.into ≡ s.destinations =
    c.link_sends_only.auto.into ∙ (length-take-le _ (drop c.loop-link.place c.loop-link.into) (omega (arith, wide, length-drop c.loop-link.place c.loop-link.into)) ∙ omega (arith, wide)) in
    let row : c.link_sends_only.new.into ≡ list_below s.destinations (f i) =
    list_from s.destinations (f i) c.link_sends_only.new.into long (λ d l. c.link_sends_only.ensures d l ∙ ap (λ (z : ℕ). link_sending s counts z c.args.slot d) (link_item links i c.loop-link-test.true)) in
    filled_more c.loop-link.into c.loop-link.place i s.destinations c.destinations-destinations.result _ (length links) f c.link_sends_only.new.into c.loop-link.invariant c.loop-link-test.true (omega (arith, c.loop-link.auto.into, c.requires.room))
    wide (omega (arith, wide)) row
