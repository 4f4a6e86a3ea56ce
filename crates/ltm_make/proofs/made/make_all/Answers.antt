use Rattle.std.proofs.Common.{◌≡◌, ◌∙◌, ◌-◌, ◌*◌, ◌%◌, ℕ, List, length, ap, arith, subst, sym, IsOk}
use Rattle.rand_pcg.specs.Lcg.{Lcg}
use Rattle.ltm_network.specs.Network.{NetworkData}
use Rattle.ltm_scenario.specs.declared.edit.Edit.{Edit}
use Rattle.ltm_scenario.specs.Data.{ScenarioData}
use Rattle.ltm_scenario.specs.Valid.{IsValid}
use Rattle.ltm_scenario.specs.IsScenario.{IsScenario}
use Rattle.ltm_scenario.specs.Edits.{edited_all}
use Rattle.ltm_make.specs.declared.making.Making.{Making}
use Rattle.ltm_make.specs.Words.{word, rest}
use Rattle.ltm_make.specs.Splits.{IsGrid}
use Rattle.ltm_make.specs.MadeCase.{made_from, two_edits, bytes_of, IsMade}
use Rattle.ltm_make.proofs.CaseMade.{one_width, made_valid, made_links}
use Rattle.ltm_make.proofs.Accepting.{made_accepted}
use Rattle.ltm_make.proofs.made.make_all.Goals as goal

pub draw-link-requires : goal.draw-link-requires
draw-link-requires c =
    let g : IsGrid c.args.nodes c.width_of-width.result = record { some = c.requires.some; few = c.requires.few; wide = c.width_of-width.ensures.width } in
    omega (
      arith,
      c.links-links.ensures.count,
      ap (λ (d : NetworkData). length d.links) (c.network.ensures ∙ ap (λ (m : Making). m.scenario.network) c.in_ok-making.ensures),
      made_links c.args.start c.args.nodes c.width_of-width.result g,
    )

pub returns-clause-made : goal.returns-clause-made
returns-clause-made c width wide =
    let w : ℕ = c.width_of-width.result in
    let m : c.in_ok-making.making ≡ made_from c.args.start c.args.nodes c.width_of-width.result = c.in_ok-making.ensures in
    let links : c.links-links.result ≡ length (made_from c.args.start c.args.nodes c.width_of-width.result).scenario.network.links =
    c.links-links.ensures.count ∙ ap (λ (d : NetworkData). length d.links) (c.network.ensures ∙ ap (λ (x : Making). x.scenario.network) m) in
    let link : c.draw-link.result ≡ word (made_from c.args.start c.args.nodes c.width_of-width.result).words % length (made_from c.args.start c.args.nodes c.width_of-width.result).scenario.network.links =
    c.draw-link.ensures.value ∙ (ap (λ (x : Making). word x.words % c.links-links.result) m ∙ ap (λ (n : ℕ). word (made_from c.args.start c.args.nodes c.width_of-width.result).words % n) links) in
    let same : c.width_of-width.result ≡ width = one_width c.args.nodes c.width_of-width.result width c.width_of-width.ensures.width wide in
    subst (λ (z : ℕ). IsMade c.args.start c.args.nodes z (record { scenario = c.in_ok-making.making.scenario; batch = c.in_ok-batch.batch; schedule = c.in_ok-schedule.schedule })) same
    (record {
      scenario = ap (λ (x : Making). x.scenario) m;
      batch = c.in_ok-batch.ensures ∙ ap (λ (j : ℕ). two_edits j (c.args.nodes - 1)) link;
      schedule = c.in_ok-schedule.ensures ∙ ap (λ (g : Lcg). bytes_of (480 * c.args.nodes) g) (c.draw-link.ensures.rest ∙ ap (λ (x : Making). rest x.words) m);
    })

pub returns-clause-valid : goal.returns-clause-valid
returns-clause-valid c =
    let g : IsGrid c.args.nodes c.width_of-width.result = record { some = c.requires.some; few = c.requires.few; wide = c.width_of-width.ensures.width } in
    let s : c.in_ok-making.making.scenario ≡ (made_from c.args.start c.args.nodes c.width_of-width.result).scenario = ap (λ (x : Making). x.scenario) c.in_ok-making.ensures in
    subst IsValid (sym s) (made_valid c.args.start c.args.nodes c.width_of-width.result g (subst IsScenario s c.setup-setup.ensures.scenario))

pub returns-clause-accepted : goal.returns-clause-accepted
returns-clause-accepted c =
    let g : IsGrid c.args.nodes c.width_of-width.result = record { some = c.requires.some; few = c.requires.few; wide = c.width_of-width.ensures.width } in
    let m : c.in_ok-making.making ≡ made_from c.args.start c.args.nodes c.width_of-width.result = c.in_ok-making.ensures in
    let s : c.in_ok-making.making.scenario ≡ (made_from c.args.start c.args.nodes c.width_of-width.result).scenario = ap (λ (x : Making). x.scenario) m in
    let links : c.links-links.result ≡ length (made_from c.args.start c.args.nodes c.width_of-width.result).scenario.network.links =
    c.links-links.ensures.count ∙ ap (λ (d : NetworkData). length d.links) (c.network.ensures ∙ ap (λ (x : Making). x.scenario.network) m) in
    subst (λ (b : List Edit). IsOk (edited_all c.in_ok-making.making.scenario b)) (sym c.in_ok-batch.ensures)
    (subst (λ (z : ScenarioData). IsOk (edited_all z (two_edits c.draw-link.result (c.args.nodes - 1)))) (sym s)
    (made_accepted c.args.start c.args.nodes c.width_of-width.result c.draw-link.result g (subst IsScenario s c.setup-setup.ensures.scenario) (omega (arith, c.draw-link.ensures.few, links))))
