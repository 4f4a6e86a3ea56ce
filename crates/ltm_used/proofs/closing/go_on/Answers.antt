use Rattle.std.proofs.Common.{arith, sym, ap, subst, ◌≡◌, ℕ, ◌+◌, ◌*◌, ◌<◌, ◌∙◌, slice_index, inl, inr}
use Rattle.std.proofs.lemmas.Bool.{cases_lt}
use Rattle.ltm_setting.specs.Setting.{setting_of}
use Rattle.ltm_used.specs.Found.{number_of}
use Rattle.ltm_used.proofs.Finding.{grows_none, grows_more}
use Rattle.ltm_used.proofs.closing.go_on.Goals as goal

pub loop-place-init : goal.loop-place-init
loop-place-init c = record { grows = grows_none c.args.found.now; done = λ j l. absurd (omega arith) }

pub step-requires-clause-found : goal.step-requires-clause-found
step-requires-clause-found c = c.loop-place.invariant.grows.size ∙ c.requires.found

pub loop-place-preserved : goal.loop-place-preserved
loop-place-preserved c =
    let s = setting_of c.args.scenario.now in
    let inv = c.loop-place.invariant in
    let grows = c.in_ok-step.ensures.grows in
    let link : c.out_link_at-next.result.0 ≡ s.out_link c.args.node.0 c.loop-place.place = c.out_link_at-next.ensures.link in
    record {
      grows = grows_more c.args.found.now c.loop-place.found c.step.new.found inv.grows grows;
      done = λ j l go. elim (cases_lt j c.loop-place.place) [
        | inl low ↦ grows.keeps _ (inv.done j low go)
        | inr high ↦
            let at : j ≡ c.loop-place.place = omega arith in
            let number : number_of s c.out_link_at-next.result.0 c.args.destination ≡ number_of s (s.out_link c.args.node.0 j) c.args.destination =
            ap (λ (z : ℕ). z * s.destinations + c.args.destination) (link ∙ ap (λ (z : ℕ). s.out_link c.args.node.0 z) (sym at)) in
            subst (λ (z : ℕ). 0 < slice_index c.step.new.found.marks.items z) number
            (c.in_ok-step.ensures.found (subst (λ (z : ℕ). 0 < slice_index c.args.goes.now z) (sym number) go))
      ];
    }
