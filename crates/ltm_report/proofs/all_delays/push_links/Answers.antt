use Rattle.std.proofs.Common.{ℕ, ◌≡◌, ◌^◌, ◌<◌, ◌≤◌, ◌++◌, ◌∙◌, ap, subst, sym, arith}
use Rattle.ltm_units.specs.Sums.{sum_below}
use Rattle.ltm_units.specs.Texts.{texts_below}
use Rattle.ltm_units.proofs.Sums.{sum_below_more}
use Rattle.ltm_flows.specs.Shown.{links_of}
use Rattle.ltm_times.specs.declared.delays.LinkDelay.{LinkDelay}
use Rattle.ltm_times.specs.Queues.{queue}
use Rattle.ltm_times.specs.Delays.{queued_on, IsLinkDelay}
use Rattle.ltm_times.proofs.SpentSo.{over_each}
use Rattle.ltm_report.specs.RowReports.{link_delays}
use Rattle.ltm_report.proofs.Rowed.{link_told, one_text_more}
use Rattle.ltm_report.proofs.all_delays.push_links.Goals as goal

pub loop-link-preserved : goal.loop-link-preserved
loop-link-preserved c =
    let link : ℕ = c.loop-link.link in
    let delay : LinkDelay = c.index-delay.result.now in
    let there : link < links_of c.args.loading.now = omega (arith, c.loop-link-test.true, c.links-link-end.ensures.value) in
    let small : delay.queued ≤ 2 ^ 112 = subst (λ (d : LinkDelay). d.queued ≤ 2 ^ 112) (sym c.index-delay.ensures) (c.in_ok-delays.ensures.small link delay there) in
    record {
      small = omega (arith, c.loop-link.invariant.small, small);
      text = λ s version counts shows.
          let is = subst (λ (d : LinkDelay). IsLinkDelay s counts link d) (sym c.index-delay.ensures)
          (c.in_ok-delays.ensures.shown s version counts shows link delay (omega (arith, there, shows.links))) in
          one_text_more link (link_delays s counts) _ _ _ (c.loop-link.invariant.text s version counts shows)
          (link_told s counts link delay _ _ is c.in_ok-push_link.ensures);
      sum = λ s version counts shows.
          let is = subst (λ (d : LinkDelay). IsLinkDelay s counts link d) (sym c.index-delay.ensures)
          (c.in_ok-delays.ensures.shown s version counts shows link delay (omega (arith, there, shows.links))) in
          let next = sum_below_more (queued_on s counts) link in
          let here = is.queued in
          omega (arith, next, here, c.loop-link.invariant.sum s version counts shows);
    }

pub returns-clause-text : goal.returns-clause-text
returns-clause-text c s version counts shows =
    let all : c.loop-link.link ≡ c.links-link-end.result = omega arith in
    c.loop-link.invariant.text s version counts shows
    ∙ ap (λ (n : ℕ). c.args.into.now.items ++ texts_below n (link_delays s counts)) (all ∙ c.links-link-end.ensures.value)

pub returns-clause-queued : goal.returns-clause-queued
returns-clause-queued c s version counts shows =
    let all : c.loop-link.link ≡ c.links-link-end.result = omega arith in
    c.loop-link.invariant.sum s version counts shows
    ∙ (ap (λ (n : ℕ). sum_below n (queued_on s counts)) (all ∙ (c.links-link-end.ensures.value ∙ shows.links))
    ∙ sym (over_each s s.links (λ link k. queue s counts link k)))
