use Rattle.std.proofs.Common.{◌≡◌, ◌+◌, ◌-◌, ℕ, arith, ap, refl, ◌∙◌}
use Rattle.ltm_loading.specs.Groups.{up_of}
use Rattle.ltm_loading.specs.Totals.{entered_link, left_link}
use Rattle.ltm_times.specs.Queues.{queue}
use Rattle.ltm_times.proofs.Nobody.{nobody_adds}
use Rattle.ltm_times.proofs.SpentSo.{over_more}
use Rattle.ltm_times.proofs.delays_by_link.add_link.Goals as goal

pub returns-then-on-eq0 : goal.returns-then-on-eq0
returns-then-on-eq0 c =
    let l = c.args.loading.now in
    nobody_adds l c.args.link.0 c.args.slot c.args.delay.now c.requires.link c.requires.slot (omega (arith, l.some_step))
    (λ k x. l.rises (up_of c.args.link.0) k (omega (arith, l.groups, c.requires.link)) x)
    (λ s version counts shows.
    omega (
      arith,
      c.if-on-eq0.true,
      c.saturating_sub-on.ensures,
      c.entered_by.ensures.shown s version counts shows,
      c.left_by-left.ensures.shown s version counts shows,
    ))
    c.requires.before

pub returns : goal.returns
returns c =
    let link : ℕ = c.args.link.0 in
    let slot : ℕ = c.args.slot in
    record {
      spent_small = omega (arith, c.requires.before.spent_small, c.for_a_step.ensures.small);
      queued_small = omega (arith, c.requires.before.queued_small, c.for_a_step-2.ensures.small);
      shown = λ s version counts shows.
          let was = c.requires.before.shown s version counts shows in
          let step : c.step-step.result.0 ≡ s.step = c.step-step.ensures.value ∙ shows.step in
          let left : c.left_by-left.result.0 ≡ left_link s counts link (slot + 1) = c.left_by-left.ensures.shown s version counts shows in
          let on : c.saturating_sub-on.result ≡ entered_link s counts link (slot + 1) - left_link s counts link (slot + 1) =
          omega (arith, c.saturating_sub-on.ensures, c.entered_by.ensures.shown s version counts shows, left) in
          let standing : c.saturating_sub-standing.result ≡ queue s counts link (slot + 1) =
          omega (arith, c.saturating_sub-standing.ensures, c.ready_by.ensures.shown s version counts shows, left) in
          record {
            spent = ap (λ (n : ℕ). c.args.delay.now.spent + n) c.for_a_step.ensures.product
                ∙ over_more s slot (λ k. entered_link s counts link k - left_link s counts link k) c.args.delay.now.spent c.saturating_sub-on.result c.step-step.result.0 was.spent on step;
            queued = ap (λ (n : ℕ). c.args.delay.now.queued + n) c.for_a_step-2.ensures.product
                ∙ over_more s slot (queue s counts link) c.args.delay.now.queued c.saturating_sub-standing.result c.step-step.result.0 was.queued standing step;
            peak = c.peak_by-delay.ensures (queue s counts link) slot was.peak refl standing;
          };
    }
