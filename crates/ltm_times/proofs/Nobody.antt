-- Where nobody is on a link, nothing is added to its delay.
use Rattle.std.proofs.Common.{◌≡◌, ℕ, suc, ◌+◌, ◌-◌, ◌*◌, ◌<◌, ◌≤◌, arith, ap, sym, refl, ◌∙◌}
use Rattle.ltm_curve.specs.Counts.{Counts, Rises}
use Rattle.ltm_curve.specs.TotalCurves.{total_at}
use Rattle.ltm_loading.specs.Setting.{Setting}
use Rattle.ltm_loading.specs.Groups.{up_of}
use Rattle.ltm_loading.specs.Totals.{entered_link, left_link}
use Rattle.ltm_flows.specs.declared.loading.Loading.{Loading}
use Rattle.ltm_flows.specs.Shown.{step_of, links_of, curves_of, last_of, free_of, ShowsCounts}
use Rattle.ltm_times.specs.declared.delays.Peak.{Peak}
use Rattle.ltm_times.specs.declared.delays.LinkDelay.{LinkDelay}
use Rattle.ltm_times.specs.Queues.{queue}
use Rattle.ltm_times.specs.Peaks.{peak, IsPeakOf}
use Rattle.ltm_times.specs.Delays.{over_slots}
use Rattle.ltm_times.specs.DelaysBy.{IsLinkDelayIn}
use Rattle.ltm_times.proofs.Peaks.{not_higher}
use Rattle.ltm_times.proofs.Shown.{shown_ready}
use Rattle.ltm_times.proofs.SpentSo.{over_more}
use Rattle.ltm_times.proofs.WasReady.{delayed_within}

-- nobody at a boundary adds nothing to a sum, and is no peak
none_more : (s : Setting) (k : ℕ) (f : ℕ → ℕ) (sum : ℕ) → sum ≡ over_slots s k f → f (k + 1) ≡ 0 → sum ≡ over_slots s (k + 1) f
none_more s k f sum was none =
    let same : sum ≡ sum + 0 * s.step = omega arith in
    same ∙ over_more s k f sum 0 s.step was (sym none) refl

peak_stays : (f : ℕ → ℕ) (k : ℕ) (p : Peak) → IsPeakOf f k p → f (k + 1) ≡ 0 → IsPeakOf f (k + 1) p
peak_stays f k p was none =
    let next : k + 1 ≡ suc k = omega arith in
    let low : f (suc k) ≤ f (peak f k) = omega (arith, none, ap f next) in
    record { at = was.at ∙ sym (ap (peak f) next ∙ not_higher f k low); most = was.most }

-- nobody stands in the queue of a link that nobody is on
none_stand : (s : Setting) (v : ℕ) (c : Counts) (l : Loading) → ShowsCounts s v c l → (link k : ℕ) → link < links_of l → k ≤ last_of l → 0 < step_of l →
    Rises (total_at (curves_of l) (up_of link)) (last_of l) → entered_link s c link k - left_link s c link k ≡ 0 → queue s c link k ≡ 0
none_stand s v c l h link k there within some rise none =
    omega (
      arith,
      none,
      h.totals (up_of link) k (omega (arith, h.links)) (omega (arith, h.shape.same_slots)),
      shown_ready s v c l h link k there within some,
      delayed_within (total_at (curves_of l) (up_of link)) (last_of l) (step_of l) (free_of l link) k some rise within,
    )

pub nobody_adds : (l : Loading) (link k : ℕ) (d : LinkDelay) → link < links_of l → k < last_of l → 0 < step_of l → Rises (total_at (curves_of l) (up_of link)) (last_of l) →
    ((s : Setting) (v : ℕ) (c : Counts) → ShowsCounts s v c l → entered_link s c link (k + 1) - left_link s c link (k + 1) ≡ 0) →
    IsLinkDelayIn l link k d → IsLinkDelayIn l link (k + 1) d
nobody_adds l link k d there within some rise none was = record {
  spent_small = omega (arith, was.spent_small);
  queued_small = omega (arith, was.queued_small);
  shown = λ s v c shows.
      let before = was.shown s v c shows in
      let stand : queue s c link (k + 1) ≡ 0 = none_stand s v c l shows link (k + 1) there (omega arith) some rise (none s v c shows) in
      record {
        spent = none_more s k (λ j. entered_link s c link j - left_link s c link j) d.spent before.spent (none s v c shows);
        queued = none_more s k (queue s c link) d.queued before.queued stand;
        peak = peak_stays (queue s c link) k d.peak before.peak stand;
      };
}
