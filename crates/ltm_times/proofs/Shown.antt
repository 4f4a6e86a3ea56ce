-- What is read from a loading is that of its setting.
use Rattle.std.proofs.Common.{◌≡◌, ℕ, ◌<◌, ◌≤◌, ap, ◌∙◌, arith}
use Rattle.ltm_curve.specs.Counts.{Counts}
use Rattle.ltm_curve.specs.TotalCurves.{total_at}
use Rattle.ltm_loading.specs.Setting.{Setting}
use Rattle.ltm_loading.specs.Groups.{up_of, down_of}
use Rattle.ltm_loading.specs.Totals.{entered_link, left_link}
use Rattle.ltm_flows.specs.declared.loading.Loading.{Loading}
use Rattle.ltm_flows.specs.Shown.{step_of, links_of, curves_of, last_of, free_of, ShowsCounts}
use Rattle.ltm_times.specs.Moments.{first_moment}
use Rattle.ltm_times.specs.Times.{exit_time}
use Rattle.ltm_times.specs.Queues.{delayed, ready}
use Rattle.ltm_times.proofs.Alike.{moment_same}
use Rattle.ltm_times.proofs.WasReady.{delayed_same}

-- the first moment of a link's end
pub shown_exit : (s : Setting) (v : ℕ) (c : Counts) (l : Loading) → ShowsCounts s v c l → (link count : ℕ) → link < links_of l → 0 < step_of l →
    first_moment (total_at (curves_of l) (down_of link)) (step_of l) (last_of l) count ≡ exit_time s c link count
shown_exit s v c l h link count there some =
    moment_same (total_at (curves_of l) (down_of link)) (left_link s c link) (step_of l) (last_of l) count some
    (λ k x. h.totals (down_of link) k (omega (arith, h.links)) (omega (arith, h.shape.same_slots)))
    ∙ (ap (λ (m : ℕ). first_moment (left_link s c link) m (last_of l) count) h.step
    ∙ ap (λ (m : ℕ). first_moment (left_link s c link) s.step m count) h.shape.same_slots)

-- what has left a link by the last boundary
pub shown_left : (s : Setting) (v : ℕ) (c : Counts) (l : Loading) → ShowsCounts s v c l → (link : ℕ) → link < links_of l → total_at (curves_of l) (down_of link) (last_of l) ≡ left_link s c link s.slots
shown_left s v c l h link there =
    ap (λ (k : ℕ). total_at (curves_of l) (down_of link) k) h.shape.same_slots ∙ h.totals (down_of link) s.slots (omega (arith, h.links)) (omega arith)

-- what was ready on a link
pub shown_ready : (s : Setting) (v : ℕ) (c : Counts) (l : Loading) → ShowsCounts s v c l → (link k : ℕ) → link < links_of l → k ≤ last_of l → 0 < step_of l →
    delayed (total_at (curves_of l) (up_of link)) (step_of l) (free_of l link) k ≡ ready s c link k
shown_ready s v c l h link k there within some =
    delayed_same (total_at (curves_of l) (up_of link)) (entered_link s c link) (step_of l) (free_of l link) k some
    (λ j x. h.totals (up_of link) j (omega (arith, h.links)) (omega (arith, h.shape.same_slots)))
    ∙ (ap (λ (m : ℕ). delayed (entered_link s c link) m (free_of l link) k) h.step
    ∙ ap (λ (m : ℕ). delayed (entered_link s c link) s.step m k) (h.free link (omega (arith, h.links))))

-- what has left a link by a boundary
pub shown_left_by : (s : Setting) (v : ℕ) (c : Counts) (l : Loading) → ShowsCounts s v c l → (link k : ℕ) → link < links_of l → k ≤ last_of l →
    total_at (curves_of l) (down_of link) k ≡ left_link s c link k
shown_left_by s v c l h link k there within = h.totals (down_of link) k (omega (arith, h.links)) (omega (arith, h.shape.same_slots))
