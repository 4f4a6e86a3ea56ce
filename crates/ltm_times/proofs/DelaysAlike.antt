-- Loadings of one setting have the same queues and delays.
use Rattle.std.proofs.Common.{◌≡◌, ℕ, ◌-◌, ◌<◌, ◌≤◌, arith, ap}
use Rattle.ltm_units.proofs.Sums.{sum_below-same}
use Rattle.ltm_curve.specs.Counts.{Counts, total}
use Rattle.ltm_loading.specs.Setting.{Setting}
use Rattle.ltm_loading.specs.Groups.{dep_of}
use Rattle.ltm_loading.specs.Totals.{generated, departed, waiting, entered_link}
use Rattle.ltm_loading.proofs.Same.{AgreeTo}
use Rattle.ltm_flows.specs.Origins.{departed_from}
use Rattle.ltm_times.specs.Queues.{queue, in_queues}
use Rattle.ltm_times.specs.Delays.{queued, waited}
use Rattle.ltm_times.proofs.Alike.{total_same, entered_same, left_same}
use Rattle.ltm_times.proofs.WasReady.{delayed_same}
use Rattle.ltm_times.proofs.SpentSo.{over_same}

pub queue_same : (s : Setting) (a b : Counts) (link k : ℕ) → 0 < s.step → AgreeTo s a b s.slots → link < s.links → k ≤ s.slots → queue s a link k ≡ queue s b link k
queue_same s a b link k some same there within =
    let ready = delayed_same (entered_link s a link) (entered_link s b link) s.step (s.free_time link) k some (λ j x. entered_same s a b link j same there (omega arith)) in
    let left = left_same s a b link k same there within in
    omega (arith, ready, left)

pub queued_same : (s : Setting) (a b : Counts) → 0 < s.step → AgreeTo s a b s.slots → queued s a ≡ queued s b
queued_same s a b some same =
    over_same s (in_queues s a) (in_queues s b)
    (λ k within. sum_below-same s.links (λ i. queue s a i k) (λ i. queue s b i k) (λ i there. queue_same s a b i k some same there within))

departed_same : (s : Setting) (a b : Counts) (k : ℕ) → AgreeTo s a b s.slots → k ≤ s.slots → departed s a k ≡ departed s b k
departed_same s a b k same within =
    sum_below-same s.nodes (λ u. total s.destinations (a (dep_of s u)) k) (λ u. total s.destinations (b (dep_of s u)) k)
    (λ u there. total_same s a b (dep_of s u) k same (omega arith) within)

pub waited_same : (s : Setting) (a b : Counts) → AgreeTo s a b s.slots → waited s a ≡ waited s b
waited_same s a b same =
    over_same s (waiting s a) (waiting s b) (λ k within. ap (λ x. generated s k - x) (departed_same s a b k same within))

pub departed_from_same : (s : Setting) (a b : Counts) (node k : ℕ) → AgreeTo s a b s.slots → node < s.nodes → k ≤ s.slots → departed_from s a node k ≡ departed_from s b node k
departed_from_same s a b node k same there within = total_same s a b (dep_of s node) k same (omega arith) within
