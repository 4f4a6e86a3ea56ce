-- How the time that vehicles spend adds up.
use Rattle.std.proofs.Common.{◌≡◌, ℕ, ◌+◌, ◌-◌, ◌*◌, ◌<◌, ◌≤◌, arith, ap, sym, ◌∙◌}
use Rattle.std.proofs.Math.Nat.{add-mul}
use Rattle.ltm_units.specs.Sums.{sum_below}
use Rattle.ltm_units.proofs.Sums.{sum_below_more, sum_below-same, sum_below-plus, sum_below-mul, sum_below-swap}
use Rattle.ltm_curve.specs.Counts.{Counts}
use Rattle.ltm_loading.specs.Setting.{Setting, IsSetting}
use Rattle.ltm_loading.specs.Loading.{IsLoading}
use Rattle.ltm_loading.specs.LoadingLaws.{AddsUp, NeverFall}
use Rattle.ltm_loading.specs.Totals.{generated, arrived, on_links, waiting, entered_link, left_link}
use Rattle.ltm_flows.specs.Origins.{produced_in_all, departed_from}
use Rattle.ltm_times.specs.Queues.{ready, queue, driving, waiting_at, in_queues, in_motion}
use Rattle.ltm_times.specs.Times.{time_spent}
use Rattle.ltm_times.specs.Delays.{over_slots, over_time, spent_on, queued_on, driven_on, queued, waited, driven}
use Rattle.ltm_times.specs.DelayLaws.{LeftWasReady, LeftWasProduced, SpentAddsUp, DelaysAreSummed}
use Rattle.ltm_times.proofs.WasReady.{ready_has_entered}

-- ---- sums over time
pub over_same : (s : Setting) (f g : ℕ → ℕ) → ((k : ℕ) → k ≤ s.slots → f k ≡ g k) → over_time s f ≡ over_time s g
over_same s f g same = ap (λ (n : ℕ). n * s.step) (sum_below-same s.slots (λ t. f (t + 1)) (λ t. g (t + 1)) (λ t l. same (t + 1) (omega arith)))

over_plus : (s : Setting) (f g : ℕ → ℕ) → over_time s (λ k. f k + g k) ≡ over_time s f + over_time s g
over_plus s f g =
    ap (λ (n : ℕ). n * s.step) (sum_below-plus s.slots (λ t. f (t + 1)) (λ t. g (t + 1)))
    ∙ add-mul (sum_below s.slots (λ t. f (t + 1))) (sum_below s.slots (λ t. g (t + 1))) s.step

pub over_each : (s : Setting) (n : ℕ) (f : ℕ → ℕ → ℕ) → over_time s (λ k. sum_below n (λ i. f i k)) ≡ sum_below n (λ i. over_time s (f i))
over_each s n f =
    ap (λ (m : ℕ). m * s.step) (sym (sum_below-swap n s.slots (λ i t. f i (t + 1))))
    ∙ sym (sum_below-mul n (λ i. sum_below s.slots (λ t. f i (t + 1))) s.step)

-- by one boundary more
pub over_more : (s : Setting) (k : ℕ) (f : ℕ → ℕ) (sum here step : ℕ) → sum ≡ over_slots s k f → here ≡ f (k + 1) → step ≡ s.step → sum + here * step ≡ over_slots s (k + 1) f
over_more s k f sum here step was is same =
    let before : ℕ = sum_below k (λ t. f (t + 1)) in
    let next : sum_below (k + 1) (λ t. f (t + 1)) ≡ before + f (k + 1) = sum_below_more (λ t. f (t + 1)) k in
    ap (λ (n : ℕ). n + here * step) was
    ∙ (ap (λ (n : ℕ). before * s.step + n * step) is
    ∙ (ap (λ (n : ℕ). before * s.step + f (k + 1) * n) same
    ∙ (sym (add-mul before (f (k + 1)) s.step) ∙ ap (λ (n : ℕ). n * s.step) (sym next))))

-- ---- on a link
parts : LeftWasReady → NeverFall → (s : Setting) (c : Counts) → IsSetting s → IsLoading s c → (link k : ℕ) → link < s.links → k ≤ s.slots →
    entered_link s c link k - left_link s c link k ≡ queue s c link k + driving s c link k
parts left never s c is l link k there within =
    let a : left_link s c link k ≤ ready s c link k = left s c is l link k there within in
    let b : ready s c link k ≤ entered_link s c link k = ready_has_entered never s c is l link k there within in omega arith

each_link : LeftWasReady → NeverFall → (s : Setting) (c : Counts) → IsSetting s → IsLoading s c → (link : ℕ) → link < s.links → spent_on s c link ≡ queued_on s c link + driven_on s c link
each_link left never s c is l link there =
    over_same s (λ k. entered_link s c link k - left_link s c link k) (λ k. queue s c link k + driving s c link k) (λ k x. parts left never s c is l link k there x)
    ∙ over_plus s (queue s c link) (driving s c link)

-- ---- in all
on_links_so : LeftWasReady → NeverFall → (s : Setting) (c : Counts) → IsSetting s → IsLoading s c → (k : ℕ) → k ≤ s.slots → on_links s c k ≡ in_queues s c k + in_motion s c k
on_links_so left never s c is l k within =
    sum_below-same s.links (λ i. entered_link s c i k - left_link s c i k) (λ i. queue s c i k + driving s c i k) (λ i there. parts left never s c is l i k there within)
    ∙ sum_below-plus s.links (λ i. queue s c i k) (λ i. driving s c i k)

not_arrived : AddsUp → (s : Setting) (c : Counts) → IsSetting s → IsLoading s c → (k : ℕ) → k ≤ s.slots → generated s k - arrived s c k ≡ on_links s c k + waiting s c k
not_arrived adds s c is l k within =
    let (made, left) = adds s c is l k within in omega (arith, made, left)

spent_apart : AddsUp → (s : Setting) (c : Counts) → IsSetting s → IsLoading s c → time_spent s c ≡ over_time s (on_links s c) + waited s c
spent_apart adds s c is l =
    over_same s (λ k. generated s k - arrived s c k) (λ k. on_links s c k + waiting s c k) (λ k x. not_arrived adds s c is l k x)
    ∙ over_plus s (on_links s c) (waiting s c)

links_apart : LeftWasReady → NeverFall → (s : Setting) (c : Counts) → IsSetting s → IsLoading s c → over_time s (on_links s c) ≡ queued s c + driven s c
links_apart left never s c is l =
    over_same s (on_links s c) (λ k. in_queues s c k + in_motion s c k) (λ k x. on_links_so left never s c is l k x)
    ∙ over_plus s (in_queues s c) (in_motion s c)

pub spent_adds_up_holds : LeftWasReady → NeverFall → AddsUp → SpentAddsUp
spent_adds_up_holds left never adds s c is l = record {
  each = λ link there. each_link left never s c is l link there;
  all = omega (arith, spent_apart adds s c is l, links_apart left never s c is l);
}

-- who waits in all
waiting_so : LeftWasProduced → (s : Setting) (c : Counts) → IsSetting s → IsLoading s c → (k : ℕ) → k ≤ s.slots → waiting s c k ≡ sum_below s.nodes (λ u. waiting_at s c u k)
waiting_so left s c is l k within =
    let apart : sum_below s.nodes (λ u. produced_in_all s u k) ≡ sum_below s.nodes (λ u. waiting_at s c u k + departed_from s c u k) =
    sum_below-same s.nodes (λ u. produced_in_all s u k) (λ u. waiting_at s c u k + departed_from s c u k) (λ u there. omega (arith, left s c is l u k there within)) in
    let sums : sum_below s.nodes (λ u. waiting_at s c u k + departed_from s c u k) ≡ sum_below s.nodes (λ u. waiting_at s c u k) + sum_below s.nodes (λ u. departed_from s c u k) =
    sum_below-plus s.nodes (λ u. waiting_at s c u k) (λ u. departed_from s c u k) in
    omega (arith, apart, sums)

pub delays_are_summed_holds : LeftWasProduced → AddsUp → DelaysAreSummed
delays_are_summed_holds left adds s c is l = record {
  waited = over_same s (waiting s c) (λ k. sum_below s.nodes (λ u. waiting_at s c u k)) (λ k x. waiting_so left s c is l k x)
      ∙ over_each s s.nodes (λ u k. waiting_at s c u k);
  spent = spent_apart adds s c is l ∙ ap (λ (n : ℕ). n + waited s c) (over_each s s.links (λ link k. entered_link s c link k - left_link s c link k));
  queued = over_each s s.links (λ link k. queue s c link k);
}
