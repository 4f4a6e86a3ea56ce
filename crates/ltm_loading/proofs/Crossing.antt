-- What enters or leaves a link in a slot, or leaves an origin, is at most a capacity.
use Rattle.std.proofs.Common.{◌≡◌, ℕ, zero, suc, ◌+◌, ◌*◌, ◌<◌, ◌≤◌, arith, subst}
use Rattle.ltm_units.proofs.Sums.{sum_below-le, sum_below-plus}
use Rattle.ltm_curve.specs.Counts.{Counts, total}
use Rattle.ltm_loading.specs.Setting.{Setting}
use Rattle.ltm_loading.specs.Groups.{up_of, down_of, dep_of, groups}
use Rattle.ltm_loading.specs.Flows.{link_sending, origin_sending}
use Rattle.ltm_loading.specs.Loading.{IsFront}
use Rattle.ltm_loading.specs.Ranges.{WithinCapacity, TotalsSmall}
use Rattle.ltm_loading.proofs.Pairs.{Leaves, link_leaves, origin_leaves, Enters, link_enters}
use Rattle.ltm_loading.proofs.Front.{earlier_front, empty_total}
use Rattle.ltm_loading.proofs.Sent.{link_sent, origin_sent}

-- a group of which no more leaves than is sent
leaves_in_all : (s : Setting) (c : Counts) (g t : ℕ) (send : ℕ → ℕ) → Leaves s c g t send → total s.destinations (c g) (t + 1) ≤ total s.destinations (c g) t + total s.destinations (λ d k. send d) t
leaves_in_all s c g t send step =
    omega (
      arith,
      sum_below-le s.destinations (λ d. c g d (t + 1)) (λ d. c g d t + send d) step.within,
      sum_below-plus s.destinations (λ d. c g d t) send,
    )

pub within_capacity_holds : WithinCapacity
within_capacity_holds s c t v f y =
    let now : IsFront s c t = earlier_front s c (t + 1) t f (omega arith) in (
      λ l x.
          let enter : Enters s c l t = link_enters s c l t v x (f.steps (s.tail l) t (v.network.tail_is_node l x) (omega arith)) in
          let leave : Leaves s c (down_of l) t (link_sending s c l t) = link_leaves s c l t v x (f.steps (s.head l) t (v.network.head_is_node l x) (omega arith)) in (
            omega (arith, enter.within),
            omega (arith, leaves_in_all s c (down_of l) t (link_sending s c l t) leave, link_sent s c t l v now x),
          ),
      λ u x some.
          let leave : Leaves s c (dep_of s u) t (origin_sending s c u t) = origin_leaves s c u t v x some (f.steps u t x (omega arith)) in
          omega (arith, leaves_in_all s c (dep_of s u) t (origin_sending s c u t) leave, origin_sent s c t u v now y x some),
    )

-- a total that rises by little in each slot
total_grows : (s : Setting) (c : Counts) (g t : ℕ) → IsFront s c t → g < groups s →
    ((k : ℕ) → k < t → total s.destinations (c g) (k + 1) ≤ total s.destinations (c g) k + 32000) → total s.destinations (c g) t ≤ t * 32000
total_grows s c g zero f x h = omega (arith, empty_total s c g 0 f x)
total_grows s c g (suc t) f x h =
    let e : t + 1 ≡ suc t = omega arith in
    let before : total s.destinations (c g) t ≤ t * 32000 = total_grows s c g t (earlier_front s c (suc t) t f (omega arith)) x (λ k l. h k (omega arith)) in
    let last : total s.destinations (c g) (t + 1) ≤ total s.destinations (c g) t + 32000 = h t (omega arith) in
    subst (λ (k : ℕ). total s.destinations (c g) k ≤ k * 32000) e (omega arith)

pub totals_small_holds : TotalsSmall
totals_small_holds s c v t f y =
    let to : (k : ℕ) → k < t → IsFront s c (k + 1) = λ k l. earlier_front s c t (k + 1) f (omega arith) in (
      λ l x. (
        total_grows s c (up_of l) t f (omega arith) (λ k z. omega (arith, ((within_capacity_holds s c k v (to k z) (omega arith)).0 l x).0, v.small.capacities l k x)),
        total_grows s c (down_of l) t f (omega arith) (λ k z. omega (arith, ((within_capacity_holds s c k v (to k z) (omega arith)).0 l x).1, v.small.capacities l k x)),
      ),
      λ u x some. total_grows s c (dep_of s u) t f (omega arith) (λ k z. omega (arith, (within_capacity_holds s c k v (to k z) (omega arith)).1 u x some, v.small.origin_capacity)),
    )
