-- The laws of loadings that look at one link or one origin alone.
use Rattle.std.proofs.Common.{◌≡◌, ℕ, zero, suc, ◌+◌, ◌*◌, ◌/◌, ◌<◌, ◌≤◌, ◌⊎◌, arith, inl, inr, ap, ◌∙◌, subst}
use Rattle.std.proofs.Math.Nat.{div-mul-le_self, le_of_mul-le-mul_right}
use Rattle.std.proofs.lemmas.Bool.{cases_lt}
use Rattle.std.proofs.lemmas.Bool.Decides.{nat_tests}
use Rattle.ltm_units.specs.Sums.{sum_below}
use Rattle.ltm_units.proofs.Sums.{sum_below-le, sum_below-same, sum_below-plus, sum_below-zero}
use Rattle.ltm_curve.specs.Counts.{Counts, total}
use Rattle.ltm_curve.specs.First.{first_units}
use Rattle.ltm_curve.specs.FirstLaws.{IsPart}
use Rattle.ltm_curve.proofs.Lists.{sum_below-minus}
use Rattle.ltm_curve.proofs.Lasts.{total_rises}
use Rattle.ltm_curve.proofs.Firsts.{first_sums_holds, first_rises_holds, first_stays_holds, first_within_holds}
use Rattle.ltm_loading.specs.Setting.{Setting, IsSetting}
use Rattle.ltm_loading.specs.Groups.{up_of, down_of, dep_of}
use Rattle.ltm_loading.specs.Flows.{earlier, limited, link_goal, link_first, link_sending, origin_goal, origin_sending}
use Rattle.ltm_loading.specs.Loading.{IsFront, IsLoading}
use Rattle.ltm_loading.specs.LoadingLaws.{NeverFall, FirstInFirstOut, WithinExit, WithinStorage, WithinProduced}
use Rattle.ltm_loading.proofs.GroupKinds.{is_up, is_down, is_dep, is_arr, kind_of}
use Rattle.ltm_loading.proofs.Times.{earlier_within, earlier_rises}
use Rattle.ltm_loading.proofs.Pairs.{Leaves, link_leaves, origin_leaves, Enters, link_enters}
use Rattle.ltm_loading.proofs.Front.{down_rises, up_rises, dep_rises, arr_rises, earlier_front, empty_total, up_is_group, link_part, link_behind, link_first_out, limited_le}

pub dep_never_falls : (s : Setting) (c : Counts) → IsSetting s → IsLoading s c → (u d k : ℕ) → u < s.nodes → d < s.destinations → k < s.slots → c (dep_of s u) d k ≤ c (dep_of s u) d (k + 1)
dep_never_falls s c v f u d k x m y =
    elim (cases_lt 0 (s.outs u)) [
      | inl some ↦ dep_rises s c s.slots u v f.front x some d k m y
      | inr none ↦ omega (arith, f.no_origin u d k x (omega arith) m (omega arith))
    ]

pub never_fall_holds : NeverFall
never_fall_holds s c v f g d k x m y =
    let P : ℕ → Type 0 = λ z. c z d k ≤ c z d (k + 1) in
    elim (kind_of s g x) [
      | is_up l b e ↦ subst P e (up_rises s c s.slots l v f.front b d k m y)
      | is_down l b e ↦ subst P e (down_rises s c s.slots l v f.front b d k m y)
      | is_dep u b e ↦ subst P e (dep_never_falls s c v f u d k b m y)
      | is_arr e ↦ subst P e (arr_rises s c s.slots v f.front d k m y)
    ]

-- the goal of an origin lies within what was produced by the slot's end
pub origin_part : (s : Setting) (c : Counts) (t u : ℕ) → IsSetting s → t < s.slots → u < s.nodes → IsPart s.destinations (s.produced u) (origin_goal s c u t) (t + 1)
origin_part s c t u v y x = record {
  rise = λ d k m z. v.produced_rises u x d k m (omega arith);
  empty = sum_below-zero s.destinations (λ d. s.produced u d 0) (λ d m. v.produced_none u d x m);
  within = omega arith;
}

origin_goal_rises : (s : Setting) (c : Counts) (t u : ℕ) → IsSetting s → IsFront s c (t + 1) → t + 1 < s.slots → u < s.nodes → 0 < s.outs u → origin_goal s c u t ≤ origin_goal s c u (t + 1)
origin_goal_rises s c t u v f y x some =
    let made : total s.destinations (s.produced u) (t + 1) ≤ total s.destinations (s.produced u) (t + 1 + 1) = total_rises s.destinations (s.produced u) s.slots (v.produced_rises u x) (t + 1) y in
    let dep : total s.destinations (c (dep_of s u)) t ≤ total s.destinations (c (dep_of s u)) (t + 1) = total_rises s.destinations (c (dep_of s u)) (t + 1) (dep_rises s c (t + 1) u v f x some) t (omega arith) in omega arith

origin_first_out : (s : Setting) (c : Counts) (t u d : ℕ) → IsSetting s → IsFront s c (t + 1) → u < s.nodes → 0 < s.outs u → d < s.destinations →
    c (dep_of s u) d t ≤ first_units s.destinations (s.produced u) (origin_goal s c u t) (t + 1) d →
    c (dep_of s u) d (t + 1) ≤ first_units s.destinations (s.produced u) (origin_goal s c u t) (t + 1) d
origin_first_out s c t u d v f x some m before =
    let step : Leaves s c (dep_of s u) t (origin_sending s c u t) = origin_leaves s c u t v x some (f.steps u t x (omega arith)) in omega (arith, step.within d m)

origin_behind_next : (s : Setting) (c : Counts) (t u d : ℕ) → IsSetting s → IsFront s c (t + 1) → t + 1 < s.slots → u < s.nodes → 0 < s.outs u → d < s.destinations →
    c (dep_of s u) d (t + 1) ≤ first_units s.destinations (s.produced u) (origin_goal s c u t) (t + 1) d →
    c (dep_of s u) d (t + 1) ≤ first_units s.destinations (s.produced u) (origin_goal s c u (t + 1)) (t + 1 + 1) d
origin_behind_next s c t u d v f y x some m h =
    let part : IsPart s.destinations (s.produced u) (origin_goal s c u t) (t + 1) = origin_part s c t u v (omega arith) x in
    let next : IsPart s.destinations (s.produced u) (origin_goal s c u (t + 1)) (t + 1 + 1) = origin_part s c (t + 1) u v y x in
    omega (
      arith,
      first_stays_holds s.destinations (s.produced u) (origin_goal s c u t) (t + 1) part next.rise d m,
      first_rises_holds s.destinations (s.produced u) (origin_goal s c u t) (origin_goal s c u (t + 1)) (t + 1 + 1) next (origin_goal_rises s c t u v f y x some) d m,
    )

-- what left an origin are parts of the first units of its goal
pub origin_behind : (s : Setting) (c : Counts) (t u d : ℕ) → IsSetting s → IsFront s c t → t < s.slots → u < s.nodes → 0 < s.outs u → d < s.destinations →
    c (dep_of s u) d t ≤ first_units s.destinations (s.produced u) (origin_goal s c u t) (t + 1) d
origin_behind s c zero u d v f y x some m = let z : c (dep_of s u) d 0 ≡ 0 = f.empty (dep_of s u) d (omega arith) m in omega arith
origin_behind s c (suc t) u d v f y x some m =
    let e : t + 1 ≡ suc t = omega arith in
    let g : IsFront s c (t + 1) = earlier_front s c (suc t) (t + 1) f (omega arith) in
    subst (λ (k : ℕ). c (dep_of s u) d k ≤ first_units s.destinations (s.produced u) (origin_goal s c u k) (k + 1) d) e
    (origin_behind_next s c t u d v g (omega arith) x some m (origin_first_out s c t u d v g x some m (origin_behind s c t u d v (earlier_front s c (suc t) t f (omega arith)) (omega arith) x some m)))

pub first_in_first_out_holds : FirstInFirstOut
first_in_first_out_holds s c v f t d y m =
    let now : IsFront s c t = earlier_front s c s.slots t f.front (omega arith) in
    let next : IsFront s c (t + 1) = earlier_front s c s.slots (t + 1) f.front (omega arith) in (
      λ l x. link_first_out s c t l d v next x m (link_behind s c t l d v now x m),
      λ u x some. origin_first_out s c t u d v next x some m (origin_behind s c t u d v now y x some m),
    )

-- what a link sends is at most its capacity
pub link_first_sum : (s : Setting) (c : Counts) (t l : ℕ) → IsSetting s → IsFront s c t → l < s.links →
    sum_below s.destinations (link_first s c l t) + total s.destinations (c (down_of l)) t ≡ link_goal s c l t
link_first_sum s c t l v f x =
    omega (
      arith,
      sum_below-minus s.destinations (λ d. c (down_of l) d t) (first_units s.destinations (c (up_of l)) (link_goal s c l t) t) (λ d m. link_behind s c t l d v f x m),
      first_sums_holds s.destinations (c (up_of l)) (link_goal s c l t) t (link_part s c t l v f x),
    )

-- the sum of floors, over the denominator
floors_le : (n : ℕ) (p d : ℕ) (s : ℕ → ℕ) → sum_below n (λ k. p * s k / d) * d ≤ p * sum_below n s
floors_le zero p d s = omega arith
floors_le (suc n) p d s =
    let below : sum_below n (λ k. p * s k / d) * d ≤ p * sum_below n s = floors_le n p d s in
    omega (arith, div-mul-le_self (p * s n) d)

limited_over : (limit whole part : ℕ) → limit < whole → limited limit whole part ≡ part * limit / whole
limited_over limit whole part h = grind (arith, nat_tests)

limited_sum : (n limit : ℕ) (f : ℕ → ℕ) → sum_below n (λ d. limited limit (sum_below n f) (f d)) ≤ limit ⊎ sum_below n f ≤ limit
limited_sum n limit f =
    elim (cases_lt limit (sum_below n f)) [
      | inr under ↦ inr under
      | inl over ↦
          let w : ℕ = sum_below n f in
          let each : sum_below n (λ d. limited limit (sum_below n f) (f d)) ≡ sum_below n (λ d. limit * f d / sum_below n f) =
          sum_below-same n (λ d. limited limit (sum_below n f) (f d)) (λ d. limit * f d / sum_below n f)
          (λ d l. limited_over limit (sum_below n f) (f d) over ∙ ap (λ (z : ℕ). z / sum_below n f) (let e : f d * limit ≡ limit * f d = omega arith in e)) in
          inl (le_of_mul-le-mul_right {k = sum_below n f} (omega (arith, floors_le n limit (sum_below n f) f, ap (λ (z : ℕ). z * sum_below n f) each)) (omega arith))
    ]

pub limited_within : (n limit : ℕ) (f : ℕ → ℕ) → sum_below n (λ d. limited limit (sum_below n f) (f d)) ≤ limit
limited_within n limit f =
    elim (limited_sum n limit f) [
      | inl h ↦ h
      | inr h ↦ omega (arith, sum_below-le n (λ d. limited limit (sum_below n f) (f d)) f (λ d l. limited_le limit (sum_below n f) (f d)))
    ]

pub within_exit_holds : WithinExit
within_exit_holds s c v f t l y x =
    let step : Leaves s c (down_of l) t (link_sending s c l t) = link_leaves s c l t v x (f.front.steps (s.head l) t (v.network.head_is_node l x) y) in
    omega (
      arith,
      sum_below-le s.destinations (λ d. c (down_of l) d (t + 1)) (λ d. c (down_of l) d t + link_sending s c l t d) step.within,
      sum_below-plus s.destinations (λ d. c (down_of l) d t) (link_sending s c l t),
      limited_within s.destinations (s.exit_limit l t) (link_first s c l t),
    )

-- what is on a link fits its storage, and so does what will be once a wave has passed
pub storage_ahead : (s : Setting) (c : Counts) (t l : ℕ) → IsSetting s → IsFront s c (t + 1) → l < s.links →
    total s.destinations (c (up_of l)) t ≤ earlier (total s.destinations (c (down_of l))) s.step t (s.wave_time l) + s.storage l →
    total s.destinations (c (up_of l)) (t + 1) ≤ earlier (total s.destinations (c (down_of l))) s.step (t + 1) (s.wave_time l) + s.storage l
storage_ahead s c t l v f x before =
    let step : Enters s c l t = link_enters s c l t v x (f.steps (s.tail l) t (v.network.tail_is_node l x) (omega arith)) in
    omega (
      arith,
      step.within,
      earlier_rises (total s.destinations (c (down_of l))) s.step t (s.wave_time l) v.some_step (v.wave_time l x) (total_rises s.destinations (c (down_of l)) (t + 1) (down_rises s c (t + 1) l v f x)),
    )

pub storage_at : (s : Setting) (c : Counts) (t l : ℕ) → IsSetting s → IsFront s c t → l < s.links →
    total s.destinations (c (up_of l)) t ≤ earlier (total s.destinations (c (down_of l))) s.step t (s.wave_time l) + s.storage l
storage_at s c zero l v f x = omega (arith, empty_total s c (up_of l) 0 f (up_is_group s l x))
storage_at s c (suc t) l v f x =
    let e : t + 1 ≡ suc t = omega arith in
    let P : ℕ → Type 0 = λ k. total s.destinations (c (up_of l)) k ≤ earlier (total s.destinations (c (down_of l))) s.step k (s.wave_time l) + s.storage l in
    subst P e (storage_ahead s c t l v (earlier_front s c (suc t) (t + 1) f (omega arith)) x (storage_at s c t l v (earlier_front s c (suc t) t f (omega arith)) x))

pub within_storage_holds : WithinStorage
within_storage_holds s c v f l k x y =
    let now : IsFront s c k = earlier_front s c s.slots k f.front y in
    omega (
      arith,
      storage_at s c k l v now x,
      earlier_within (total s.destinations (c (down_of l))) s.step k (s.wave_time l) v.some_step (v.wave_time l x) (total_rises s.destinations (c (down_of l)) k (down_rises s c k l v now x)),
    )

pub within_produced_holds : WithinProduced
within_produced_holds s c v f u d zero x m y = omega (arith, f.front.empty (dep_of s u) d (omega arith) m)
within_produced_holds s c v f u d (suc t) x m y =
    let e : t + 1 ≡ suc t = omega arith in
    let P : ℕ → Type 0 = λ k. c (dep_of s u) d k ≤ s.produced u d k in
    subst P e (elim (cases_lt 0 (s.outs u)) [
      | inl some ↦ omega (arith, (first_in_first_out_holds s c v f t d (omega arith) m).1 u x some, first_within_holds s.destinations (s.produced u) (origin_goal s c u t) (t + 1) (origin_part s c t u v (omega arith) x) d m)
      | inr none ↦ omega (arith, f.no_origin u d (t + 1) x (omega arith) m (omega arith))
    ])
