-- What holds up to the front: no count falls, and what left a link are parts of the first units of its goal.
use Rattle.std.proofs.Common.{◌≡◌, ℕ, zero, suc, ◌+◌, ◌*◌, ◌/◌, ◌<◌, ◌≤◌, min, arith, inl, inr, subst}
use Rattle.std.proofs.Math.Nat.{mul-le-mul_left, div-le_of_le-mul}
use Rattle.std.proofs.lemmas.Bool.{cases_lt}
use Rattle.std.proofs.lemmas.Bool.Decides.{nat_tests}
use Rattle.ltm_units.specs.Sums.{sum_below}
use Rattle.ltm_units.proofs.Sums.{sum_below-lt, sum_below-zero}
use Rattle.ltm_curve.specs.Counts.{Counts, total}
use Rattle.ltm_curve.specs.First.{first_units, RowsRise}
use Rattle.ltm_curve.specs.FirstLaws.{IsPart}
use Rattle.ltm_curve.proofs.Lasts.{total_rises}
use Rattle.ltm_curve.proofs.Firsts.{first_rises_holds, first_stays_holds}
use Rattle.ltm_loading.specs.Setting.{Setting, IsSetting}
use Rattle.ltm_loading.specs.Groups.{up_of, down_of, dep_of, arr_of, groups}
use Rattle.ltm_loading.specs.Flows.{earlier, limited, link_goal, link_first, link_sending}
use Rattle.ltm_loading.specs.Loading.{IsFront}
use Rattle.ltm_loading.proofs.Times.{earlier_within, earlier_rises}
use Rattle.ltm_loading.proofs.Pairs.{Leaves, link_leaves, origin_leaves, link_enters, arrives}

-- the groups by kind
pub up_is_group : (s : Setting) (l : ℕ) → l < s.links → up_of l < groups s
up_is_group s l h = omega arith

pub down_is_group : (s : Setting) (l : ℕ) → l < s.links → down_of l < groups s
down_is_group s l h = omega arith

-- counts never fall up to the front
pub down_rises : (s : Setting) (c : Counts) (k l : ℕ) → IsSetting s → IsFront s c k → l < s.links → RowsRise s.destinations (c (down_of l)) k
down_rises s c k l v f x d t m y = (link_leaves s c l t v x (f.steps (s.head l) t (v.network.head_is_node l x) y)).rises d m

pub up_rises : (s : Setting) (c : Counts) (k l : ℕ) → IsSetting s → IsFront s c k → l < s.links → RowsRise s.destinations (c (up_of l)) k
up_rises s c k l v f x d t m y = (link_enters s c l t v x (f.steps (s.tail l) t (v.network.tail_is_node l x) y)).rises d m

pub dep_rises : (s : Setting) (c : Counts) (k u : ℕ) → IsSetting s → IsFront s c k → u < s.nodes → 0 < s.outs u → RowsRise s.destinations (c (dep_of s u)) k
dep_rises s c k u v f x some d t m y = (origin_leaves s c u t v x some (f.steps u t x y)).rises d m

pub arr_rises : (s : Setting) (c : Counts) (k : ℕ) → IsSetting s → IsFront s c k → RowsRise s.destinations (c (arr_of s)) k
arr_rises s c k v f d t m y = arrives s c d t v m (f.steps (s.place d) t (v.network.place_is_node d m) y)

pub earlier_front : (s : Setting) (c : Counts) (k j : ℕ) → IsFront s c k → j ≤ k → IsFront s c j
earlier_front s c k j f l = record { empty = f.empty; steps = λ u t x y. f.steps u t x (omega arith) }

pub empty_total : (s : Setting) (c : Counts) (g k : ℕ) → IsFront s c k → g < groups s → total s.destinations (c g) 0 ≡ 0
empty_total s c g k f x = sum_below-zero s.destinations (λ d. c g d 0) (λ d m. f.empty g d x m)

-- how many units may have left a link by a slot's end, were its capacity in the slot this
abbrev goal_with : Setting → Counts → ℕ → ℕ → ℕ → ℕ
goal_with s c l t room = min (earlier (total s.destinations (c (up_of l))) s.step t (s.free_time l)) (total s.destinations (c (down_of l)) t + room)

-- such a goal lies within what entered the link by the slot's start
part_with : (s : Setting) (c : Counts) (t l room : ℕ) → IsSetting s → IsFront s c t → l < s.links → IsPart s.destinations (c (up_of l)) (goal_with s c l t room) t
part_with s c t l room v f x =
    let rise : RowsRise s.destinations (c (up_of l)) t = up_rises s c t l v f x in
    let within : earlier (total s.destinations (c (up_of l))) s.step t (s.free_time l) ≤ total s.destinations (c (up_of l)) t =
    earlier_within (total s.destinations (c (up_of l))) s.step t (s.free_time l) v.some_step (v.free_time l x) (total_rises s.destinations (c (up_of l)) t rise) in
    record { rise = rise; empty = empty_total s c (up_of l) t f (up_is_group s l x); within = omega arith }

pub link_part : (s : Setting) (c : Counts) (t l : ℕ) → IsSetting s → IsFront s c t → l < s.links → IsPart s.destinations (c (up_of l)) (link_goal s c l t) t
link_part s c t l v f x = part_with s c t l (s.capacity l t) v f x

-- a goal does not fall unless its room falls by more than has left meanwhile
goal_rises : (s : Setting) (c : Counts) (t l room more : ℕ) → IsSetting s → IsFront s c (t + 1) → l < s.links →
    total s.destinations (c (down_of l)) t + room ≤ total s.destinations (c (down_of l)) (t + 1) + more → goal_with s c l t room ≤ goal_with s c l (t + 1) more
goal_rises s c t l room more v f x down =
    let up : earlier (total s.destinations (c (up_of l))) s.step t (s.free_time l) ≤ earlier (total s.destinations (c (up_of l))) s.step (t + 1) (s.free_time l) =
    earlier_rises (total s.destinations (c (up_of l))) s.step t (s.free_time l) v.some_step (v.free_time l x) (total_rises s.destinations (c (up_of l)) (t + 1) (up_rises s c (t + 1) l v f x)) in omega arith

over_le : (limit whole part : ℕ) → limit < whole → part * limit ≤ whole * part
over_le limit whole part l = let h : limit ≤ whole = omega arith in omega (arith, mul-le-mul_left part h)

pub limited_le : (limit whole part : ℕ) → limited limit whole part ≤ part
limited_le limit whole part =
    elim (cases_lt limit whole) [
      | inl over ↦ let e : limited limit whole part ≡ part * limit / whole = grind (arith, nat_tests) in omega (arith, div-le_of_le-mul whole (over_le limit whole part over))
      | inr under ↦ let e : limited limit whole part ≡ part = grind (arith, nat_tests) in omega arith
    ]

-- what leaves in a slot are parts of the first units of its goal
pub link_first_out : (s : Setting) (c : Counts) (t l d : ℕ) → IsSetting s → IsFront s c (t + 1) → l < s.links → d < s.destinations →
    c (down_of l) d t ≤ first_units s.destinations (c (up_of l)) (link_goal s c l t) t d → c (down_of l) d (t + 1) ≤ first_units s.destinations (c (up_of l)) (link_goal s c l t) t d
link_first_out s c t l d v f x m before =
    let step : Leaves s c (down_of l) t (link_sending s c l t) = link_leaves s c l t v x (f.steps (s.head l) t (v.network.head_is_node l x) (omega arith)) in
    omega (arith, step.within d m, limited_le (s.exit_limit l t) (sum_below s.destinations (link_first s c l t)) (link_first s c l t d))

-- what is part of the first units of a goal is part of those of the next slot's
behind_next : (s : Setting) (c : Counts) (t l d room more n : ℕ) → IsSetting s → IsFront s c (t + 1) → l < s.links → d < s.destinations →
    total s.destinations (c (down_of l)) t + room ≤ total s.destinations (c (down_of l)) (t + 1) + more →
    n ≤ first_units s.destinations (c (up_of l)) (goal_with s c l t room) t d →
    n ≤ first_units s.destinations (c (up_of l)) (goal_with s c l (t + 1) more) (t + 1) d
behind_next s c t l d room more n v f x m down h =
    let part : IsPart s.destinations (c (up_of l)) (goal_with s c l t room) t = part_with s c t l room v (earlier_front s c (t + 1) t f (omega arith)) x in
    let next : IsPart s.destinations (c (up_of l)) (goal_with s c l (t + 1) more) (t + 1) = part_with s c (t + 1) l more v f x in
    omega (
      arith,
      h,
      first_stays_holds s.destinations (c (up_of l)) (goal_with s c l t room) t part next.rise d m,
      first_rises_holds s.destinations (c (up_of l)) (goal_with s c l t room) (goal_with s c l (t + 1) more) (t + 1) next (goal_rises s c t l room more v f x down) d m,
    )

-- what left a link are parts of the first units of the goal that it would have with the capacity of any slot: where something left
-- in a slot, that makes up for the unit by which the capacity may be less
behind_in_any : (s : Setting) (c : Counts) (t l d k : ℕ) → IsSetting s → IsFront s c t → l < s.links → d < s.destinations →
    c (down_of l) d t ≤ first_units s.destinations (c (up_of l)) (goal_with s c l t (s.capacity l k)) t d
behind_in_any s c zero l d k v f x m = let z : c (down_of l) d 0 ≡ 0 = f.empty (down_of l) d (down_is_group s l x) m in omega arith
behind_in_any s c (suc t) l d k v f x m =
    let e : t + 1 ≡ suc t = omega arith in
    let g : IsFront s c (t + 1) = earlier_front s c (suc t) (t + 1) f (omega arith) in
    let was : IsFront s c t = earlier_front s c (suc t) t f (omega arith) in
    let rise : RowsRise s.destinations (c (down_of l)) (t + 1) = down_rises s c (t + 1) l v g x in
    let next : c (down_of l) d (t + 1) ≤ first_units s.destinations (c (up_of l)) (goal_with s c l (t + 1) (s.capacity l k)) (t + 1) d =
    elim (cases_lt (c (down_of l) d t) (c (down_of l) d (t + 1))) [
      | inl moved ↦
          let more : total s.destinations (c (down_of l)) t < total s.destinations (c (down_of l)) (t + 1) =
          sum_below-lt s.destinations (λ z. c (down_of l) z t) (λ z. c (down_of l) z (t + 1)) d m (λ z y. rise z t y (omega arith)) moved in
          behind_next s c t l d (s.capacity l t) (s.capacity l k) (c (down_of l) d (t + 1)) v g x m (omega (arith, more, v.even_capacity l t k x))
          (link_first_out s c t l d v g x m (behind_in_any s c t l d t v was x m))
      | inr still ↦
          behind_next s c t l d (s.capacity l k) (s.capacity l k) (c (down_of l) d (t + 1)) v g x m
          (omega (arith, total_rises s.destinations (c (down_of l)) (t + 1) rise t (omega arith)))
          (omega (arith, still, behind_in_any s c t l d k v was x m))
    ] in
    subst (λ (z : ℕ). c (down_of l) d z ≤ first_units s.destinations (c (up_of l)) (goal_with s c l z (s.capacity l k)) z d) e next

-- what left a link are parts of the first units of its goal: so no difference is below 0
pub link_behind : (s : Setting) (c : Counts) (t l d : ℕ) → IsSetting s → IsFront s c t → l < s.links → d < s.destinations → c (down_of l) d t ≤ first_units s.destinations (c (up_of l)) (link_goal s c l t) t d
link_behind s c t l d v f x m = behind_in_any s c t l d t v f x m
