-- What a pair reads is that of the counts up to its slot.
use Rattle.std.proofs.Common.{◌≡◌, ℕ, zero, suc, ◌+◌, ◌-◌, ◌*◌, ◌/◌, ◌%◌, ◌<◌, ◌≤◌, List, ◌∷◌, Option, Some, None, slice_index, cond, nat_le, ◌==◌, ◌||◌, arith, inl, inr, refl, ap, sym, subst, ◌∙◌}
use Rattle.std.proofs.Math.Nat.{mul-le-mul_left}
use Rattle.std.proofs.lemmas.Bool.{cases_lt}
use Rattle.std.proofs.lemmas.Bool.Decides.{nat_tests}
use Rattle.std.proofs.lemmas.Nat.{div_below, mod_below}
use Rattle.ltm_units.specs.Sums.{sum_below}
use Rattle.ltm_units.specs.Nested.{nested_split}
use Rattle.ltm_units.proofs.Sums.{sum_below-same}
use Rattle.ltm_curve.specs.Counts.{Counts, total}
use Rattle.ltm_curve.specs.First.{list_below, last_within, entries, mixed, first_units}
use Rattle.ltm_loading.specs.Setting.{Setting, IsSetting}
use Rattle.ltm_loading.specs.Groups.{up_of, down_of, dep_of, arr_of, groups}
use Rattle.ltm_loading.specs.Flows.{limited, link_goal, position, link_first, link_sending, origin_goal, origin_sending, receiving}
use Rattle.ltm_loading.specs.Pairs.{arms_of, sending, arm_group, arrived_by, grid, pair_row}
use Rattle.ltm_loading.specs.Reads.{Reads, in_link_entered, in_link_left, out_link_entered, out_link_left, origin_left, here_arrived, InputsReadOnly}
use Rattle.ltm_loading.proofs.Times.{earlier_same}
use Rattle.ltm_loading.proofs.Picks.{pick_first, pick_second}

pub list_below-same : (n : ℕ) (f g : ℕ → ℕ) → ((k : ℕ) → k < n → f k ≡ g k) → list_below n f ≡ list_below n g
list_below-same zero f g h = refl
list_below-same (suc n) f g h =
    ap (λ (z : ℕ). z ∷ list_below n (λ k. f (suc k))) (h 0 (omega arith)) ∙ ap (λ (zs : List ℕ). g 0 ∷ zs) (list_below-same n (λ k. f (suc k)) (λ k. g (suc k)) (λ k l. h (suc k) (omega arith)))

pub grid-same : (h w : ℕ) (f g : ℕ → ℕ → ℕ) → ((i k : ℕ) → i < h → k < w → f i k ≡ g i k) → grid h w f ≡ grid h w g
grid-same h w f g e =
    list_below-same (h * w) (λ z. f (z / w) (z % w)) (λ z. g (z / w) (z % w))
    (λ z l.
    let some : 0 < w = elim (cases_lt 0 w) [ inl some ↦ some | inr none ↦ absurd (omega (arith, mul-le-mul_left h none)) ] in e (z / w) (z % w) (div_below z w h some l) (mod_below z w some))

-- what does not look past the last boundary
pub last_within-same : (a b : ℕ → ℕ) (n last : ℕ) → ((k : ℕ) → k ≤ last → a k ≡ b k) → last_within a n last ≡ last_within b n last
last_within-same a b n zero h = refl
last_within-same a b n (suc last) h =
    ap (λ (z : ℕ). cond (nat_le z n) (suc last) (last_within a n last)) (h (suc last) (omega arith))
    ∙ ap (λ (z : ℕ). cond (nat_le (b (suc last)) n) (suc last) z) (last_within-same a b n last (λ k l. h k (omega arith)))

last_within_le : (c : ℕ → ℕ) (n last : ℕ) → last_within c n last ≤ last
last_within_le c n zero = omega arith
last_within_le c n (suc last) = let h : last_within c n last ≤ last = last_within_le c n last in grind (arith, nat_tests)

pub total-same : (m : ℕ) (a b : ℕ → ℕ → ℕ) (k : ℕ) → ((d : ℕ) → d < m → a d k ≡ b d k) → total m a k ≡ total m b k
total-same m a b k h = sum_below-same m (λ d. a d k) (λ d. b d k) h

at_end : (part k last a x : ℕ) → k ≡ last → cond ((part == 0) || (k == last)) a x ≡ a
at_end part k last a x h = grind (arith, nat_tests)

-- a part, given the boundary where the units end
abbrev at : ℕ → (ℕ → ℕ → ℕ) → ℕ → ℕ → ℕ → ℕ → ℕ
at m a n last d k = cond ((n - total m a k == 0) || (k == last)) (a d k) (mixed m a k (n - total m a k) d)

at_same : (m : ℕ) (a b : ℕ → ℕ → ℕ) (n last d k : ℕ) → ((e j : ℕ) → e < m → j ≤ last → a e j ≡ b e j) → d < m → k ≤ last → at m a n last d k ≡ at m b n last d k
at_same m a b n last d k h l x =
    let t : total m a k ≡ total m b k = total-same m a b k (λ e y. h e k y x) in
    let r : a d k ≡ b d k = h d k l x in
    elim (cases_lt k last) [
      | inl low ↦
          let es : entries m a k ≡ entries m b k =
          list_below-same m (λ e. a e (k + 1) - a e k) (λ e. b e (k + 1) - b e k) (λ e y. ap (λ (z : ℕ). z - a e k) (h e (k + 1) y (omega arith)) ∙ ap (λ (z : ℕ). b e (k + 1) - z) (h e k y x)) in
          ap (λ (z : ℕ). cond ((n - z == 0) || (k == last)) (a d k) (a d k + slice_index (nested_split (n - z) (entries m a k)) d)) t
          ∙ (ap (λ (z : ℕ). cond ((n - total m b k == 0) || (k == last)) z (z + slice_index (nested_split (n - total m b k) (entries m a k)) d)) r
          ∙ ap (λ (zs : List ℕ). cond ((n - total m b k == 0) || (k == last)) (b d k) (b d k + slice_index (nested_split (n - total m b k) zs) d)) es)
      | inr high ↦
          let e : k ≡ last = omega arith in
          at_end (n - total m a k) k last (a d k) (mixed m a k (n - total m a k) d) e ∙ (r ∙ sym (at_end (n - total m b k) k last (b d k) (mixed m b k (n - total m b k) d) e))
    ]

pub first_units-same : (m : ℕ) (a b : ℕ → ℕ → ℕ) (n last : ℕ) → ((d k : ℕ) → d < m → k ≤ last → a d k ≡ b d k) → (d : ℕ) → d < m → first_units m a n last d ≡ first_units m b n last d
first_units-same m a b n last h d l =
    let totals : (k : ℕ) → k ≤ last → total m a k ≡ total m b k = λ k x. total-same m a b k (λ e y. h e k y x) in
    let ends : last_within (total m a) n last ≡ last_within (total m b) n last = last_within-same (total m a) (total m b) n last totals in
    let e : first_units m a n last d ≡ at m a n last d (last_within (total m b) n last) = ap (λ (k : ℕ). at m a n last d k) ends in
    e ∙ at_same m a b n last d (last_within (total m b) n last) h l (last_within_le (total m b) n last)

-- the same counts of a group up to a boundary
pub record AgreeAt (s : Setting) (a b : Counts) (g t : ℕ) : Type 0 where
  pub same : (d k : ℕ) → d < s.destinations → k ≤ t → a g d k ≡ b g d k

totals_agree : (s : Setting) (a b : Counts) (t g : ℕ) → AgreeAt s a b g t → (k : ℕ) → k ≤ t → total s.destinations (a g) k ≡ total s.destinations (b g) k
totals_agree s a b t g h k l = total-same s.destinations (a g) (b g) k (λ d m. h.same d k m l)

link_goal_same : (s : Setting) (a b : Counts) (l t : ℕ) → IsSetting s → AgreeAt s a b (up_of l) t → AgreeAt s a b (down_of l) t → l < s.links → link_goal s a l t ≡ link_goal s b l t
link_goal_same s a b l t v up down x =
    omega (
      arith,
      earlier_same (total s.destinations (a (up_of l))) (total s.destinations (b (up_of l))) s.step t (s.free_time l) v.some_step (v.free_time l x) (totals_agree s a b t (up_of l) up),
      totals_agree s a b t (down_of l) down t (omega arith),
    )

-- the position of a slot for a link is known by the counts of the link up to the slot
pub position_same : (s : Setting) (a b : Counts) (l t : ℕ) → IsSetting s → AgreeAt s a b (up_of l) t → AgreeAt s a b (down_of l) t → l < s.links → position s a l t ≡ position s b l t
position_same s a b l t v up down x =
    ap (λ (n : ℕ). last_within (total s.destinations (a (up_of l))) n t) (link_goal_same s a b l t v up down x)
    ∙ last_within-same (total s.destinations (a (up_of l))) (total s.destinations (b (up_of l))) (link_goal s b l t) t (totals_agree s a b t (up_of l) up)

link_first_same : (s : Setting) (a b : Counts) (l t d : ℕ) → IsSetting s → AgreeAt s a b (up_of l) t → AgreeAt s a b (down_of l) t → l < s.links → d < s.destinations → link_first s a l t d ≡ link_first s b l t d
link_first_same s a b l t d v up down x m =
    ap (λ (z : ℕ). first_units s.destinations (a (up_of l)) z t d - a (down_of l) d t) (link_goal_same s a b l t v up down x)
    ∙ (ap (λ (z : ℕ). z - a (down_of l) d t) (first_units-same s.destinations (a (up_of l)) (b (up_of l)) (link_goal s b l t) t up.same d m)
    ∙ ap (λ (z : ℕ). first_units s.destinations (b (up_of l)) (link_goal s b l t) t d - z) (down.same d t m (omega arith)))

link_sending_same : (s : Setting) (a b : Counts) (l t d : ℕ) → IsSetting s → AgreeAt s a b (up_of l) t → AgreeAt s a b (down_of l) t → l < s.links → d < s.destinations → link_sending s a l t d ≡ link_sending s b l t d
link_sending_same s a b l t d v up down x m =
    ap (λ (z : ℕ). limited (s.exit_limit l t) z (link_first s a l t d)) (sum_below-same s.destinations (link_first s a l t) (link_first s b l t) (λ e y. link_first_same s a b l t e v up down x y))
    ∙ ap (λ (z : ℕ). limited (s.exit_limit l t) (sum_below s.destinations (link_first s b l t)) z) (link_first_same s a b l t d v up down x m)

origin_sending_same : (s : Setting) (a b : Counts) (u t d : ℕ) → AgreeAt s a b (dep_of s u) t → d < s.destinations → origin_sending s a u t d ≡ origin_sending s b u t d
origin_sending_same s a b u t d dep m =
    let e : origin_goal s a u t ≡ origin_goal s b u t = omega (arith, totals_agree s a b t (dep_of s u) dep t (omega arith)) in
    ap (λ (z : ℕ). first_units s.destinations (s.produced u) z (t + 1) d - a (dep_of s u) d t) e
    ∙ ap (λ (z : ℕ). first_units s.destinations (s.produced u) (origin_goal s b u t) (t + 1) d - z) (dep.same d t m (omega arith))

receiving_same : (s : Setting) (a b : Counts) (l t : ℕ) → IsSetting s → AgreeAt s a b (up_of l) t → AgreeAt s a b (down_of l) t → l < s.links → receiving s a l t ≡ receiving s b l t
receiving_same s a b l t v up down x =
    omega (
      arith,
      earlier_same (total s.destinations (a (down_of l))) (total s.destinations (b (down_of l))) s.step t (s.wave_time l) v.some_step (v.wave_time l x) (totals_agree s a b t (down_of l) down),
      totals_agree s a b t (up_of l) up t (omega arith),
    )

-- the same counts of all that a pair reads
record AgreeFor (s : Setting) (a b : Counts) (u t : ℕ) : Type 0 where
  in_up : (i : ℕ) → i < s.ins u → AgreeAt s a b (up_of (s.in_link u i)) t
  in_down : (i : ℕ) → i < s.ins u → AgreeAt s a b (down_of (s.in_link u i)) t
  out_up : (j : ℕ) → j < s.outs u → AgreeAt s a b (up_of (s.out_link u j)) t
  out_down : (j : ℕ) → j < s.outs u → AgreeAt s a b (down_of (s.out_link u j)) t
  dep : 0 < s.outs u → AgreeAt s a b (dep_of s u) t
  arr : arrived_by s a (s.own u) t ≡ arrived_by s b (s.own u) t

sending_same : (s : Setting) (a b : Counts) (u t i d : ℕ) → IsSetting s → AgreeFor s a b u t → u < s.nodes → i < arms_of s u → d < s.destinations → sending s a u t i d ≡ sending s b u t i d
sending_same s a b u t i d v h x y m =
    elim (cases_lt i (s.ins u)) [
      | inl link ↦
          pick_first i (s.ins u) (link_sending s a (s.in_link u i) t d) (origin_sending s a u t d) link
          ∙ (link_sending_same s a b (s.in_link u i) t d v (h.in_up i link) (h.in_down i link) (v.network.in_link_is_link u i x link) m
          ∙ sym (pick_first i (s.ins u) (link_sending s b (s.in_link u i) t d) (origin_sending s b u t d) link))
      | inr origin ↦
          pick_second i (s.ins u) (link_sending s a (s.in_link u i) t d) (origin_sending s a u t d) origin
          ∙ (origin_sending_same s a b u t d (h.dep (omega arith)) m ∙ sym (pick_second i (s.ins u) (link_sending s b (s.in_link u i) t d) (origin_sending s b u t d) origin))
    ]

left_same : (s : Setting) (a b : Counts) (u t i d : ℕ) → AgreeFor s a b u t → i < arms_of s u → d < s.destinations → a (arm_group s u i) d t ≡ b (arm_group s u i) d t
left_same s a b u t i d h y m =
    let P : ℕ → Type 0 = λ z. a z d t ≡ b z d t in
    elim (cases_lt i (s.ins u)) [
      | inl link ↦ subst P (sym (pick_first i (s.ins u) (down_of (s.in_link u i)) (dep_of s u) link)) ((h.in_down i link).same d t m (omega arith))
      | inr origin ↦ subst P (sym (pick_second i (s.ins u) (down_of (s.in_link u i)) (dep_of s u) origin)) ((h.dep (omega arith)).same d t m (omega arith))
    ]

agreeing_row : (s : Setting) (a b : Counts) (u t : ℕ) → IsSetting s → AgreeFor s a b u t → u < s.nodes → pair_row s a u t ≡ pair_row s b u t
agreeing_row s a b u t v h x =
    let e1 : grid (arms_of s u) s.destinations (sending s a u t) ≡ grid (arms_of s u) s.destinations (sending s b u t) =
    grid-same (arms_of s u) s.destinations (sending s a u t) (sending s b u t) (λ i d y z. sending_same s a b u t i d v h x y z) in
    let e2 : grid (arms_of s u) s.destinations (λ i d. a (arm_group s u i) d t) ≡ grid (arms_of s u) s.destinations (λ i d. b (arm_group s u i) d t) =
    grid-same (arms_of s u) s.destinations (λ i d. a (arm_group s u i) d t) (λ i d. b (arm_group s u i) d t) (λ i d y z. left_same s a b u t i d h y z) in
    let e3 : grid (s.outs u) s.destinations (λ j d. a (up_of (s.out_link u j)) d t) ≡ grid (s.outs u) s.destinations (λ j d. b (up_of (s.out_link u j)) d t) =
    grid-same (s.outs u) s.destinations (λ j d. a (up_of (s.out_link u j)) d t) (λ j d. b (up_of (s.out_link u j)) d t) (λ j d y z. (h.out_up j y).same d t z (omega arith)) in
    let e4 : list_below 1 (λ k. arrived_by s a (s.own u) t) ≡ list_below 1 (λ k. arrived_by s b (s.own u) t) =
    list_below-same 1 (λ k. arrived_by s a (s.own u) t) (λ k. arrived_by s b (s.own u) t) (λ k y. h.arr) in
    let e5 : list_below (s.outs u) (λ j. receiving s a (s.out_link u j) t) ≡ list_below (s.outs u) (λ j. receiving s b (s.out_link u j) t) =
    list_below-same (s.outs u) (λ j. receiving s a (s.out_link u j) t) (λ j. receiving s b (s.out_link u j) t)
    (λ j y. receiving_same s a b (s.out_link u j) t v (h.out_up j y) (h.out_down j y) (v.network.out_link_is_link u j x y)) in cc

arrived_same : (s : Setting) (a b : Counts) (u t : ℕ) (o : Option ℕ) → s.own u ≡ o → ((g d k : ℕ) → Reads s u g d → d < s.destinations → k ≤ t → a g d k ≡ b g d k) → ((d : ℕ) → o ≡ Some d → d < s.destinations) → arrived_by s a o t ≡ arrived_by s b o t
arrived_same s a b u t None e h x = refl
arrived_same s a b u t (Some d) e h x = h (arr_of s) d t (here_arrived e refl) (x d refl) (omega arith)

-- the inputs of a pair are those of the counts that it reads
pub inputs_read_only_holds : InputsReadOnly
inputs_read_only_holds s a b u t v x h =
    let agree : AgreeFor s a b u t = record {
      in_up = λ i y. record { same = λ d k m l. h (up_of (s.in_link u i)) d k (in_link_entered i y refl) m l };
      in_down = λ i y. record { same = λ d k m l. h (down_of (s.in_link u i)) d k (in_link_left i y refl) m l };
      out_up = λ j y. record { same = λ d k m l. h (up_of (s.out_link u j)) d k (out_link_entered j y refl) m l };
      out_down = λ j y. record { same = λ d k m l. h (down_of (s.out_link u j)) d k (out_link_left j y refl) m l };
      dep = λ some. record { same = λ d k m l. h (dep_of s u) d k (origin_left some refl) m l };
      arr = arrived_same s a b u t (s.own u) refl h (λ d o. v.network.own_is_destination u d x o);
    } in
    agreeing_row s a b u t v agree x

pub arm_is_group : (s : Setting) (u i : ℕ) → IsSetting s → u < s.nodes → arm_group s u i < groups s
arm_is_group s u i v x =
    elim (cases_lt i (s.ins u)) [
      | inl link ↦ omega (arith, pick_first i (s.ins u) (down_of (s.in_link u i)) (dep_of s u) link, v.network.in_link_is_link u i x link)
      | inr origin ↦ omega (arith, pick_second i (s.ins u) (down_of (s.in_link u i)) (dep_of s u) origin)
    ]

-- what a pair reads are counts of groups
reads_group : (s : Setting) (u g d : ℕ) → IsSetting s → u < s.nodes → Reads s u g d → g < groups s
reads_group s u g d v x (in_link_entered i y e) = omega (arith, v.network.in_link_is_link u i x y)
reads_group s u g d v x (in_link_left i y e) = omega (arith, v.network.in_link_is_link u i x y)
reads_group s u g d v x (out_link_entered j y e) = omega (arith, v.network.out_link_is_link u j x y)
reads_group s u g d v x (out_link_left j y e) = omega (arith, v.network.out_link_is_link u j x y)
reads_group s u g d v x (origin_left some e) = omega arith
reads_group s u g d v x (here_arrived own e) = omega arith

-- the same counts up to a boundary
pub record AgreeTo (s : Setting) (a b : Counts) (t : ℕ) : Type 0 where
  pub same : (g d k : ℕ) → g < groups s → d < s.destinations → k ≤ t → a g d k ≡ b g d k

-- the inputs of a pair are those of the counts up to its slot
pub pair_row_same : (s : Setting) (a b : Counts) (u t : ℕ) → IsSetting s → AgreeTo s a b t → u < s.nodes → pair_row s a u t ≡ pair_row s b u t
pair_row_same s a b u t v h x = inputs_read_only_holds s a b u t v x (λ g d k reads m l. h.same g d k (reads_group s u g d v x reads) m l)
