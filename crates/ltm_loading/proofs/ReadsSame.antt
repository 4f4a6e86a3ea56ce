-- The inputs of a pair are known by what it reads.
use Rattle.std.proofs.Common.{◌≡◌, ℕ, ◌+◌, ◌-◌, ◌<◌, ◌≤◌, Option, Some, None, min, cond, nat_lt, arith, inl, inr, refl, ap, sym, ◌∙◌, subst}
use Rattle.std.proofs.lemmas.Bool.{cases_lt}
use Rattle.ltm_units.specs.Sums.{sum_below}
use Rattle.ltm_units.proofs.Sums.{sum_below-same}
use Rattle.ltm_curve.specs.Counts.{Counts, total}
use Rattle.ltm_curve.specs.First.{list_below, last_within, first_units}
use Rattle.ltm_loading.specs.Setting.{Setting}
use Rattle.ltm_loading.specs.Groups.{up_of, down_of, dep_of, arr_of}
use Rattle.ltm_loading.specs.Flows.{earlier, limited, link_goal, link_first, link_sending, origin_goal, origin_sending, receiving}
use Rattle.ltm_loading.specs.Pairs.{arms_of, sending, arm_group, arm_capacity, arrived_by, grid}
use Rattle.ltm_loading.proofs.Picks.{pick_first, pick_second}
use Rattle.ltm_loading.proofs.Same.{list_below-same, grid-same, total-same, first_units-same}
use Rattle.ltm_loading.specs.Networks.{SameNetwork, SameFor}
use Rattle.ltm_loading.specs.Reads.{PositionReadOnly, SettingReadOnly, InputsByParts}

-- a table with other sides of the same lengths
grid_over : (h w h' w' : ℕ) (f g : ℕ → ℕ → ℕ) → h ≡ h' → w ≡ w' → ((i k : ℕ) → i < h' → k < w' → f i k ≡ g i k) → grid h w f ≡ grid h' w' g
grid_over h w h' w' f g p q e = ap (λ z. grid z w f) p ∙ (ap (λ z. grid h' z f) q ∙ grid-same h' w' f g e)

list_over : (n m : ℕ) (f g : ℕ → ℕ) → n ≡ m → ((k : ℕ) → k < m → f k ≡ g k) → list_below n f ≡ list_below m g
list_over n m f g p e = ap (λ z. list_below z f) p ∙ list_below-same m f g e

-- an arm is an in-link or the origin
pick_arm : (i n m : ℕ) (x y x' y' : ℕ) → n ≡ m → (i < m → x ≡ x') → (m ≤ i → y ≡ y') → cond (nat_lt i n) x y ≡ cond (nat_lt i m) x' y'
pick_arm i n m x y x' y' same first second =
    elim (cases_lt i m) [
      | inl low ↦ pick_first i n x y (omega arith) ∙ (first low ∙ sym (pick_first i m x' y' low))
      | inr high ↦ pick_second i n x y (omega arith) ∙ (second high ∙ sym (pick_second i m x' y' high))
    ]

arrived_over : (r s : Setting) (a : Counts) (o o' : Option ℕ) (k : ℕ) → SameNetwork r s → o ≡ o' → arrived_by r a o k ≡ arrived_by s a o' k
arrived_over r s a None o' k same e = subst (λ (z : Option ℕ). arrived_by r a None k ≡ arrived_by s a z k) e refl
arrived_over r s a (Some d) o' k same e =
    let at : a (arr_of r) d k ≡ a (arr_of s) d k = rw (same.links, same.nodes) refl in
    subst (λ (z : Option ℕ). arrived_by r a (Some d) k ≡ arrived_by s a z k) e at

pub inputs_by_parts_holds : InputsByParts
inputs_by_parts_holds r s a b u t h =
    let n : SameNetwork r s = h.network in
    let ins : r.ins u ≡ s.ins u = ap (λ (f : ℕ → ℕ). f u) n.ins in
    let outs : r.outs u ≡ s.outs u = ap (λ (f : ℕ → ℕ). f u) n.outs in
    let ends : r.destinations ≡ s.destinations = n.destinations in
    let arms : arms_of r u ≡ arms_of s u = omega (arith, ins, outs) in
    let in_link : (i : ℕ) → r.in_link u i ≡ s.in_link u i = λ i. ap (λ (f : ℕ → ℕ → ℕ). f u i) n.in_link in
    let out_link : (j : ℕ) → r.out_link u j ≡ s.out_link u j = λ j. ap (λ (f : ℕ → ℕ → ℕ). f u j) n.out_link in
    let dep : dep_of r u ≡ dep_of s u = omega (arith, n.links) in
    let e1 : grid (arms_of r u) r.destinations (sending r a u t) ≡ grid (arms_of s u) s.destinations (sending s b u t) =
    grid_over (arms_of r u) r.destinations (arms_of s u) s.destinations (sending r a u t) (sending s b u t) arms ends (λ i d x y.
    pick_arm i (r.ins u) (s.ins u) (link_sending r a (r.in_link u i) t d) (origin_sending r a u t d) (link_sending s b (s.in_link u i) t d) (origin_sending s b u t d) ins
    (λ low. ap (λ z. link_sending r a z t d) (in_link i) ∙ h.link i d low y)
    (λ high. h.origin d (omega arith) y)) in
    let e2 : grid (arms_of r u) r.destinations (λ i d. a (arm_group r u i) d t) ≡ grid (arms_of s u) s.destinations (λ i d. b (arm_group s u i) d t) =
    grid_over (arms_of r u) r.destinations (arms_of s u) s.destinations (λ i d. a (arm_group r u i) d t) (λ i d. b (arm_group s u i) d t) arms ends (λ i d x y.
    elim (cases_lt i (s.ins u)) [
      | inl low ↦
          ap (λ z. a z d t) (pick_first i (r.ins u) (down_of (r.in_link u i)) (dep_of r u) (omega (arith, ins)) ∙ ap down_of (in_link i))
          ∙ (h.link_left i d low y ∙ sym (ap (λ z. b z d t) (pick_first i (s.ins u) (down_of (s.in_link u i)) (dep_of s u) low)))
      | inr high ↦
          ap (λ z. a z d t) (pick_second i (r.ins u) (down_of (r.in_link u i)) (dep_of r u) (omega (arith, ins)) ∙ dep)
          ∙ (h.origin_left d (omega arith) y ∙ sym (ap (λ z. b z d t) (pick_second i (s.ins u) (down_of (s.in_link u i)) (dep_of s u) high)))
    ]) in
    let e3 : grid (r.outs u) r.destinations (λ j d. a (up_of (r.out_link u j)) d t) ≡ grid (s.outs u) s.destinations (λ j d. b (up_of (s.out_link u j)) d t) =
    grid_over (r.outs u) r.destinations (s.outs u) s.destinations (λ j d. a (up_of (r.out_link u j)) d t) (λ j d. b (up_of (s.out_link u j)) d t) outs ends
    (λ j d x y. ap (λ z. a (up_of z) d t) (out_link j) ∙ h.entered j d x y) in
    let e4 : list_below 1 (λ k. arrived_by r a (r.own u) t) ≡ list_below 1 (λ k. arrived_by s b (s.own u) t) =
    list_below-same 1 (λ k. arrived_by r a (r.own u) t) (λ k. arrived_by s b (s.own u) t)
    (λ k y. arrived_over r s a (r.own u) (s.own u) t n (ap (λ (f : ℕ → Option ℕ). f u) n.own) ∙ h.arrived) in
    let e5 : list_below (r.outs u) (λ j. receiving r a (r.out_link u j) t) ≡ list_below (s.outs u) (λ j. receiving s b (s.out_link u j) t) =
    list_over (r.outs u) (s.outs u) (λ j. receiving r a (r.out_link u j) t) (λ j. receiving s b (s.out_link u j) t) outs
    (λ j x. ap (λ z. receiving r a z t) (out_link j) ∙ h.supply j x) in
    let e6 : list_below (arms_of r u) (arm_capacity r u t) ≡ list_below (arms_of s u) (arm_capacity s u t) =
    list_over (arms_of r u) (arms_of s u) (arm_capacity r u t) (arm_capacity s u t) arms (λ i x.
    pick_arm i (r.ins u) (s.ins u) (r.capacity (r.in_link u i) t) r.origin_capacity (s.capacity (s.in_link u i) t) s.origin_capacity ins
    (λ low. ap (λ l. r.capacity l t) (in_link i) ∙ h.link_capacity i low) (λ high. h.origin_capacity)) in
    let e7 : grid r.destinations (r.outs u) (λ d j. r.weight u d t j) ≡ grid s.destinations (s.outs u) (λ d j. s.weight u d t j) =
    grid_over r.destinations (r.outs u) s.destinations (s.outs u) (λ d j. r.weight u d t j) (λ d j. s.weight u d t j) ends outs h.weight in cc

-- ---- from the numbers of the settings
earlier_over : (a b : ℕ → ℕ) (h h' t delay delay' : ℕ) → a ≡ b → h ≡ h' → delay ≡ delay' → earlier a h t delay ≡ earlier b h' t delay'
earlier_over a b h h' t delay delay' p q r = rw (p, q, r) refl

total_over : (r s : Setting) (rows : ℕ → ℕ → ℕ) → SameNetwork r s → total r.destinations rows ≡ total s.destinations rows
total_over r s rows same = ap (λ m. total m rows) same.destinations

goal_over : (r s : Setting) (c : Counts) (l t : ℕ) → SameNetwork r s → r.step ≡ s.step → r.free_time l ≡ s.free_time l → r.capacity l t ≡ s.capacity l t → link_goal r c l t ≡ link_goal s c l t
goal_over r s c l t same step free cap =
    ap (λ (f : ℕ → ℕ). min (earlier f r.step t (r.free_time l)) (total r.destinations (c (down_of l)) t + r.capacity l t)) (total_over r s (c (up_of l)) same)
    ∙ (ap (λ z. min z (total r.destinations (c (down_of l)) t + r.capacity l t))
    (earlier_over (total s.destinations (c (up_of l))) (total s.destinations (c (up_of l))) r.step s.step t (r.free_time l) (s.free_time l) refl step free)
    ∙ (ap (λ (f : ℕ → ℕ). min (earlier (total s.destinations (c (up_of l))) s.step t (s.free_time l)) (f t + r.capacity l t)) (total_over r s (c (down_of l)) same)
    ∙ ap (λ z. min (earlier (total s.destinations (c (up_of l))) s.step t (s.free_time l)) (total s.destinations (c (down_of l)) t + z)) cap))

first_over : (r s : Setting) (c : Counts) (l t : ℕ) → SameNetwork r s → r.step ≡ s.step → r.free_time l ≡ s.free_time l → r.capacity l t ≡ s.capacity l t → (d : ℕ) → link_first r c l t d ≡ link_first s c l t d
first_over r s c l t same step free cap d =
    ap (λ m. first_units m (c (up_of l)) (link_goal r c l t) t d - c (down_of l) d t) same.destinations
    ∙ ap (λ n. first_units s.destinations (c (up_of l)) n t d - c (down_of l) d t) (goal_over r s c l t same step free cap)

sending_over : (r s : Setting) (c : Counts) (l t d : ℕ) → SameNetwork r s → r.step ≡ s.step → r.free_time l ≡ s.free_time l → r.capacity l t ≡ s.capacity l t → r.exit_limit l t ≡ s.exit_limit l t →
    link_sending r c l t d ≡ link_sending s c l t d
sending_over r s c l t d same step free cap exit =
    ap (λ z. limited z (sum_below r.destinations (link_first r c l t)) (link_first r c l t d)) exit
    ∙ (ap (λ m. limited (s.exit_limit l t) (sum_below m (link_first r c l t)) (link_first r c l t d)) same.destinations
    ∙ (ap (λ z. limited (s.exit_limit l t) z (link_first r c l t d)) (sum_below-same s.destinations (link_first r c l t) (link_first s c l t) (λ e y. first_over r s c l t same step free cap e))
    ∙ ap (λ z. limited (s.exit_limit l t) (sum_below s.destinations (link_first s c l t)) z) (first_over r s c l t same step free cap d)))

receiving_over : (r s : Setting) (c : Counts) (l t : ℕ) → SameNetwork r s → r.step ≡ s.step → r.wave_time l ≡ s.wave_time l → r.capacity l t ≡ s.capacity l t → r.storage l ≡ s.storage l → r.entry_limit l t ≡ s.entry_limit l t →
    receiving r c l t ≡ receiving s c l t
receiving_over r s c l t same step wave cap room entry =
    let ago : earlier (total r.destinations (c (down_of l))) r.step t (r.wave_time l) ≡ earlier (total s.destinations (c (down_of l))) s.step t (s.wave_time l) =
    earlier_over (total r.destinations (c (down_of l))) (total s.destinations (c (down_of l))) r.step s.step t (r.wave_time l) (s.wave_time l) (total_over r s (c (down_of l)) same) step wave in
    let up : total r.destinations (c (up_of l)) t ≡ total s.destinations (c (up_of l)) t = ap (λ (f : ℕ → ℕ). f t) (total_over r s (c (up_of l)) same) in
    omega (arith, ago, up, cap, room, entry)

origin_over : (r s : Setting) (c : Counts) (u t d : ℕ) → SameFor r s u t → d < s.destinations → origin_sending r c u t d ≡ origin_sending s c u t d
origin_over r s c u t d h m =
    let n : SameNetwork r s = h.network in
    let dep : dep_of r u ≡ dep_of s u = omega (arith, n.links) in
    let made : total r.destinations (r.produced u) (t + 1) ≡ total s.destinations (s.produced u) (t + 1) =
    ap (λ k. total k (r.produced u) (t + 1)) n.destinations ∙ total-same s.destinations (r.produced u) (s.produced u) (t + 1) (λ e y. h.produced e (t + 1) y (omega arith)) in
    let gone : total r.destinations (c (dep_of r u)) t ≡ total s.destinations (c (dep_of s u)) t =
    ap (λ k. total k (c (dep_of r u)) t) n.destinations ∙ ap (λ g. total s.destinations (c g) t) dep in
    let goal : origin_goal r c u t ≡ origin_goal s c u t = omega (arith, made, gone, h.origin_capacity) in
    ap (λ k. first_units k (r.produced u) (origin_goal r c u t) (t + 1) d - c (dep_of r u) d t) n.destinations
    ∙ (ap (λ z. first_units s.destinations (r.produced u) z (t + 1) d - c (dep_of r u) d t) goal
    ∙ (ap (λ z. z - c (dep_of r u) d t) (first_units-same s.destinations (r.produced u) (s.produced u) (origin_goal s c u t) (t + 1) h.produced d m)
    ∙ ap (λ g. first_units s.destinations (s.produced u) (origin_goal s c u t) (t + 1) d - c g d t) dep))

pub setting_read_only_holds : SettingReadOnly
setting_read_only_holds r s c u t h =
    inputs_by_parts_holds r s c c u t (record {
      network = h.network;
      link = λ i d x y. sending_over r s c (s.in_link u i) t d h.network h.step (h.free_time i x) (h.in_capacity i x) (h.exit_limit i x);
      origin = λ d some y. origin_over r s c u t d h y;
      link_left = λ i d x y. refl;
      origin_left = λ d some y. refl;
      entered = λ j d x y. refl;
      arrived = refl;
      supply = λ j x. receiving_over r s c (s.out_link u j) t h.network h.step (h.wave_time j x) (h.out_capacity j x) (h.storage j x) (h.entry_limit j x);
      link_capacity = h.in_capacity;
      origin_capacity = h.origin_capacity;
      weight = h.weight;
    })

pub position_read_only_holds : PositionReadOnly
position_read_only_holds r s c u t i h x =
    ap (λ (f : ℕ → ℕ). last_within f (link_goal r c (s.in_link u i) t) t) (total_over r s (c (up_of (s.in_link u i))) h.network)
    ∙ ap (λ n. last_within (total s.destinations (c (up_of (s.in_link u i)))) n t) (goal_over r s c (s.in_link u i) t h.network h.step (h.free_time i x) (h.in_capacity i x))
