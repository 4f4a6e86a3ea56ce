-- What wakes by the outputs and the index are the readers of the commit, at each pair whose places are its positions.
use Rattle.std.proofs.Common.{◌≡◌, ◌≢◌, ℕ, zero, suc, ◌-◌, ◌<◌, ◌≤◌, ◌==◌, ◌&&◌, ◌||◌, not, nat_le, Bool, true, false, if◌then◌else◌, refl, ap, sym, ◌∙◌, arith, inl, inr, subst}
use Rattle.std.specs.Prelude.{Option, Some, None}
use Rattle.std.proofs.lemmas.Bool.{cases_lt, eqb-true, ne_eqb, le-ltb, lt-leb, le-leb}
use Rattle.ltm_units.specs.Sums.{sum_below}
use Rattle.ltm_units.proofs.Sums.{sum_below-same}
use Rattle.ltm_curve.specs.Counts.{Counts, total}
use Rattle.ltm_curve.specs.First.{last_within}
use Rattle.ltm_node.specs.Outputs.{Outputs, left_after, entered_after, arrived_after}
use Rattle.ltm_loading.specs.Setting.{Setting, IsSetting}
use Rattle.ltm_loading.specs.Groups.{up_of, down_of, dep_of, arr_of, groups}
use Rattle.ltm_loading.specs.Flows.{position}
use Rattle.ltm_loading.specs.Pairs.{arms_of, arm_group, arrived_by}
use Rattle.ltm_loading.specs.NextPair.{IsOf}
use Rattle.ltm_loading.specs.ByPlace.{HoldsCounts}
use Rattle.ltm_frontier.specs.Frontier.{is_pair}
use Rattle.ltm_pairs.specs.Windows.{reads_ago}
use Rattle.ltm_pairs.specs.Changes.{some_below, differs_at, node_differs}
use Rattle.ltm_pairs.specs.Readers.{position_before, reads_first, reads_own, reads_left, reads_entered, reads_commit}
use Rattle.ltm_working.specs.Waking.{arm_differs, out_differs, sink_differs, any_differs, is_between, last_before, wakes_tail, wakes_head, wakes_tails, wakes_heads, wakes}
use Rattle.ltm_working.proofs.Bools.{and_false, same_below, none_below, only_below, do_not_differ, turn, last_first}
use Rattle.ltm_working.proofs.Wakings.{arm_in}

-- the counts of a node are set to the outputs at a boundary, and no others
pub record SetsOutputs (s : Setting) (old new : Counts) (u k : ℕ) (o : Outputs) : Type 0 where
  pub setting : IsSetting s
  pub is_node : u < s.nodes
  pub some : 0 < k
  pub within : k ≤ s.slots
  pub holds : HoldsCounts s new u k o
  pub later : (g d j : ℕ) → g < groups s → d < s.destinations → j ≤ s.slots → j ≢ k → new g d j ≡ old g d j
  pub others : (g d : ℕ) → g < groups s → d < s.destinations → (IsOf s u g d → ⊥) → new g d k ≡ old g d k

-- ---- what differs
pub arm_is : (s : Setting) (old new : Counts) (u k : ℕ) (o : Outputs) (i : ℕ) → SetsOutputs s old new u k o → i < arms_of s u → arm_differs s old u k o i ≡ differs_at s old new (arm_group s u i) k
arm_is s old new u k o i sets l =
    same_below s.destinations (λ d. not (old (arm_group s u i) d k == left_after o i d)) (λ d. not (old (arm_group s u i) d k == new (arm_group s u i) d k))
    (λ d m. ap (λ (z : ℕ). not (old (arm_group s u i) d k == z)) (sets.holds.left i d l m))

pub out_is : (s : Setting) (old new : Counts) (u k : ℕ) (o : Outputs) (j : ℕ) → SetsOutputs s old new u k o → j < s.outs u → out_differs s old u k o j ≡ differs_at s old new (up_of (s.out_link u j)) k
out_is s old new u k o j sets l =
    same_below s.destinations (λ d. not (old (up_of (s.out_link u j)) d k == entered_after o j d)) (λ d. not (old (up_of (s.out_link u j)) d k == new (up_of (s.out_link u j)) d k))
    (λ d m. ap (λ (z : ℕ). not (old (up_of (s.out_link u j)) d k == z)) (sets.holds.entered j d l m))

-- no arm and no out-link has the group of what has arrived
arm_apart : (s : Setting) (u i : ℕ) → IsSetting s → u < s.nodes → i < arms_of s u → arm_group s u i ≢ arr_of s
arm_apart s u i is x l same = elim (cases_lt i (s.ins u)) [
  | inl low ↦ let at : arm_group s u i ≡ down_of (s.in_link u i) = arm_in s u i low in omega (arith, at, same, is.network.in_link_is_link u i x low)
  | inr high ↦ let at : arm_group s u i ≡ dep_of s u = rw (le-ltb i (s.ins u) high) refl in omega (arith, at, same, x)
]

not_of : (s : Setting) (u d : ℕ) → IsSetting s → u < s.nodes → (s.own u ≡ Some d → ⊥) → IsOf s u (arr_of s) d → ⊥
not_of s u d is x own (inl arm) = arm_apart s u arm.0 is x arm.1 arm.2
not_of s u d is x own (inr (inl out)) = omega (arith, out.2, is.network.out_link_is_link u out.0 x out.1)
not_of s u d is x own (inr (inr sink)) = own sink.1

same_some : (a b : ℕ) → Some a ≡ Some b → a ≡ b
same_some a b e = cc

sink_same : (s : Setting) (old new : Counts) (u k : ℕ) (o : Outputs) (d : ℕ) → SetsOutputs s old new u k o → d < s.destinations → (s.own u ≡ Some d → ⊥) → not (old (arr_of s) d k == new (arr_of s) d k) ≡ false
sink_same s old new u k o d sets l own =
    do_not_differ (old (arr_of s) d k) (new (arr_of s) d k) (sym (sets.others (arr_of s) d (omega arith) l (not_of s u d sets.setting sets.is_node own)))

sink_go : (s : Setting) (old new : Counts) (u k : ℕ) (o : Outputs) (own : Option ℕ) → SetsOutputs s old new u k o → s.own u ≡ own → arrived_after o ≡ arrived_by s new own k →
    sink_differs s old own k (arrived_after o) ≡ differs_at s old new (arr_of s) k
sink_go s old new u k o None sets is at =
    sym (none_below s.destinations (λ d. not (old (arr_of s) d k == new (arr_of s) d k)) (λ d l. sink_same s old new u k o d sets l (λ e. cc)))
sink_go s old new u k o (Some d) sets is at =
    let there : d < s.destinations = sets.setting.network.own_is_destination u d sets.is_node is in
    let here : not (old (arr_of s) d k == arrived_after o) ≡ not (old (arr_of s) d k == new (arr_of s) d k) = ap (λ (z : ℕ). not (old (arr_of s) d k == z)) at in
    here ∙ sym (only_below s.destinations (λ e. not (old (arr_of s) e k == new (arr_of s) e k)) d there (λ e l apart. sink_same s old new u k o e sets l (λ own. apart (same_some e d (sym own ∙ is)))))

pub sink_is : (s : Setting) (old new : Counts) (u k : ℕ) (o : Outputs) → SetsOutputs s old new u k o → sink_differs s old (s.own u) k (arrived_after o) ≡ differs_at s old new (arr_of s) k
sink_is s old new u k o sets = sink_go s old new u k o (s.own u) sets refl sets.holds.arrived

pub any_is : (s : Setting) (old new : Counts) (u k : ℕ) (o : Outputs) → SetsOutputs s old new u k o → any_differs s old u k o ≡ node_differs s old new u k
any_is s old new u k o sets =
    let arms : some_below (arms_of s u) (arm_differs s old u k o) ≡ some_below (arms_of s u) (λ i. differs_at s old new (arm_group s u i) k) =
    same_below (arms_of s u) (arm_differs s old u k o) (λ i. differs_at s old new (arm_group s u i) k) (λ i l. arm_is s old new u k o i sets l) in
    let outs : some_below (s.outs u) (out_differs s old u k o) ≡ some_below (s.outs u) (λ j. differs_at s old new (up_of (s.out_link u j)) k) =
    same_below (s.outs u) (out_differs s old u k o) (λ j. differs_at s old new (up_of (s.out_link u j)) k) (λ j l. out_is s old new u k o j sets l) in
    ap (λ z. z || (some_below (s.outs u) (out_differs s old u k o) || sink_differs s old (s.own u) k (arrived_after o))) arms
    ∙ (ap (λ z. some_below (arms_of s u) (λ i. differs_at s old new (arm_group s u i) k) || (z || sink_differs s old (s.own u) k (arrived_after o))) outs
    ∙ ap (λ z. some_below (arms_of s u) (λ i. differs_at s old new (arm_group s u i) k) || (some_below (s.outs u) (λ j. differs_at s old new (up_of (s.out_link u j)) k) || z)) (sink_is s old new u k o sets))

-- ---- the boundary before
last_same : (f h : ℕ → ℕ) (n last : ℕ) → ((j : ℕ) → j ≤ last → f j ≡ h j) → last_within f n last ≡ last_within h n last
last_same f h n zero same = refl
last_same f h n (suc last) same =
    ap (λ (z : ℕ). if nat_le z n then suc last else last_within f n last) (same (suc last) (omega arith))
    ∙ ap (λ (z : ℕ). if nat_le (h (suc last)) n then suc last else z) (last_same f h n last (λ j l. same j (omega arith)))

before_is : (s : Setting) (old new : Counts) (u k : ℕ) (o : Outputs) (j : ℕ) → SetsOutputs s old new u k o → j < s.outs u →
    last_before s old (s.out_link u j) k (sum_below s.destinations (entered_after o j)) ≡ position_before s new (s.out_link u j) k
before_is s old new u k o j sets l =
    let link : ℕ = s.out_link u j in
    let there : up_of link < groups s = omega (arith, sets.setting.network.out_link_is_link u j sets.is_node l) in
    ap (λ (z : ℕ). last_within (total s.destinations (old (up_of link))) z (k - 1)) (sum_below-same s.destinations (entered_after o j) (λ d. new (up_of link) d k) (λ d m. sets.holds.entered j d l m))
    ∙ last_same (total s.destinations (old (up_of link))) (total s.destinations (new (up_of link))) (total s.destinations (new (up_of link)) k) (k - 1)
    (λ i m. sum_below-same s.destinations (λ d. old (up_of link) d i) (λ d. new (up_of link) d i)
    (λ d x. sym (sets.later (up_of link) d i there x (omega (arith, sets.within, sets.some, m)) (omega (arith, sets.some, m)))))

-- ---- from the boundary on
-- the places of a pair are its positions
abbrev pub ArePlaced : Setting → Counts → (ℕ → ℕ → ℕ) → ℕ → ℕ → Type 0
ArePlaced s c places w v = (i : ℕ) → i < s.ins w → places (s.in_link w i) v ≡ position s c (s.in_link w i) v

tails_are : (s : Setting) (old new : Counts) (u k : ℕ) (o : Outputs) (w v : ℕ) → SetsOutputs s old new u k o → k ≤ v → wakes_tails s old u k o (s.ins u) w v ≡ reads_left s old new u k w v
tails_are s old new u k o w v sets late =
    same_below (s.ins u) (λ i. arm_differs s old u k o i && wakes_tail s (s.in_link u i) k w v)
    (λ i. differs_at s old new (down_of (s.in_link u i)) k && ((w == s.tail (s.in_link u i)) && reads_ago s.step (s.wave_time (s.in_link u i)) v k))
    (λ i l. ap (λ z. z && wakes_tail s (s.in_link u i) k w v) (arm_is s old new u k o i sets (omega arith) ∙ ap (λ (g : ℕ). differs_at s old new g k) (arm_in s u i l))
    ∙ ap (λ z. differs_at s old new (down_of (s.in_link u i)) k && (z && ((w == s.tail (s.in_link u i)) && reads_ago s.step (s.wave_time (s.in_link u i)) v k))) (le-leb k v late))

-- at the head of a link its place is the position
place_there : (s : Setting) (c : Counts) (places : ℕ → ℕ → ℕ) (w v l : ℕ) → IsSetting s → ArePlaced s c places w v → l < s.links → w ≡ s.head l → places l v ≡ position s c l v
place_there s c places w v l is placed there at =
    let place : s.in_place l < s.ins w = subst (λ (z : ℕ). s.in_place l < s.ins z) (sym at) (is.network.in_place_below l there) in
    let link : s.in_link w (s.in_place l) ≡ l = subst (λ (z : ℕ). s.in_link z (s.in_place l) ≡ l) (sym at) (is.network.in_link_at l there) in
    subst (λ (z : ℕ). places z v ≡ position s c z v) link (placed (s.in_place l) place)

join : (n h a b c d : Bool) → n ≡ true → (h ≡ true → b ≡ c) → ((n && (h && a)) || (n && (h && b))) ≡ (h && (a || c))
join n true a b c d e f = rw (e, f refl) refl
join n false a b c d e f = rw e refl

head_is : (s : Setting) (old new : Counts) (places : ℕ → ℕ → ℕ) (u k : ℕ) (o : Outputs) (w v j : ℕ) → SetsOutputs s old new u k o → k ≤ v → ArePlaced s old places w v → j < s.outs u →
    wakes_head s old places (s.out_link u j) k (sum_below s.destinations (entered_after o j)) w v
    ≡ ((w == s.head (s.out_link u j)) && (reads_ago s.step (s.free_time (s.out_link u j)) v k || reads_first s old new (s.out_link u j) v k))
head_is s old new places u k o w v j sets late placed l =
    let link : ℕ = s.out_link u j in
    let there : link < s.links = sets.setting.network.out_link_is_link u j sets.is_node l in
    join (nat_le k v) (w == s.head link) (reads_ago s.step (s.free_time link) v k) (is_between (last_before s old link k (sum_below s.destinations (entered_after o j))) k (places link v)) (reads_first s old new link v k) true
    (le-leb k v late)
    (λ at. ap (λ (z : ℕ). is_between z k (places link v)) (before_is s old new u k o j sets l)
    ∙ ap (λ (z : ℕ). is_between (position_before s new link k) k z) (place_there s old places w v link sets.setting placed there (eqb-true w (s.head link) at)))

heads_are : (s : Setting) (old new : Counts) (places : ℕ → ℕ → ℕ) (u k : ℕ) (o : Outputs) (w v : ℕ) → SetsOutputs s old new u k o → k ≤ v → ArePlaced s old places w v →
    wakes_heads s old places u k o (s.outs u) w v ≡ reads_entered s old new u k w v
heads_are s old new places u k o w v sets late placed =
    same_below (s.outs u) (λ j. out_differs s old u k o j && wakes_head s old places (s.out_link u j) k (sum_below s.destinations (entered_after o j)) w v)
    (λ j. differs_at s old new (up_of (s.out_link u j)) k && ((w == s.head (s.out_link u j)) && (reads_ago s.step (s.free_time (s.out_link u j)) v k || reads_first s old new (s.out_link u j) v k)))
    (λ j l. ap (λ z. z && wakes_head s old places (s.out_link u j) k (sum_below s.destinations (entered_after o j)) w v) (out_is s old new u k o j sets l)
    ∙ ap (λ z. differs_at s old new (up_of (s.out_link u j)) k && z) (head_is s old new places u k o w v j sets late placed l))

own_is : (s : Setting) (old new : Counts) (u k : ℕ) (o : Outputs) (w v : ℕ) → SetsOutputs s old new u k o → (any_differs s old u k o && is_pair u k w v) ≡ reads_own s old new u k w v
own_is s old new u k o w v sets = ap (λ z. z && is_pair u k w v) (any_is s old new u k o sets) ∙ turn (node_differs s old new u k) (w == u) (v == k)

regroup : (a b c x y z n : Bool) → n ≡ true → a ≡ x → b ≡ y → c ≡ z → ((a || b) || c) ≡ (n && (z || (x || y)))
regroup a b c x y z n e f g h = rw (e, f, g, h) (last_first x y z)

-- ---- before the boundary none wakes
early_tail : (s : Setting) (l k w v : ℕ) → v < k → wakes_tail s l k w v ≡ false
early_tail s l k w v low = rw (lt-leb k v low) refl

early_head : (s : Setting) (c : Counts) (places : ℕ → ℕ → ℕ) (l k x w v : ℕ) → v < k → wakes_head s c places l k x w v ≡ false
early_head s c places l k x w v low = rw (lt-leb k v low) refl

pub early : (s : Setting) (c : Counts) (places : ℕ → ℕ → ℕ) (u k : ℕ) (o : Outputs) (w v : ℕ) → v < k → wakes s c places u k o w v ≡ false
early s c places u k o w v low =
    let tails : wakes_tails s c u k o (s.ins u) w v ≡ false = none_below (s.ins u) (λ i. arm_differs s c u k o i && wakes_tail s (s.in_link u i) k w v)
    (λ i l. ap (λ z. arm_differs s c u k o i && z) (early_tail s (s.in_link u i) k w v low) ∙ and_false (arm_differs s c u k o i)) in
    let heads : wakes_heads s c places u k o (s.outs u) w v ≡ false =
    none_below (s.outs u) (λ j. out_differs s c u k o j && wakes_head s c places (s.out_link u j) k (sum_below s.destinations (entered_after o j)) w v)
    (λ j l. ap (λ z. out_differs s c u k o j && z) (early_head s c places (s.out_link u j) k (sum_below s.destinations (entered_after o j)) w v low) ∙ and_false (out_differs s c u k o j)) in
    let own : (any_differs s c u k o && is_pair u k w v) ≡ false =
    ap (λ z. any_differs s c u k o && ((w == u) && z)) (ne_eqb v k (λ e. omega arith)) ∙ (ap (λ z. any_differs s c u k o && z) (and_false (w == u)) ∙ and_false (any_differs s c u k o)) in
    rw (tails, heads, own) refl

pub early_reads : (s : Setting) (old new : Counts) (u k w v : ℕ) → v < k → reads_commit s old new u k w v ≡ false
early_reads s old new u k w v low = ap (λ z. z && (reads_own s old new u k w v || (reads_left s old new u k w v || reads_entered s old new u k w v))) (lt-leb k v low)

-- ---- both together
pub wakes_are_readers : (s : Setting) (old new : Counts) (places : ℕ → ℕ → ℕ) (u k : ℕ) (o : Outputs) (w v : ℕ) → SetsOutputs s old new u k o → ArePlaced s old places w v →
    wakes s old places u k o w v ≡ reads_commit s old new u k w v
wakes_are_readers s old new places u k o w v sets placed = elim (cases_lt v k) [
  | inl low ↦ early s old places u k o w v low ∙ sym (early_reads s old new u k w v low)
  | inr late ↦
      regroup (wakes_tails s old u k o (s.ins u) w v) (wakes_heads s old places u k o (s.outs u) w v) (any_differs s old u k o && is_pair u k w v)
      (reads_left s old new u k w v) (reads_entered s old new u k w v) (reads_own s old new u k w v) (nat_le k v) (le-leb k v late)
      (tails_are s old new u k o w v sets late) (heads_are s old new places u k o w v sets late placed) (own_is s old new u k o w v sets)
]
