-- What a bystander reads of its in-links and out-links is as it was.
use Rattle.std.proofs.Common.{◌≡◌, ◌≢◌, ℕ, ◌-◌, ◌<◌, ◌≤◌, ◌⊎◌, ◌&&◌, nat_le, true, false, arith, inl, inr, ap, sym, ◌∙◌, subst}
use Rattle.std.proofs.lemmas.Bool.{cases_lt, le-leb}
use Rattle.ltm_units.proofs.Sums.{sum_below-zero}
use Rattle.ltm_curve.specs.Counts.{Counts, total}
use Rattle.ltm_curve.proofs.Lasts.{IsLast, is_last}
use Rattle.ltm_loading.specs.Setting.{Setting}
use Rattle.ltm_loading.specs.Groups.{up_of, down_of, groups}
use Rattle.ltm_loading.specs.Flows.{position, earlier, link_goal, receiving}
use Rattle.ltm_loading.proofs.Same.{total-same}
use Rattle.ltm_pairs.specs.Windows.{reads_ago}
use Rattle.ltm_pairs.specs.Changes.{differs_at, ChangesNode}
use Rattle.ltm_pairs.specs.Readers.{position_before, reads_first}
use Rattle.ltm_pairs.proofs.Bools.{and_no}
use Rattle.ltm_pairs.proofs.Positions.{ago_same}
use Rattle.ltm_pairs.proofs.Bystanders.{IsBystander}
use Rattle.ltm_pairs.proofs.OwnCounts.{up_setter, down_setter, group_cases, all_same, ago_all, down_now, up_now}

-- ---- what an out-link can take
pub supply_same : (s : Setting) (old new : Counts) (u k w v j : ℕ) → IsBystander s old new u k w v → j < s.outs w → receiving s new (s.out_link w j) v ≡ receiving s old (s.out_link w j) v
supply_same s old new u k w v j b x =
    let is = b.setting in
    let low : v < s.slots = b.is_slot in
    let link : ℕ = s.out_link w j in
    let there : link < s.links = is.network.out_link_is_link w j b.is_node x in
    let starts : s.tail link ≡ w = is.network.out_link_starts w j b.is_node x in
    let entered : total s.destinations (new (up_of link)) v ≡ total s.destinations (old (up_of link)) v =
    total-same s.destinations (new (up_of link)) (old (up_of link)) v (λ d m. up_now s old new u k w v j d b x m) in
    let down : ℕ → ℕ = total s.destinations (new (down_of link)) in
    let was : ℕ → ℕ = total s.destinations (old (down_of link)) in
    let ago : earlier down s.step v (s.wave_time link) ≡ earlier was s.step v (s.wave_time link) =
    elim (group_cases s old new u k w v (s.head link) (down_of link) b (is.network.head_is_node link there) (λ d. down_setter s link d is there)) [
      | inl here ↦ ago_all s old new (down_of link) v (s.wave_time link) is (is.wave_time link there) (λ d i m l. all_same s old new u k (down_of link) b.change (omega (arith, there)) here d i m (omega arith))
      | inr some ↦
          let at : s.in_link u (s.in_place link) ≡ link = subst (λ (z : ℕ). s.in_link z (s.in_place link) ≡ link) (sym some.1) (is.network.in_link_at link there) in
          let place : s.in_place link < s.ins u = subst (λ (z : ℕ). s.in_place link < s.ins z) (sym some.1) (is.network.in_place_below link there) in
          let window : reads_ago s.step (s.wave_time link) v k ≡ false =
          subst (λ (z : ℕ). reads_ago s.step (s.wave_time z) v k ≡ false) at
          (b.none.tail (s.in_place link) place (subst (λ (z : ℕ). differs_at s old new (down_of z) k ≡ true) (sym at) some.0) (sym starts ∙ ap s.tail (sym at))) in
          ago_same down was s.step (s.wave_time link) v k is.some_step b.change.some b.late (is.wave_time link there)
          (λ i l apart. total-same s.destinations (new (down_of link)) (old (down_of link)) i (λ d m. b.change.later (down_of link) d i (omega (arith, there)) m (omega arith) apart)) window
    ] in
    omega (arith, entered, ago)

-- ---- how much may have left an in-link, and where that ends
starts_empty : (s : Setting) (old new : Counts) (u k g : ℕ) → ChangesNode s u k old new → g < groups s → total s.destinations (old g) 0 ≡ 0
starts_empty s old new u k g change x = sum_below-zero s.destinations (λ d. old g d 0) (λ d m. change.empty g d x m)

apart_from : (a p k : ℕ) → nat_le a p && nat_le p k ≡ false → (p < a) ⊎ (k < p)
apart_from a p k h =
    elim (cases_lt p a) [
      | inl low ↦ inl low
      | inr high ↦ elim (cases_lt k p) [
        | inl past ↦ inr past
        | inr near ↦ let e : nat_le p k ≡ false = and_no (nat_le a p) (nat_le p k) h (le-leb a p high) in let f : nat_le p k ≡ true = le-leb p k near in absurd (cc)
      ]
    ]

pub goal_from : (s : Setting) (old new : Counts) (l v : ℕ) → earlier (total s.destinations (new (up_of l))) s.step v (s.free_time l) ≡ earlier (total s.destinations (old (up_of l))) s.step v (s.free_time l) →
    total s.destinations (new (down_of l)) v ≡ total s.destinations (old (down_of l)) v → link_goal s new l v ≡ link_goal s old l v
goal_from s old new l v ago down = omega (ago, down, arith)

-- an in-link of which the change moved nothing
pub record IsStill (s : Setting) (old new : Counts) (l v : ℕ) : Type 0 where
  pub goal : link_goal s new l v ≡ link_goal s old l v
  pub same : (e j : ℕ) → e < s.destinations → j ≤ v → new (up_of l) e j ≡ old (up_of l) e j

-- one of which something that entered it changed, where the window does not read the change and the position is apart
pub record IsApart (s : Setting) (old new : Counts) (k l v : ℕ) : Type 0 where
  pub goal : link_goal s new l v ≡ link_goal s old l v
  pub before : ℕ
  pub early : before < k
  pub least : total s.destinations (old (up_of l)) before ≤ total s.destinations (new (up_of l)) k
  pub empty : total s.destinations (old (up_of l)) 0 ≡ 0
  pub same : (e j : ℕ) → e < s.destinations → j ≤ v → j ≢ k → new (up_of l) e j ≡ old (up_of l) e j
  pub apart : (position s old l v < before) ⊎ (k < position s old l v)

is_apart : (s : Setting) (old new : Counts) (u k w v l : ℕ) → IsBystander s old new u k w v → l < s.links → total s.destinations (new (down_of l)) v ≡ total s.destinations (old (down_of l)) v →
    reads_ago s.step (s.free_time l) v k ≡ false → reads_first s old new l v k ≡ false → IsApart s old new k l v
is_apart s old new u k w v l b there down window first =
    let high : k ≤ v = b.late in
    let low : v < s.slots = b.is_slot in
    let group : up_of l < groups s = omega (there, arith) in
    let before : ℕ = position_before s new l k in
    let up_new : ℕ → ℕ = total s.destinations (new (up_of l)) in
    let up_old : ℕ → ℕ = total s.destinations (old (up_of l)) in
    let same : (e j : ℕ) → e < s.destinations → j ≤ v → j ≢ k → new (up_of l) e j ≡ old (up_of l) e j = λ e j n x apart. b.change.later (up_of l) e j group n (omega arith) apart in
    let totals : (j : ℕ) → j ≤ v → j ≢ k → up_new j ≡ up_old j = λ j x apart. total-same s.destinations (new (up_of l)) (old (up_of l)) j (λ e n. same e j n x apart) in
    let some : 0 < k = b.change.some in
    let empty : up_old 0 ≡ 0 = starts_empty s old new u k (up_of l) b.change group in
    let start : up_new 0 ≡ up_old 0 = totals 0 (omega arith) (omega arith) in
    let last : IsLast up_new (up_new k) (k - 1) before = is_last up_new (up_new k) (k - 1) (omega (start, empty, arith)) in
    let early : before < k = omega (last.below, some, arith) in
    let e : up_new before ≡ up_old before = totals before (omega (early, high, arith)) (omega (early, arith)) in
    record {
      goal = goal_from s old new l v (ago_same up_new up_old s.step (s.free_time l) v k b.setting.some_step some high (b.setting.free_time l there) totals window) down;
      before = before;
      early = early;
      least = omega (e, last.within, arith);
      empty = empty;
      same = same;
      apart = apart_from before (position s old l v) k first;
    }

pub link_cases : (s : Setting) (old new : Counts) (u k w v i : ℕ) → IsBystander s old new u k w v → i < s.ins w → IsStill s old new (s.in_link w i) v ⊎ IsApart s old new k (s.in_link w i) v
link_cases s old new u k w v i b x =
    let is = b.setting in
    let low : v < s.slots = b.is_slot in
    let link : ℕ = s.in_link w i in
    let there : link < s.links = is.network.in_link_is_link w i b.is_node x in
    let ends : s.head link ≡ w = is.network.in_link_ends w i b.is_node x in
    let down : total s.destinations (new (down_of link)) v ≡ total s.destinations (old (down_of link)) v =
    total-same s.destinations (new (down_of link)) (old (down_of link)) v (λ e n. down_now s old new u k w v i e b x n) in
    elim (group_cases s old new u k w v (s.tail link) (up_of link) b (is.network.tail_is_node link there) (λ e. up_setter s link e is there)) [
      | inl here ↦
          let same : (e j : ℕ) → e < s.destinations → j ≤ v → new (up_of link) e j ≡ old (up_of link) e j = λ e j n l. all_same s old new u k (up_of link) b.change (omega (there, arith)) here e j n (omega arith) in
          inl (record { goal = goal_from s old new link v (ago_all s old new (up_of link) v (s.free_time link) is (is.free_time link there) same) down; same = same })
      | inr some ↦
          let place : ℕ = s.out_place link in
          let at : s.out_link u place ≡ link = subst (λ (z : ℕ). s.out_link z place ≡ link) (sym some.1) (is.network.out_link_at link there) in
          let below : place < s.outs u = subst (λ (z : ℕ). place < s.outs z) (sym some.1) (is.network.out_place_below link there) in
          let differs : differs_at s old new (up_of (s.out_link u place)) k ≡ true = subst (λ (z : ℕ). differs_at s old new (up_of z) k ≡ true) (sym at) some.0 in
          let head : w ≡ s.head (s.out_link u place) = sym ends ∙ ap s.head (sym at) in
          inr (is_apart s old new u k w v link b there down
          (subst (λ (z : ℕ). reads_ago s.step (s.free_time z) v k ≡ false) at (b.none.ago place below differs head))
          (subst (λ (z : ℕ). reads_first s old new z v k ≡ false) at (b.none.first place below differs head)))
    ]
