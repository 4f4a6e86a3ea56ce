-- The counts at the next boundary, from the node step of each node.
use Rattle.std.proofs.Common.{◌≡◌, ℕ, ◌+◌, ◌<◌, ◌≤◌, ◌⊎◌, Option, Some, None, cond, nat_lt, arith, inl, inr, refl, ap, sym, subst, ◌∙◌}
use Rattle.std.proofs.lemmas.Bool.{cases_lt}
use Rattle.ltm_curve.specs.Counts.{Counts}
use Rattle.ltm_node.specs.Outputs.{Outputs, left_after, entered_after, arrived_after}
use Rattle.ltm_node.specs.Step.{IsNodeStep}
use Rattle.ltm_node.proofs.Stays.{same_shape_holds, no_arrivals_holds}
use Rattle.ltm_loading.specs.Setting.{Setting, IsSetting}
use Rattle.ltm_loading.specs.Groups.{up_of, down_of, dep_of, arr_of, groups}
use Rattle.ltm_loading.specs.Pairs.{arms_of, arm_group, arrived_by, pair_inputs, count_row}
use Rattle.ltm_loading.specs.ByPlace.{HoldsCounts}
use Rattle.ltm_loading.proofs.Picks.{pick_first, pick_second}
use Rattle.ltm_loading.proofs.GroupKinds.{Kind, is_up, is_down, is_dep, is_arr, kind_of}
use Rattle.ltm_loading.proofs.Rows.{pair_parts}
use Rattle.ltm_loading.proofs.SameRows.{counts_by_place_holds}

-- what the outputs of the nodes hold of a group
abbrev by_kind : (s : Setting) (o : ℕ → Outputs) (g d : ℕ) → Kind s g → ℕ
by_kind s o g d (is_up l x e) = entered_after (o (s.tail l)) (s.out_place l) d
by_kind s o g d (is_down l x e) = left_after (o (s.head l)) (s.in_place l) d
by_kind s o g d (is_dep u x e) = cond (nat_lt 0 (s.outs u)) (left_after (o u) (s.ins u) d) 0
by_kind s o g d (is_arr e) = arrived_after (o (s.place d))

up_kind : (s : Setting) (o : ℕ → Outputs) (l d : ℕ) → l < s.links → (kind : Kind s (up_of l)) → by_kind s o (up_of l) d kind ≡ entered_after (o (s.tail l)) (s.out_place l) d
up_kind s o l d x (is_up k y e) = let same : k ≡ l = omega (arith, e) in ap (λ (z : ℕ). entered_after (o (s.tail z)) (s.out_place z) d) same
up_kind s o l d x (is_down k y e) = absurd (omega (arith, e))
up_kind s o l d x (is_dep u y e) = absurd (omega (arith, e))
up_kind s o l d x (is_arr e) = absurd (omega (arith, e))

down_kind : (s : Setting) (o : ℕ → Outputs) (l d : ℕ) → l < s.links → (kind : Kind s (down_of l)) → by_kind s o (down_of l) d kind ≡ left_after (o (s.head l)) (s.in_place l) d
down_kind s o l d x (is_up k y e) = absurd (omega (arith, e))
down_kind s o l d x (is_down k y e) = let same : k ≡ l = omega (arith, e) in ap (λ (z : ℕ). left_after (o (s.head z)) (s.in_place z) d) same
down_kind s o l d x (is_dep u y e) = absurd (omega (arith, e))
down_kind s o l d x (is_arr e) = absurd (omega (arith, e))

dep_kind : (s : Setting) (o : ℕ → Outputs) (u d : ℕ) → u < s.nodes → (kind : Kind s (dep_of s u)) → by_kind s o (dep_of s u) d kind ≡ cond (nat_lt 0 (s.outs u)) (left_after (o u) (s.ins u) d) 0
dep_kind s o u d x (is_up k y e) = absurd (omega (arith, e))
dep_kind s o u d x (is_down k y e) = absurd (omega (arith, e))
dep_kind s o u d x (is_dep v y e) = let same : v ≡ u = omega (arith, e) in ap (λ (z : ℕ). cond (nat_lt 0 (s.outs z)) (left_after (o z) (s.ins z) d) 0) same
dep_kind s o u d x (is_arr e) = absurd (omega (arith, e))

arr_kind : (s : Setting) (o : ℕ → Outputs) (d : ℕ) (kind : Kind s (arr_of s)) → by_kind s o (arr_of s) d kind ≡ arrived_after (o (s.place d))
arr_kind s o d (is_up k y e) = absurd (omega (arith, e))
arr_kind s o d (is_down k y e) = absurd (omega (arith, e))
arr_kind s o d (is_dep v y e) = absurd (omega (arith, e))
arr_kind s o d (is_arr e) = refl

-- the same where it is not known that it is a group
abbrev by_group : (s : Setting) (o : ℕ → Outputs) (g d : ℕ) → (g < groups s) ⊎ (groups s ≤ g) → ℕ
by_group s o g d (inl x) = by_kind s o g d (kind_of s g x)
by_group s o g d (inr none) = 0

up_group : (s : Setting) (o : ℕ → Outputs) (l d : ℕ) → l < s.links → (h : (up_of l < groups s) ⊎ (groups s ≤ up_of l)) → by_group s o (up_of l) d h ≡ entered_after (o (s.tail l)) (s.out_place l) d
up_group s o l d x (inl h) = up_kind s o l d x (kind_of s (up_of l) h)
up_group s o l d x (inr none) = absurd (omega arith)

down_group : (s : Setting) (o : ℕ → Outputs) (l d : ℕ) → l < s.links → (h : (down_of l < groups s) ⊎ (groups s ≤ down_of l)) → by_group s o (down_of l) d h ≡ left_after (o (s.head l)) (s.in_place l) d
down_group s o l d x (inl h) = down_kind s o l d x (kind_of s (down_of l) h)
down_group s o l d x (inr none) = absurd (omega arith)

dep_group : (s : Setting) (o : ℕ → Outputs) (u d : ℕ) → u < s.nodes → (h : (dep_of s u < groups s) ⊎ (groups s ≤ dep_of s u)) → by_group s o (dep_of s u) d h ≡ cond (nat_lt 0 (s.outs u)) (left_after (o u) (s.ins u) d) 0
dep_group s o u d x (inl h) = dep_kind s o u d x (kind_of s (dep_of s u) h)
dep_group s o u d x (inr none) = absurd (omega arith)

arr_group : (s : Setting) (o : ℕ → Outputs) (d : ℕ) (h : (arr_of s < groups s) ⊎ (groups s ≤ arr_of s)) → by_group s o (arr_of s) d h ≡ arrived_after (o (s.place d))
arr_group s o d (inl h) = arr_kind s o d (kind_of s (arr_of s) h)
arr_group s o d (inr none) = absurd (omega arith)

-- the counts up to a slot, and past it what the outputs of the nodes hold
abbrev pub next_counts : Setting → Counts → ℕ → (ℕ → Outputs) → Counts
next_counts s c t o g d k = cond (nat_lt t k) (by_group s o g d (cases_lt g (groups s))) (c g d k)

pub next_before : (s : Setting) (c : Counts) (t : ℕ) (o : ℕ → Outputs) (g d k : ℕ) → k ≤ t → next_counts s c t o g d k ≡ c g d k
next_before s c t o g d k l = pick_second t k (by_group s o g d (cases_lt g (groups s))) (c g d k) l

next_later : (s : Setting) (c : Counts) (t : ℕ) (o : ℕ → Outputs) (g d k : ℕ) → t < k → next_counts s c t o g d k ≡ by_group s o g d (cases_lt g (groups s))
next_later s c t o g d k l = pick_first t k (by_group s o g d (cases_lt g (groups s))) (c g d k) l

-- nothing leaves the origin of a node without out-links
pub next_origin : (s : Setting) (c : Counts) (t : ℕ) (o : ℕ → Outputs) (u d k : ℕ) → u < s.nodes → s.outs u ≡ 0 → c (dep_of s u) d k ≡ 0 → next_counts s c t o (dep_of s u) d k ≡ 0
next_origin s c t o u d k x closed none = elim (cases_lt t k) [
  | inl later ↦
      next_later s c t o (dep_of s u) d k later
      ∙ (dep_group s o u d x (cases_lt (dep_of s u) (groups s)) ∙ pick_second 0 (s.outs u) (left_after (o u) (s.ins u) d) 0 (omega (arith, closed)))
  | inr before ↦ next_before s c t o (dep_of s u) d k before ∙ none
]

-- ---- what the counts hold of a node past the slot

left_held : (s : Setting) (c : Counts) (t : ℕ) (o : ℕ → Outputs) (u i d : ℕ) → IsSetting s → u < s.nodes → i < arms_of s u → left_after (o u) i d ≡ next_counts s c t o (arm_group s u i) d (t + 1)
left_held s c t o u i d v x y =
    let P : ℕ → Type 0 = λ g. left_after (o u) i d ≡ next_counts s c t o g d (t + 1) in
    elim (cases_lt i (s.ins u)) [
      | inl link ↦
          let l : ℕ = s.in_link u i in
          let is : l < s.links = v.network.in_link_is_link u i x link in
          let node : s.head l ≡ u = v.network.in_link_ends u i x link in
          let place : s.in_place l ≡ i = v.network.in_place_of u i x link in
          let held : next_counts s c t o (down_of l) d (t + 1) ≡ left_after (o (s.head l)) (s.in_place l) d =
          next_later s c t o (down_of l) d (t + 1) (omega arith) ∙ down_group s o l d is (cases_lt (down_of l) (groups s)) in
          let here : left_after (o (s.head l)) (s.in_place l) d ≡ left_after (o u) i d =
          ap (λ (z : ℕ). left_after (o z) (s.in_place l) d) node ∙ ap (λ (z : ℕ). left_after (o u) z d) place in
          subst P (sym (pick_first i (s.ins u) (down_of l) (dep_of s u) link)) (sym (held ∙ here))
      | inr origin ↦
          let some : 0 < s.outs u = omega arith in
          let last : s.ins u ≡ i = omega arith in
          let held : next_counts s c t o (dep_of s u) d (t + 1) ≡ left_after (o u) (s.ins u) d =
          next_later s c t o (dep_of s u) d (t + 1) (omega arith)
          ∙ (dep_group s o u d x (cases_lt (dep_of s u) (groups s)) ∙ pick_first 0 (s.outs u) (left_after (o u) (s.ins u) d) 0 some) in
          subst P (sym (pick_second i (s.ins u) (down_of (s.in_link u i)) (dep_of s u) origin)) (sym (held ∙ ap (λ (z : ℕ). left_after (o u) z d) last))
    ]

entered_held : (s : Setting) (c : Counts) (t : ℕ) (o : ℕ → Outputs) (u j d : ℕ) → IsSetting s → u < s.nodes → j < s.outs u → entered_after (o u) j d ≡ next_counts s c t o (up_of (s.out_link u j)) d (t + 1)
entered_held s c t o u j d v x y =
    let l : ℕ = s.out_link u j in
    let is : l < s.links = v.network.out_link_is_link u j x y in
    let node : s.tail l ≡ u = v.network.out_link_starts u j x y in
    let place : s.out_place l ≡ j = v.network.out_place_of u j x y in
    let held : next_counts s c t o (up_of l) d (t + 1) ≡ entered_after (o (s.tail l)) (s.out_place l) d =
    next_later s c t o (up_of l) d (t + 1) (omega arith) ∙ up_group s o l d is (cases_lt (up_of l) (groups s)) in
    let here : entered_after (o (s.tail l)) (s.out_place l) d ≡ entered_after (o u) j d =
    ap (λ (z : ℕ). entered_after (o z) (s.out_place l) d) node ∙ ap (λ (z : ℕ). entered_after (o u) z d) place in
    sym (held ∙ here)

arrived_held : (s : Setting) (c : Counts) (t : ℕ) (o : ℕ → Outputs) (u : ℕ) (own : Option ℕ) → s.own u ≡ own → IsSetting s → u < s.nodes → IsNodeStep (pair_inputs s c u t) (o u) →
    arrived_after (o u) ≡ arrived_by s (next_counts s c t o) own (t + 1)
arrived_held s c t o u None is v x step =
    no_arrivals_holds (pair_inputs s c u t) (o u) step is ∙ ((pair_parts s c u t).arrived ∙ ap (λ (z : Option ℕ). arrived_by s c z t) is)
arrived_held s c t o u (Some d) is v x step =
    let node : s.place d ≡ u = v.network.own_place u d x is in
    sym (next_later s c t o (arr_of s) d (t + 1) (omega arith) ∙ (arr_group s o d (cases_lt (arr_of s) (groups s)) ∙ ap (λ (z : ℕ). arrived_after (o z)) node))

-- the counts of a node past the slot are its outputs
pub next_row : (s : Setting) (c : Counts) (t : ℕ) (o : ℕ → Outputs) (u : ℕ) → IsSetting s → u < s.nodes → IsNodeStep (pair_inputs s c u t) (o u) → count_row s (next_counts s c t o) u (t + 1) ≡ (o u).row
next_row s c t o u v x step =
    let shape = same_shape_holds (pair_inputs s c u t) (o u) step in
    let held : HoldsCounts s (next_counts s c t o) u (t + 1) (o u) = record {
      left = λ i d y m. left_held s c t o u i d v x y;
      entered = λ j d y m. entered_held s c t o u j d v x y;
      arrived = arrived_held s c t o u (s.own u) refl v x step;
    } in
    (counts_by_place_holds s (next_counts s c t o) u (t + 1)).1 (o u) shape.0 shape.1 held
