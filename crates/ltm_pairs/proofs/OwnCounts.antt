-- The counts that a bystander and its neighbours set are as they were.
use Rattle.std.proofs.Common.{◌≡◌, ◌≢◌, ℕ, ◌<◌, ◌≤◌, ◌⊎◌, ◌||◌, true, false, arith, inl, inr, refl, ap, sym, subst}
use Rattle.std.proofs.lemmas.Bool.{cases_eq, cases_Bool}
use Rattle.ltm_curve.specs.Counts.{Counts, total}
use Rattle.ltm_loading.specs.Setting.{Setting, IsSetting}
use Rattle.ltm_loading.specs.Groups.{up_of, down_of, dep_of, arr_of, groups}
use Rattle.ltm_loading.specs.Flows.{earlier}
use Rattle.ltm_loading.specs.Pairs.{arms_of, arm_group}
use Rattle.ltm_loading.specs.NextPair.{IsOf}
use Rattle.ltm_loading.proofs.Pairs.{link_group}
use Rattle.ltm_loading.proofs.Picks.{pick_first}
use Rattle.ltm_loading.proofs.Same.{total-same}
use Rattle.ltm_loading.proofs.Times.{earlier_same}
use Rattle.ltm_pairs.specs.Changes.{some_below, differs_at, node_differs, ChangesNode}
use Rattle.ltm_pairs.proofs.Bools.{or_no, none_below, same_at}
use Rattle.ltm_pairs.proofs.Bystanders.{IsBystander}

-- who sets the counts of a link
pub up_setter : (s : Setting) (l d : ℕ) → IsSetting s → l < s.links → IsOf s (s.tail l) (up_of l) d
up_setter s l d is x = inr (inl (s.out_place l, is.network.out_place_below l x, ap up_of (is.network.out_link_at l x)))

pub down_setter : (s : Setting) (l d : ℕ) → IsSetting s → l < s.links → IsOf s (s.head l) (down_of l) d
down_setter s l d is x = inl (s.in_place l, omega (arith, is.network.in_place_below l x), link_group s l is.network x)

-- a count that another node sets is as it was
not_own : (s : Setting) (old new : Counts) (u k w v n g d : ℕ) → IsBystander s old new u k w v → n < s.nodes → IsOf s n g d → d < s.destinations → n ≢ u → new g d k ≡ old g d k
not_own s old new u k w v n g d b y of m apart =
    b.change.others g d (b.setters.within s n g d b.setting y of) m (λ mine. apart (sym (b.setters.one s u n g d b.setting b.change.is_node y mine of)))

-- where a node sets nothing new, its counts are as they were
none_new : (s : Setting) (old new : Counts) (u k g d : ℕ) → node_differs s old new u k ≡ false → IsOf s u g d → d < s.destinations → new g d k ≡ old g d k
none_new s old new u k g d none of m =
    let arms = λ (i : ℕ). differs_at s old new (arm_group s u i) k in
    let outs = λ (j : ℕ). differs_at s old new (up_of (s.out_link u j)) k in
    let one = or_no (some_below (arms_of s u) arms) (some_below (s.outs u) outs || differs_at s old new (arr_of s) k) none in
    let two = or_no (some_below (s.outs u) outs) (differs_at s old new (arr_of s) k) one.1 in
    let P : ℕ → Type 0 = λ z. new z d k ≡ old z d k in
    elim of [
      | inl arm ↦ subst P arm.2 (sym (same_at s old new (arm_group s u arm.0) k d (none_below (arms_of s u) arms one.0 arm.0 arm.1) m))
      | inr other ↦ elim other [
        | inl out ↦ subst P out.2 (sym (same_at s old new (up_of (s.out_link u out.0)) k d (none_below (s.outs u) outs two.0 out.0 out.1) m))
        | inr come ↦ subst P come.0 (sym (same_at s old new (arr_of s) k d two.1 m))
      ]
    ]

-- what a bystander has itself set is as it was at its slot
pub own_same : (s : Setting) (old new : Counts) (u k w v g d : ℕ) → IsBystander s old new u k w v → IsOf s w g d → d < s.destinations → new g d v ≡ old g d v
own_same s old new u k w v g d b of m =
    elim (cases_eq v k) [
      | inr later ↦ b.change.later g d v (b.setters.within s w g d b.setting b.is_node of) m (let l : v < s.slots = b.is_slot in omega arith) later
      | inl now ↦
          let P : ℕ → Type 0 = λ z. new g d z ≡ old g d z in
          subst P (sym now) (elim (cases_eq w u) [
            | inr apart ↦ not_own s old new u k w v w g d b b.is_node of m apart
            | inl same ↦ none_new s old new u k g d (b.none.own same now) (subst (λ (z : ℕ). IsOf s z g d) same of) m
          ])
    ]

-- a group of one setter is as it was, or some count of it differs and its setter is the node
pub group_cases : (s : Setting) (old new : Counts) (u k w v n g : ℕ) → IsBystander s old new u k w v → n < s.nodes → ((d : ℕ) → IsOf s n g d) →
    ((d : ℕ) → d < s.destinations → new g d k ≡ old g d k) ⊎ ((differs_at s old new g k ≡ true) × (u ≡ n))
group_cases s old new u k w v n g b y of =
    elim (cases_eq n u) [
      | inr apart ↦ inl (λ d m. not_own s old new u k w v n g d b y (of d) m apart)
      | inl same ↦ elim (cases_Bool (differs_at s old new g k)) [
        | inr none ↦ inl (λ d m. sym (same_at s old new g k d none m))
        | inl some ↦ inr (some, sym same)
      ]
    ]

-- a group that is as it was at the boundary is as it was at all
pub all_same : (s : Setting) (old new : Counts) (u k g : ℕ) → ChangesNode s u k old new → g < groups s → ((d : ℕ) → d < s.destinations → new g d k ≡ old g d k) →
    (d j : ℕ) → d < s.destinations → j ≤ s.slots → new g d j ≡ old g d j
all_same s old new u k g change x here d j m l =
    elim (cases_eq j k) [
      | inl at ↦ let P : ℕ → Type 0 = λ z. new g d z ≡ old g d z in subst P (sym at) (here d m)
      | inr apart ↦ change.later g d j x m l apart
    ]

-- so is its total some time ago
pub ago_all : (s : Setting) (old new : Counts) (g v time : ℕ) → IsSetting s → s.step ≤ time → ((d j : ℕ) → d < s.destinations → j ≤ v → new g d j ≡ old g d j) →
    earlier (total s.destinations (new g)) s.step v time ≡ earlier (total s.destinations (old g)) s.step v time
ago_all s old new g v time is slow same =
    earlier_same (total s.destinations (new g)) (total s.destinations (old g)) s.step v time is.some_step slow (λ j low. total-same s.destinations (new g) (old g) j (λ d m. same d j m low))

-- what has left an in-link, has left the origin and has entered an out-link of a bystander
pub down_now : (s : Setting) (old new : Counts) (u k w v i d : ℕ) → IsBystander s old new u k w v → i < s.ins w → d < s.destinations → new (down_of (s.in_link w i)) d v ≡ old (down_of (s.in_link w i)) d v
down_now s old new u k w v i d b x m = own_same s old new u k w v (down_of (s.in_link w i)) d b (inl (i, omega (arith, x), pick_first i (s.ins w) (down_of (s.in_link w i)) (dep_of s w) x)) m

pub up_now : (s : Setting) (old new : Counts) (u k w v j d : ℕ) → IsBystander s old new u k w v → j < s.outs w → d < s.destinations → new (up_of (s.out_link w j)) d v ≡ old (up_of (s.out_link w j)) d v
up_now s old new u k w v j d b x m = own_same s old new u k w v (up_of (s.out_link w j)) d b (inr (inl (j, x, refl))) m
