-- What is on no list never enters.
use Rattle.std.proofs.Common.{◌≡◌, ◌≢◌, ℕ, zero, suc, ◌+◌, ◌<◌, ◌≤◌, Bool, true, false, cond, List, Option, Some, None, slice_index, arith, refl, sym, ap, subst, ◌∙◌, inl, inr, eq-eqb}
use Rattle.std.proofs.Math.Logic.{∥∥₁_elim}
use Rattle.std.proofs.Math.Bridge.{le_prop}
use Rattle.std.proofs.lemmas.Bool.{cases_lt, cases_eq, false≢true}
use Rattle.ltm_units.specs.Nested.{nested_split}
use Rattle.ltm_units.proofs.Sums.{sum_below-zero}
use Rattle.ltm_curve.specs.Counts.{Counts}
use Rattle.ltm_curve.proofs.Lists.{part_at}
use Rattle.ltm_node.specs.Shape.{is_this, is_own}
use Rattle.ltm_node.specs.Inputs.{Inputs, sending as node_sending, weights, entered}
use Rattle.ltm_node.specs.Outputs.{Outputs, entered_after}
use Rattle.ltm_node.specs.Demands.{part}
use Rattle.ltm_node.specs.Step.{StepShares, IsNodeStep, moved}
use Rattle.ltm_node.proofs.Moved.{bool_cases, moved_none, moved_own, moved_nothing}
use Rattle.ltm_node.proofs.Splitting.{split_without}
use Rattle.ltm_loading.specs.Setting.{Setting, IsSetting}
use Rattle.ltm_loading.specs.Groups.{up_of}
use Rattle.ltm_loading.specs.Flows.{link_sending, origin_sending}
use Rattle.ltm_loading.specs.Loading.{IsFront}
use Rattle.ltm_loading.specs.Pairs.{arms_of, sending, pair_inputs, pair_outputs}
use Rattle.ltm_loading.proofs.Picks.{pick_first, pick_second}
use Rattle.ltm_loading.proofs.Rows.{pair_parts, next_counts}
use Rattle.ltm_loading.proofs.Front.{earlier_front, up_is_group}
use Rattle.ltm_loading.proofs.AddsUp.{left_has_entered_holds}
use Rattle.ltm_standing.specs.Listed.{NotIn}
use Rattle.ltm_thin.proofs.Sending.{sends_entered, sends_produced}
use Rattle.ltm_used.specs.Closed.{IsIn, Leads, AreClosed, NothingElse}

own_is : (o : ℕ) → is_this (Some o) o ≡ true
own_is o = eq-eqb o o refl

some_same : (o d : ℕ) → Some o ≡ Some d → o ≡ d
some_same o d e = ap (λ (x : Option ℕ). elim x [ Some y ↦ y | None ↦ 0 ]) e

-- a node is not a destination where the test says no
not_own : (o : Option ℕ) (d : ℕ) → is_this o d ≡ false → o ≢ Some d
not_own None d h = λ e. cc
not_own (Some o) d h = λ e. elim (cases_eq o d) [
  | inl same ↦ false≢true (sym h ∙ (ap (λ (z : ℕ). is_this (Some o) z) (sym same) ∙ own_is o))
  | inr other ↦ other (some_same o d e)
]

-- where an out-link has no weight for a destination, an arm sends none of it there
without_weight : (n : Inputs) (i d j : ℕ) → j < n.shape.outs → slice_index (weights n d) j ≡ 0 → part n i d j ≡ 0
without_weight n i d j l none =
    elim (bool_cases (is_own n.shape d)) [
      | inl own ↦ ap (λ (b : Bool). cond b 0 (slice_index (nested_split (node_sending n i d) (weights n d)) j)) own
      | inr other ↦ ap (λ (b : Bool). cond b 0 (slice_index (nested_split (node_sending n i d) (weights n d)) j)) other ∙ split_without (weights n d) (node_sending n i d) j none
    ]

-- the counts of a node step do not rise where no arm moves anything there
nothing_comes : (n : Inputs) (o : Outputs) (j d : ℕ) → IsNodeStep n o → j < n.shape.outs → d < n.shape.destinations → ((e : ℕ) (p : ℕ → ℕ) (i : ℕ) → i < n.shape.arms → moved n e p i d j ≡ 0) → entered_after o j d ≤ entered n j d
nothing_comes n o j d step l m none =
    ∥∥₁_elim step le_prop (λ (x : StepShares n o). omega (arith, x.moves.entered j d l m, sum_below-zero n.shape.arms (λ i. moved n x.denominator x.numerators i d j) (none x.denominator x.numerators)))

-- one slot on
next_outside : (s : Setting) (c : Counts) (lists : ℕ → List ℕ) (t l d : ℕ) → IsSetting s → IsFront s c (t + 1) → t < s.slots → AreClosed s lists → l < s.links → d < s.destinations → NotIn (lists l) d
    → ((k : ℕ) → k < s.links → NotIn (lists k) d → c (up_of k) d t ≡ 0) → c (up_of l) d (t + 1) ≡ 0
next_outside s c lists t l d v f y closed x m out before =
    let u : ℕ = s.tail l in
    let j : ℕ = s.out_place l in
    let node : s.tail l < s.nodes = v.network.tail_is_node l x in
    let place : s.out_place l < s.outs (s.tail l) = v.network.out_place_below l x in
    let at : s.out_link (s.tail l) (s.out_place l) ≡ l = v.network.out_link_at l x in
    let front : IsFront s c t = earlier_front s c (t + 1) t f (omega arith) in
    let n : Inputs = pair_inputs s c (s.tail l) t in
    let weighs : slice_index (weights (pair_inputs s c (s.tail l) t) d) (s.out_place l) ≡ s.weight (s.tail l) d t (s.out_place l) =
    part_at (pair_inputs s c (s.tail l) t).row _ (s.outs (s.tail l)) (s.out_place l) place ∙ (pair_parts s c (s.tail l) t).weight d (s.out_place l) m place in
    let outside : NotIn (lists (s.out_link (s.tail l) (s.out_place l))) d = subst (λ (z : ℕ). NotIn (lists z) d) (sym at) out in
    let silent : (i : ℕ) → i < arms_of s (s.tail l) → Leads s (s.tail l) d (s.out_place l) → sending s c (s.tail l) t i d ≡ 0 =
    λ i a leads. elim (cases_lt i (s.ins (s.tail l))) [
      | inl link ↦
          let k : ℕ = s.in_link (s.tail l) i in
          let is_link : s.in_link (s.tail l) i < s.links = v.network.in_link_is_link (s.tail l) i node link in
          let head : s.head (s.in_link (s.tail l) i) ≡ s.tail l = v.network.in_link_ends (s.tail l) i node link in
          let not_there : NotIn (lists (s.in_link (s.tail l) i)) d =
          λ q b e.
          let on : IsIn (lists (s.out_link (s.head (s.in_link (s.tail l) i)) (s.out_place l))) d =
          closed.onward (s.in_link (s.tail l) i) d (s.out_place l) is_link m (subst (λ (z : ℕ). s.out_place l < s.outs z) (sym head) place) (q, (b, e)) (subst (λ (z : ℕ). Leads s z d (s.out_place l)) (sym head) leads) in
          let here : IsIn (lists (s.out_link (s.tail l) (s.out_place l))) d = subst (λ (z : ℕ). IsIn (lists (s.out_link z (s.out_place l))) d) head on in
          outside here.0 here.1.0 here.1.1 in
          pick_first i (s.ins (s.tail l)) (link_sending s c (s.in_link (s.tail l) i) t d) (origin_sending s c (s.tail l) t d) link
          ∙ sends_entered s c (s.in_link (s.tail l) i) t d v front is_link m (before (s.in_link (s.tail l) i) is_link not_there)
      | inr origin ↦
          pick_second i (s.ins (s.tail l)) (link_sending s c (s.in_link (s.tail l) i) t d) (origin_sending s c (s.tail l) t d) origin
          ∙ elim (cases_lt 0 (s.produced (s.tail l) d s.slots)) [
            | inl some ↦ let here : IsIn (lists (s.out_link (s.tail l) (s.out_place l))) d = closed.origins (s.tail l) d (s.out_place l) node m place some leads in absurd (outside here.0 here.1.0 here.1.1)
            | inr none ↦ sends_produced s c (s.tail l) t d v y node m (omega arith)
          ]
    ] in
    let still : (e : ℕ) (p : ℕ → ℕ) (i : ℕ) → i < arms_of s (s.tail l) → moved (pair_inputs s c (s.tail l) t) e p i d (s.out_place l) ≡ 0 =
    λ e p i a. elim (bool_cases (is_this (s.own (s.tail l)) d)) [
      | inl own ↦ moved_own (pair_inputs s c (s.tail l) t) e p i d (s.out_place l) own
      | inr other ↦ elim (cases_lt 0 (s.weight (s.tail l) d t (s.out_place l))) [
        | inl some ↦
            let leads : Leads s (s.tail l) d (s.out_place l) = record { slot = t; in_time = y; weight = some; passes = not_own (s.own (s.tail l)) d other } in
            moved_nothing (pair_inputs s c (s.tail l) t) e p i d (s.out_place l) ((pair_parts s c (s.tail l) t).sending i d a m ∙ silent i a leads)
        | inr none ↦ moved_none (pair_inputs s c (s.tail l) t) e p i d (s.out_place l) (without_weight (pair_inputs s c (s.tail l) t) i d (s.out_place l) place (omega (arith, weighs)))
      ]
    ] in
    let new : entered_after (pair_outputs s c (s.tail l) (t + 1)) (s.out_place l) d ≡ c (up_of l) d (t + 1) = (next_counts s c (s.tail l) (t + 1)).entered (s.out_place l) d place m ∙ ap (λ (z : ℕ). c (up_of z) d (t + 1)) at in
    let old : entered (pair_inputs s c (s.tail l) t) (s.out_place l) d ≡ c (up_of l) d t = (pair_parts s c (s.tail l) t).entered (s.out_place l) d place m ∙ ap (λ (z : ℕ). c (up_of z) d t) at in
    omega (
      arith,
      new,
      old,
      before l x out,
      nothing_comes (pair_inputs s c (s.tail l) t) (pair_outputs s c (s.tail l) (t + 1)) (s.out_place l) d (f.steps (s.tail l) t node (omega arith)) place m still,
    )

pub outside_is_empty : (s : Setting) (c : Counts) (lists : ℕ → List ℕ) (t : ℕ) → IsSetting s → IsFront s c t → t ≤ s.slots → AreClosed s lists → (l d : ℕ) → l < s.links → d < s.destinations → NotIn (lists l) d → c (up_of l) d t ≡ 0
outside_is_empty s c lists zero v f y closed l d x m out = f.empty (up_of l) d (up_is_group s l x) m
outside_is_empty s c lists (suc t) v f y closed l d x m out =
    let e : t + 1 ≡ suc t = omega arith in
    let front : IsFront s c (t + 1) = earlier_front s c (suc t) (t + 1) f (omega arith) in
    let now : IsFront s c t = earlier_front s c (suc t) t f (omega arith) in
    subst (λ (k : ℕ). c (up_of l) d k ≡ 0) e (next_outside s c lists t l d v front (omega arith) closed x m out (λ k z o. outside_is_empty s c lists t v now (omega arith) closed k d z m o))

pub nothing_else_holds : NothingElse
nothing_else_holds s c lists v load closed l d k x m y out =
    let up : c (up_of l) d k ≡ 0 = outside_is_empty s c lists k v (earlier_front s c s.slots k load.front y) y closed l d x m out in
    (up, omega (arith, up, left_has_entered_holds s c v load l d k x m y))
