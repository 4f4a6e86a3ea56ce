-- Two fronts of one setting are equal up to their slot, and so are two loadings.
use Rattle.std.proofs.Common.{◌≡◌, ℕ, zero, suc, ◌+◌, ◌*◌, ◌<◌, ◌≤◌, List, Option, slice_index, arith, inl, inr, ap, sym, ◌∙◌, subst}
use Rattle.std.proofs.lemmas.Bool.{cases_lt}
use Rattle.ltm_curve.specs.Counts.{Counts}
use Rattle.ltm_node.specs.Step.{IsNodeStep}
use Rattle.ltm_node.proofs.StepLaws.{one_step_holds}
use Rattle.ltm_loading.specs.Setting.{Setting, IsSetting}
use Rattle.ltm_loading.specs.Groups.{up_of}
use Rattle.ltm_loading.specs.Pairs.{arms_of, shape_at, arm_group, arrived_by, pair_row, pair_inputs, count_row, pair_outputs, MeetsStep}
use Rattle.ltm_loading.specs.Loading.{IsFront, OriginsWithoutOutsAreEmpty}
use Rattle.ltm_loading.specs.LoadingLaws.{OneFront, OneLoading}
use Rattle.ltm_loading.proofs.Rows.{next_counts}
use Rattle.ltm_loading.proofs.GroupKinds.{Kind, is_up, is_down, is_dep, is_arr, kind_of}
use Rattle.ltm_loading.proofs.Pairs.{link_group, origin_group}
use Rattle.ltm_loading.proofs.Front.{earlier_front}
use Rattle.ltm_loading.proofs.Same.{AgreeTo, pair_row_same}
use Rattle.ltm_loading.proofs.Bounds.{in_range_holds}

-- the counts that a pair sets agree too
next_same : (s : Setting) (a b : Counts) (u t : ℕ) → IsSetting s → IsFront s a t → AgreeTo s a b t → t < s.slots → u < s.nodes → MeetsStep s a u t → MeetsStep s b u t → count_row s a u (t + 1) ≡ count_row s b u (t + 1)
next_same s a b u t v f h y x one other =
    let rows : pair_row s b u t ≡ pair_row s a u t = sym (pair_row_same s a b u t v h x) in
    let moved_over : IsNodeStep (pair_inputs s a u t) (pair_outputs s b u (t + 1)) =
    subst (λ (row : List ℕ). IsNodeStep (record { shape = shape_at s u; row = row; room = 0 }) (pair_outputs s b u (t + 1))) rows other in
    one_step_holds (pair_inputs s a u t) (in_range_holds s a t u v f y x) (pair_outputs s a u (t + 1)) (pair_outputs s b u (t + 1)) one moved_over

pub arm_next_same : (s : Setting) (a b : Counts) (u t i d : ℕ) → count_row s a u (t + 1) ≡ count_row s b u (t + 1) → i < arms_of s u → d < s.destinations → a (arm_group s u i) d (t + 1) ≡ b (arm_group s u i) d (t + 1)
arm_next_same s a b u t i d same z m =
    sym ((next_counts s a u (t + 1)).left i d z m) ∙ (ap (λ (row : List ℕ). slice_index row (i * s.destinations + d)) same ∙ (next_counts s b u (t + 1)).left i d z m)

pub out_next_same : (s : Setting) (a b : Counts) (u t j d : ℕ) → count_row s a u (t + 1) ≡ count_row s b u (t + 1) → j < s.outs u → d < s.destinations → a (up_of (s.out_link u j)) d (t + 1) ≡ b (up_of (s.out_link u j)) d (t + 1)
out_next_same s a b u t j d same z m =
    sym ((next_counts s a u (t + 1)).entered j d z m)
    ∙ (ap (λ (row : List ℕ). slice_index row (arms_of s u * s.destinations + (j * s.destinations + d))) same ∙ (next_counts s b u (t + 1)).entered j d z m)

pub arrived_next_same : (s : Setting) (a b : Counts) (u t : ℕ) → count_row s a u (t + 1) ≡ count_row s b u (t + 1) → arrived_by s a (s.own u) (t + 1) ≡ arrived_by s b (s.own u) (t + 1)
arrived_next_same s a b u t same =
    sym ((next_counts s a u (t + 1)).arrived)
    ∙ (ap (λ (row : List ℕ). slice_index row (arms_of s u * s.destinations + s.outs u * s.destinations)) same ∙ (next_counts s b u (t + 1)).arrived)

-- two fronts up to one slot, which agree up to an earlier boundary
record AreFronts (s : Setting) (a b : Counts) (slot t : ℕ) : Type 0 where
  valid : IsSetting s
  within : slot ≤ s.slots
  before : t < slot
  front : IsFront s a slot
  sinks : OriginsWithoutOutsAreEmpty s a
  other_front : IsFront s b slot
  other_sinks : OriginsWithoutOutsAreEmpty s b
  agree : AgreeTo s a b t

-- each group at the next boundary is set by one pair
next_group : (s : Setting) (a b : Counts) (slot t g d : ℕ) → AreFronts s a b slot t → Kind s g → d < s.destinations → a g d (t + 1) ≡ b g d (t + 1)
next_group s a b slot t g d h kind m =
    let v : IsSetting s = h.valid in
    let f : IsFront s a t = earlier_front s a slot t h.front (omega (arith, h.before)) in
    let P : ℕ → Type 0 = λ z. a z d (t + 1) ≡ b z d (t + 1) in
    let same : (u : ℕ) → u < s.nodes → count_row s a u (t + 1) ≡ count_row s b u (t + 1) =
    λ u x. next_same s a b u t v f h.agree (omega (arith, h.before, h.within)) x (h.front.steps u t x h.before) (h.other_front.steps u t x h.before) in
    elim kind [
      | is_up l x e ↦
          subst P (ap up_of (v.network.out_link_at l x) ∙ e) (out_next_same s a b (s.tail l) t (s.out_place l) d (same (s.tail l) (v.network.tail_is_node l x)) (v.network.out_place_below l x) m)
      | is_down l x e ↦
          let i : s.in_place l < arms_of s (s.head l) = omega (arith, v.network.in_place_below l x) in
          subst P (link_group s l v.network x ∙ e) (arm_next_same s a b (s.head l) t (s.in_place l) d (same (s.head l) (v.network.head_is_node l x)) i m)
      | is_dep u x e ↦ elim (cases_lt 0 (s.outs u)) [
        | inl some ↦
            let i : s.ins u < arms_of s u = omega arith in subst P (origin_group s u ∙ e) (arm_next_same s a b u t (s.ins u) d (same u x) i m)
        | inr none ↦
            let late : t + 1 ≤ s.slots = omega (arith, h.before, h.within) in
            let closed : s.outs u ≡ 0 = omega arith in
            subst P e (h.sinks u d (t + 1) x closed m late ∙ sym (h.other_sinks u d (t + 1) x closed m late))
      ]
      | is_arr e ↦
          let all : arrived_by s a (s.own (s.place d)) (t + 1) ≡ arrived_by s b (s.own (s.place d)) (t + 1) = arrived_next_same s a b (s.place d) t (same (s.place d) (v.network.place_is_node d m)) in
          subst P e (subst (λ (o : Option ℕ). arrived_by s a o (t + 1) ≡ arrived_by s b o (t + 1)) (v.network.own_at d m) all)
    ]

agree_next : (s : Setting) (a b : Counts) (slot t : ℕ) → AreFronts s a b slot t → AgreeTo s a b (t + 1)
agree_next s a b slot t h = record {
  same = λ g d k x m l. elim (cases_lt t k) [
    | inl last ↦ let e : t + 1 ≡ k = omega arith in subst (λ (z : ℕ). a g d z ≡ b g d z) e (next_group s a b slot t g d h (kind_of s g x) m)
    | inr before ↦ h.agree.same g d k x m before
  ];
}

agree : (s : Setting) (a b : Counts) (slot t : ℕ) → IsSetting s → slot ≤ s.slots → IsFront s a slot → OriginsWithoutOutsAreEmpty s a → IsFront s b slot → OriginsWithoutOutsAreEmpty s b → t ≤ slot → AgreeTo s a b t
agree s a b slot zero v y f nf g ng l = record {
  same = λ h d k x m low. let e : 0 ≡ k = omega arith in subst (λ (z : ℕ). a h d z ≡ b h d z) e (f.empty h d x m ∙ sym (g.empty h d x m));
}
agree s a b slot (suc t) v y f nf g ng l =
    let e : t + 1 ≡ suc t = omega arith in
    let before : AgreeTo s a b t = agree s a b slot t v y f nf g ng (omega arith) in
    subst (λ (k : ℕ). AgreeTo s a b k) e (agree_next s a b slot t (record { valid = v; within = y; before = omega arith; front = f; sinks = nf; other_front = g; other_sinks = ng; agree = before }))

pub fronts_agree : (s : Setting) (a b : Counts) (slot : ℕ) → IsSetting s → slot ≤ s.slots → IsFront s a slot → OriginsWithoutOutsAreEmpty s a → IsFront s b slot → OriginsWithoutOutsAreEmpty s b → AgreeTo s a b slot
fronts_agree s a b slot v y f nf g ng = agree s a b slot slot v y f nf g ng (omega arith)

pub one_front_holds : OneFront
one_front_holds s a b slot v y f nf g ng h d k x m l = (fronts_agree s a b slot v y f nf g ng).same h d k x m l

pub one_loading_holds : OneLoading
one_loading_holds s a b v la lb g d k x m l = one_front_holds s a b s.slots v (omega arith) la.front la.no_origin lb.front lb.no_origin g d k x m l
