-- Each count is set by the pairs of one node.
use Rattle.std.proofs.Common.{◌≡◌, ◌≢◌, ℕ, ◌+◌, ◌-◌, ◌*◌, ◌/◌, ◌%◌, ◌<◌, ◌≤◌, List, Option, Some, None, cond, nat_eq, nat_lt, arith, inl, inr, refl, ap, sym, ◌∙◌, subst}
use Rattle.std.proofs.Math.Logic.{∥∥₁_map}
use Rattle.std.proofs.lemmas.Bool.{cases_lt}
use Rattle.std.proofs.lemmas.Bool.Decides.{nat_tests}
use Rattle.ltm_curve.specs.Counts.{Counts}
use Rattle.ltm_curve.specs.First.{list_below}
use Rattle.ltm_node.specs.declared.shape.NodeShape.{NodeShape}
use Rattle.ltm_node.specs.Inputs.{Inputs}
use Rattle.ltm_node.specs.Outputs.{Outputs}
use Rattle.ltm_node.specs.Step.{StepShares, IsNodeStep}
use Rattle.ltm_loading.specs.Setting.{Setting, IsSetting}
use Rattle.ltm_loading.specs.Groups.{up_of, down_of, dep_of, arr_of, groups}
use Rattle.ltm_loading.specs.Pairs.{arms_of, arm_group, arrived_by, grid, shape_at, pair_row, pair_inputs, count_row, pair_outputs, MeetsStep}
use Rattle.ltm_loading.specs.NextPair.{IsOf, NextPair, NextSlot}
use Rattle.ltm_loading.specs.Reads.{CountsSetOnly}
use Rattle.ltm_loading.proofs.Picks.{pick_first, pick_second}
use Rattle.ltm_loading.proofs.Same.{list_below-same, grid-same, AgreeTo, pair_row_same, arm_is_group}

-- the node whose pairs set a count
abbrev pub setter : Setting → ℕ → ℕ → ℕ
setter s g d = cond (nat_lt g (2 * s.links)) (cond (nat_eq (g % 2) 0) (s.tail (g / 2)) (s.head (g / 2))) (cond (nat_lt g (2 * s.links + s.nodes)) (g - 2 * s.links) (s.place d))

pick_even : (k x y : ℕ) → k ≡ 0 → cond (nat_eq k 0) x y ≡ x
pick_even k x y h = grind (arith, nat_tests)

pick_odd : (k x y : ℕ) → k ≢ 0 → cond (nat_eq k 0) x y ≡ y
pick_odd k x y h = grind (arith, nat_tests)

setter_up : (s : Setting) (l d : ℕ) → l < s.links → setter s (up_of l) d ≡ s.tail l
setter_up s l d x =
    let half : 2 * l / 2 ≡ l = omega arith in
    let even : 2 * l % 2 ≡ 0 = omega arith in
    pick_first (2 * l) (2 * s.links) (cond (nat_eq (2 * l % 2) 0) (s.tail (2 * l / 2)) (s.head (2 * l / 2))) (cond (nat_lt (2 * l) (2 * s.links + s.nodes)) (2 * l - 2 * s.links) (s.place d)) (omega arith)
    ∙ (pick_even (2 * l % 2) (s.tail (2 * l / 2)) (s.head (2 * l / 2)) even ∙ ap s.tail half)

setter_down : (s : Setting) (l d : ℕ) → l < s.links → setter s (down_of l) d ≡ s.head l
setter_down s l d x =
    let half : (2 * l + 1) / 2 ≡ l = omega arith in
    let odd : (2 * l + 1) % 2 ≢ 0 = omega arith in
    pick_first (2 * l + 1) (2 * s.links) (cond (nat_eq ((2 * l + 1) % 2) 0) (s.tail ((2 * l + 1) / 2)) (s.head ((2 * l + 1) / 2)))
    (cond (nat_lt (2 * l + 1) (2 * s.links + s.nodes)) (2 * l + 1 - 2 * s.links) (s.place d)) (omega arith)
    ∙ (pick_odd ((2 * l + 1) % 2) (s.tail ((2 * l + 1) / 2)) (s.head ((2 * l + 1) / 2)) odd ∙ ap s.head half)

setter_dep : (s : Setting) (u d : ℕ) → u < s.nodes → setter s (dep_of s u) d ≡ u
setter_dep s u d x =
    let back : 2 * s.links + u - 2 * s.links ≡ u = omega arith in
    pick_second (dep_of s u) (2 * s.links) (cond (nat_eq (dep_of s u % 2) 0) (s.tail (dep_of s u / 2)) (s.head (dep_of s u / 2))) (cond (nat_lt (dep_of s u) (2 * s.links + s.nodes)) (dep_of s u - 2 * s.links) (s.place d)) (omega arith)
    ∙ (pick_first (dep_of s u) (2 * s.links + s.nodes) (dep_of s u - 2 * s.links) (s.place d) (omega arith) ∙ back)

setter_arr : (s : Setting) (d : ℕ) → setter s (arr_of s) d ≡ s.place d
setter_arr s d =
    pick_second (arr_of s) (2 * s.links) (cond (nat_eq (arr_of s % 2) 0) (s.tail (arr_of s / 2)) (s.head (arr_of s / 2))) (cond (nat_lt (arr_of s) (2 * s.links + s.nodes)) (arr_of s - 2 * s.links) (s.place d)) (omega arith)
    ∙ pick_second (arr_of s) (2 * s.links + s.nodes) (arr_of s - 2 * s.links) (s.place d) (omega arith)

pub set_by : (s : Setting) (u g d : ℕ) → IsSetting s → u < s.nodes → IsOf s u g d → setter s g d ≡ u
set_by s u g d v x of =
    let P : ℕ → Type 0 = λ z. setter s z d ≡ u in
    elim of [
      | inl arm ↦ subst P arm.2 (elim (cases_lt arm.0 (s.ins u)) [
        | inl link ↦
            let e : arm_group s u arm.0 ≡ down_of (s.in_link u arm.0) = pick_first arm.0 (s.ins u) (down_of (s.in_link u arm.0)) (dep_of s u) link in
            subst P (sym e) (setter_down s (s.in_link u arm.0) d (v.network.in_link_is_link u arm.0 x link) ∙ v.network.in_link_ends u arm.0 x link)
        | inr origin ↦
            let e : arm_group s u arm.0 ≡ dep_of s u = pick_second arm.0 (s.ins u) (down_of (s.in_link u arm.0)) (dep_of s u) origin in subst P (sym e) (setter_dep s u d x)
      ])
      | inr other ↦ elim other [
        | inl out ↦ subst P out.2 (setter_up s (s.out_link u out.0) d (v.network.out_link_is_link u out.0 x out.1) ∙ v.network.out_link_starts u out.0 x out.1)
        | inr come ↦ subst P come.0 (setter_arr s d ∙ v.network.own_place u d x come.1)
      ]
    ]

-- counts that agree where the pair sets them
arrived_of : (s : Setting) (a b : Counts) (u k : ℕ) (o : Option ℕ) → s.own u ≡ o → ((g d : ℕ) → IsOf s u g d → d < s.destinations → a g d k ≡ b g d k) → ((d : ℕ) → o ≡ Some d → d < s.destinations) → arrived_by s a o k ≡ arrived_by s b o k
arrived_of s a b u k None e h x = refl
arrived_of s a b u k (Some d) e h x = h (arr_of s) d (inr (inr (refl, e))) (x d refl)

pub counts_set_only_holds : CountsSetOnly
counts_set_only_holds s a b u k v x h =
    let e1 : grid (arms_of s u) s.destinations (λ i d. a (arm_group s u i) d k) ≡ grid (arms_of s u) s.destinations (λ i d. b (arm_group s u i) d k) =
    grid-same (arms_of s u) s.destinations (λ i d. a (arm_group s u i) d k) (λ i d. b (arm_group s u i) d k) (λ i d y z. h (arm_group s u i) d (inl (i, y, refl)) z) in
    let e2 : grid (s.outs u) s.destinations (λ j d. a (up_of (s.out_link u j)) d k) ≡ grid (s.outs u) s.destinations (λ j d. b (up_of (s.out_link u j)) d k) =
    grid-same (s.outs u) s.destinations (λ j d. a (up_of (s.out_link u j)) d k) (λ j d. b (up_of (s.out_link u j)) d k) (λ j d y z. h (up_of (s.out_link u j)) d (inr (inl (j, y, refl))) z) in
    let e3 : list_below 1 (λ i. arrived_by s a (s.own u) k) ≡ list_below 1 (λ i. arrived_by s b (s.own u) k) =
    list_below-same 1 (λ i. arrived_by s a (s.own u) k) (λ i. arrived_by s b (s.own u) k) (λ i y. arrived_of s a b u k (s.own u) refl h (λ d o. v.network.own_is_destination u d x o)) in cc

pub of_group : (s : Setting) (u g d : ℕ) → IsSetting s → u < s.nodes → IsOf s u g d → g < groups s
of_group s u g d v x of =
    let P : ℕ → Type 0 = λ z. z < groups s in
    elim of [
      | inl arm ↦ subst P arm.2 (arm_is_group s u arm.0 v x)
      | inr other ↦ elim other [
        | inl out ↦ subst P out.2 (omega (arith, v.network.out_link_is_link u out.0 x out.1))
        | inr come ↦ subst P come.0 (omega arith)
      ]
    ]

pub meets_same : (s : Setting) (a b : Counts) (u t : ℕ) → IsSetting s → u < s.nodes → AgreeTo s a b t → count_row s a u (t + 1) ≡ count_row s b u (t + 1) → MeetsStep s a u t → MeetsStep s b u t
meets_same s a b u t v x h next step =
    let once : IsNodeStep (pair_inputs s b u t) (pair_outputs s a u (t + 1)) =
    subst (λ (row : List ℕ). IsNodeStep (record { shape = shape_at s u; row = row; room = 0 }) (pair_outputs s a u (t + 1))) (pair_row_same s a b u t v h x) step in
    subst (λ (row : List ℕ). IsNodeStep (pair_inputs s b u t) (record { shape = shape_at s u; row = row; room = 0 })) next once

-- for how many numbers there is room plays no part
step_rooms : (a b : NodeShape) (r q : List ℕ) (k k' j j' : ℕ) →
    (let n : Inputs = record { shape = a; row = r; room = k } in let o : Outputs = record { shape = b; row = q; room = j } in StepShares n o) →
    (let n : Inputs = record { shape = a; row = r; room = k' } in let o : Outputs = record { shape = b; row = q; room = j' } in StepShares n o)
step_rooms a b r q k k' j j' x = record {
  denominator = x.denominator;
  numerators = x.numerators;
  shares = x.shares;
  moves = record { shape = x.moves.shape; width = x.moves.width; left = x.moves.left; entered = x.moves.entered; arrived = x.moves.arrived };
}

-- nor does by which names a shape and rows go
pub same_step : (n : Inputs) (o : Outputs) (a : NodeShape) (r q : List ℕ) → n.shape ≡ a → n.row ≡ r → o.row ≡ q → IsNodeStep n o →
    (let m : Inputs = record { shape = a; row = r; room = 0 } in let p : Outputs = record { shape = a; row = q; room = 0 } in IsNodeStep m p)
same_step n o a r q e f g step =
    ∥∥₁_map step (λ (x : StepShares n o).
    let one : StepShares (record { shape = n.shape; row = n.row; room = 0 }) (record { shape = o.shape; row = o.row; room = 0 }) = step_rooms n.shape o.shape n.row o.row n.room 0 o.room 0 x in
    let two : StepShares (record { shape = n.shape; row = n.row; room = 0 }) (record { shape = n.shape; row = o.row; room = 0 }) =
    subst (λ (z : NodeShape). StepShares (record { shape = n.shape; row = n.row; room = 0 }) (record { shape = z; row = o.row; room = 0 })) x.moves.shape one in
    let three : StepShares (record { shape = a; row = n.row; room = 0 }) (record { shape = a; row = o.row; room = 0 }) =
    subst (λ (z : NodeShape). StepShares (record { shape = z; row = n.row; room = 0 }) (record { shape = z; row = o.row; room = 0 })) e two in
    let four : StepShares (record { shape = a; row = r; room = 0 }) (record { shape = a; row = o.row; room = 0 }) =
    subst (λ (z : List ℕ). StepShares (record { shape = a; row = z; room = 0 }) (record { shape = a; row = o.row; room = 0 })) f three in
    subst (λ (z : List ℕ). StepShares (record { shape = a; row = r; room = 0 }) (record { shape = a; row = z; room = 0 })) g four)

pub next_pair_holds : NextPair
next_pair_holds s old new t u n o v y x front reads step applies =
    let before : (k : ℕ) → k ≤ t → AgreeTo s old new k = λ k z. record { same = λ g d j w m l. sym (applies.later g d j w m (omega arith) (omega arith)) } in
    let earlier : (w k : ℕ) → w < s.nodes → k < t → count_row s old w (k + 1) ≡ count_row s new w (k + 1) =
    λ w k z l. counts_set_only_holds s old new w (k + 1) v z (λ g d of m. sym (applies.later g d (k + 1) (of_group s w g d v z of) m (omega arith) (omega arith))) in
    let beside : (w : ℕ) → w < u → count_row s old w (t + 1) ≡ count_row s new w (t + 1) =
    λ w z.
    let node : w < s.nodes = omega arith in
    counts_set_only_holds s old new w (t + 1) v node
    (λ g d of m. sym (applies.others g d (of_group s w g d v node of) m
    (λ mine. let a : setter s g d ≡ w = set_by s w g d v node of in let b : setter s g d ≡ u = set_by s u g d v x mine in omega arith))) in
    let rows : pair_row s old u t ≡ pair_row s new u t = pair_row_same s old new u t v (before t (omega arith)) x in
    let mine : MeetsStep s new u t = same_step n o (shape_at s u) (pair_row s new u t) (count_row s new u (t + 1)) reads.shape (reads.row ∙ rows) (sym applies.given) step in
    record {
      front = record {
        empty = λ g d w m. applies.later g d 0 w m (omega arith) (omega arith) ∙ front.front.empty g d w m;
        steps = λ w k z l. meets_same s old new w k v z (before k (omega arith)) (earlier w k z l) (front.front.steps w k z l);
      };
      done = λ w z. elim (cases_lt w u) [
        | inl first ↦ meets_same s old new w t v (omega arith) (before t (omega arith)) (beside w first) (front.done w first)
        | inr last ↦ let e : u ≡ w = omega arith in subst (λ (z : ℕ). MeetsStep s new z t) e mine
      ];
    }

pub next_slot_holds : NextSlot
next_slot_holds s c t f = record {
  empty = f.front.empty;
  steps = λ u k x l. elim (cases_lt k t) [ inl before ↦ f.front.steps u k x before | inr now ↦ let e : t ≡ k = omega arith in subst (λ (z : ℕ). MeetsStep s c u z) e (f.done u x) ];
}
