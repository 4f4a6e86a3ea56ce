-- The groups of a node, one after another.
use Rattle.std.proofs.Common.{◌≡◌, ◌≢◌, ℕ, ◌+◌, ◌-◌, ◌*◌, ◌<◌, ◌≤◌, List, length, slice_index, arith, refl, inl, inr, ap, sym, ◌∙◌}
use Rattle.std.specs.Prelude.{◌⊎◌, Some}
use Rattle.std.proofs.Math.Nat.{add-mul}
use Rattle.std.proofs.lemmas.Bool.{cases_lt}
use Rattle.ltm_curve.specs.Counts.{Counts}
use Rattle.ltm_node.specs.Shape.{counts_width}
use Rattle.ltm_loading.specs.Setting.{Setting, IsSetting}
use Rattle.ltm_loading.specs.Groups.{up_of, down_of, dep_of, arr_of}
use Rattle.ltm_loading.specs.Pairs.{arms_of, arm_group, shape_at, count_row}
use Rattle.ltm_loading.specs.NextPair.{IsOf}
use Rattle.ltm_loading.specs.NodeGroups.{group_count, node_group, IsRowOf, GroupsByRow, GroupsAreSet}
use Rattle.ltm_loading.specs.Uncounted.{outputs_at}
use Rattle.ltm_loading.proofs.Picks.{pick_first, pick_second}
use Rattle.ltm_loading.proofs.Rows.{next_counts}
use Rattle.ltm_loading.proofs.SameRows.{counts_by_place_holds}

-- the groups of the arms, and behind them those of the out-links
pub at_arm : (s : Setting) (u i : ℕ) → i < arms_of s u → node_group s u i ≡ arm_group s u i
at_arm s u i l = pick_first i (arms_of s u) (arm_group s u i) (up_of (s.out_link u (i - arms_of s u))) l

pub at_out : (s : Setting) (u i j : ℕ) → i ≡ arms_of s u + j → node_group s u i ≡ up_of (s.out_link u j)
at_out s u i j e =
    let place : i - arms_of s u ≡ j = omega arith in
    pick_second i (arms_of s u) (arm_group s u i) (up_of (s.out_link u (i - arms_of s u))) (omega arith) ∙ ap (λ (z : ℕ). up_of (s.out_link u z)) place

-- where they stand in the row
out_place : (a i j m d : ℕ) → i ≡ a + j → i * m + d ≡ a * m + (j * m + d)
out_place a i j m d e = let all : i * m ≡ a * m + j * m = ap (λ (z : ℕ). z * m) e ∙ add-mul a j m in omega arith

row_groups : (s : Setting) (c : Counts) (u k : ℕ) → IsRowOf s c u k (count_row s c u k)
row_groups s c u k =
    let h = next_counts s c u k in
    record {
      groups = λ i d l m. elim (cases_lt i (arms_of s u)) [
        | inl arm ↦ h.left i d arm m ∙ ap (λ (g : ℕ). c g d k) (sym (at_arm s u i arm))
        | inr out ↦
            let j : ℕ = i - arms_of s u in
            let at : i ≡ arms_of s u + j = omega arith in
            ap (λ (z : ℕ). slice_index (count_row s c u k) z) (out_place (arms_of s u) i j s.destinations d at)
            ∙ (h.entered j d (omega arith) m ∙ ap (λ (g : ℕ). c g d k) (sym (at_out s u i j at)))
      ];
      arrived = ap (λ (z : ℕ). slice_index (count_row s c u k) z) (add-mul (arms_of s u) (s.outs u) s.destinations) ∙ h.arrived;
    }

row_is : (s : Setting) (c : Counts) (u k : ℕ) (row : List ℕ) → length row ≡ counts_width (shape_at s u) → IsRowOf s c u k row → count_row s c u k ≡ row
row_is s c u k row long h =
    (counts_by_place_holds s c u k).1 (outputs_at s u row) refl long (record {
      left = λ i d l m. h.groups i d (omega arith) m ∙ ap (λ (g : ℕ). c g d k) (at_arm s u i l);
      entered = λ j d l m.
          ap (λ (z : ℕ). slice_index row z) (sym (out_place (arms_of s u) (arms_of s u + j) j s.destinations d refl))
          ∙ (h.groups (arms_of s u + j) d (omega arith) m ∙ ap (λ (g : ℕ). c g d k) (at_out s u (arms_of s u + j) j refl));
      arrived = ap (λ (z : ℕ). slice_index row z) (sym (add-mul (arms_of s u) (s.outs u) s.destinations)) ∙ h.arrived;
    })

pub groups_by_row_holds : GroupsByRow
groups_by_row_holds s c u k = (row_groups s c u k, λ row long h. row_is s c u k row long h)

-- the group of an in-link, and of the origin
pub arm_link : (s : Setting) (u i : ℕ) → i < s.ins u → arm_group s u i ≡ down_of (s.in_link u i)
arm_link s u i l = pick_first i (s.ins u) (down_of (s.in_link u i)) (dep_of s u) l

pub arm_origin : (s : Setting) (u i : ℕ) → s.ins u ≤ i → arm_group s u i ≡ dep_of s u
arm_origin s u i l = pick_second i (s.ins u) (down_of (s.in_link u i)) (dep_of s u) l

pub at_link : (s : Setting) (u i : ℕ) → i < s.ins u → node_group s u i ≡ down_of (s.in_link u i)
at_link s u i l = at_arm s u i (omega arith) ∙ arm_link s u i l

pub at_origin : (s : Setting) (u i : ℕ) → i ≡ s.ins u → 0 < s.outs u → node_group s u i ≡ dep_of s u
at_origin s u i e some = at_arm s u i (omega arith) ∙ arm_origin s u i (omega arith)

arm_there : (s : Setting) (u i : ℕ) → IsSetting s → u < s.nodes → i < arms_of s u → arm_group s u i < arr_of s
arm_there s u i v x l =
    elim (cases_lt i (s.ins u)) [
      | inl link ↦ omega (arith, arm_link s u i link, v.network.in_link_is_link u i x link)
      | inr origin ↦ omega (arith, arm_origin s u i origin)
    ]

there : (s : Setting) (u i : ℕ) → IsSetting s → u < s.nodes → i < group_count s u → node_group s u i < arr_of s
there s u i v x l =
    elim (cases_lt i (arms_of s u)) [
      | inl arm ↦ omega (arith, at_arm s u i arm, arm_there s u i v x arm)
      | inr out ↦
          let j : ℕ = i - arms_of s u in omega (arith, at_out s u i j (omega arith), v.network.out_link_is_link u j x (omega arith))
    ]

arm_apart : (s : Setting) (u i j : ℕ) → IsSetting s → u < s.nodes → i < j → j < arms_of s u → arm_group s u i ≢ arm_group s u j
arm_apart s u i j v x l m e =
    elim (cases_lt j (s.ins u)) [
      | inl link ↦
          let i_in : i < s.ins u = omega arith in
          let same : s.in_link u i ≡ s.in_link u j = omega (arith, e, arm_link s u i i_in, arm_link s u j link) in
          omega (arith, v.network.in_place_of u i x i_in, v.network.in_place_of u j x link, ap s.in_place same)
      | inr origin ↦
          let i_in : i < s.ins u = omega arith in omega (arith, e, arm_link s u i i_in, arm_origin s u j origin, v.network.in_link_is_link u i x i_in)
    ]

out_apart : (s : Setting) (u i j : ℕ) → IsSetting s → u < s.nodes → i < j → j < s.outs u → up_of (s.out_link u i) ≢ up_of (s.out_link u j)
out_apart s u i j v x l m e =
    let same : s.out_link u i ≡ s.out_link u j = omega (arith, e) in
    omega (arith, v.network.out_place_of u i x (omega arith), v.network.out_place_of u j x m, ap s.out_place same)

arm_not_out : (s : Setting) (u i j : ℕ) → IsSetting s → u < s.nodes → j < s.outs u → arm_group s u i ≢ up_of (s.out_link u j)
arm_not_out s u i j v x m e =
    elim (cases_lt i (s.ins u)) [
      | inl link ↦ omega (arith, e, arm_link s u i link)
      | inr origin ↦ omega (arith, e, arm_origin s u i origin, v.network.out_link_is_link u j x m)
    ]

once : (s : Setting) (u i j : ℕ) → IsSetting s → u < s.nodes → i < j → j < group_count s u → node_group s u i ≢ node_group s u j
once s u i j v x l m e =
    elim (cases_lt j (arms_of s u)) [
      | inl arm ↦ arm_apart s u i j v x l arm (sym (at_arm s u i (omega arith)) ∙ (e ∙ at_arm s u j arm))
      | inr out ↦
          let b : ℕ = j - arms_of s u in
          let last : node_group s u j ≡ up_of (s.out_link u b) = at_out s u j b (omega arith) in
          elim (cases_lt i (arms_of s u)) [
            | inl arm ↦ arm_not_out s u i b v x (omega arith) (sym (at_arm s u i arm) ∙ (e ∙ last))
            | inr both ↦
                let a : ℕ = i - arms_of s u in out_apart s u a b v x (omega arith) (omega arith) (sym (at_out s u i a (omega arith)) ∙ (e ∙ last))
          ]
    ]

set : (s : Setting) (u i d : ℕ) → i < group_count s u → IsOf s u (node_group s u i) d
set s u i d l =
    elim (cases_lt i (arms_of s u)) [
      | inl arm ↦ inl (i, arm, sym (at_arm s u i arm))
      | inr out ↦ let j : ℕ = i - arms_of s u in inr (inl (j, omega arith, sym (at_out s u i j (omega arith))))
    ]

all : (s : Setting) (u g d : ℕ) → IsOf s u g d → ((i : ℕ) × (i < group_count s u) × (node_group s u i ≡ g)) ⊎ ((arr_of s ≡ g) × (s.own u ≡ Some d))
all s u g d of =
    elim of [
      | inl arm ↦ inl (arm.0, omega (arith, arm.1), at_arm s u arm.0 arm.1 ∙ arm.2)
      | inr other ↦ elim other [
        | inl out ↦ inl (arms_of s u + out.0, omega (arith, out.1), at_out s u (arms_of s u + out.0) out.0 refl ∙ out.2)
        | inr come ↦ inr come
      ]
    ]

pub groups_are_set_holds : GroupsAreSet
groups_are_set_holds = record { there = there; once = once; set = set; all = all }
