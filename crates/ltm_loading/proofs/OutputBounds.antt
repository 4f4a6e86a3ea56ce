-- The numbers of a pair's node step are small.
use Rattle.std.proofs.Common.{◌≡◌, ℕ, ◌+◌, ◌-◌, ◌*◌, ◌<◌, ◌≤◌, List, length, slice_index, arith, inl, inr, refl, subst}
use Rattle.std.proofs.Math.Logic.{∥∥₁_elim}
use Rattle.std.proofs.Math.Bridge.{le_prop}
use Rattle.std.proofs.Math.Nat.{mul-le-mul_right}
use Rattle.std.proofs.lemmas.Bool.{cases_lt}
use Rattle.std.proofs.lemmas.List.{get_or_past}
use Rattle.ltm_units.proofs.Sums.{sum_below-swap, sum_below-most, le-sum_below}
use Rattle.ltm_curve.specs.Counts.{Counts}
use Rattle.ltm_node.specs.Inputs.{sending as node_sending, left, entered, supply}
use Rattle.ltm_node.specs.Outputs.{Outputs, left_after, entered_after, arrived_after}
use Rattle.ltm_node.specs.Demands.{sent}
use Rattle.ltm_node.specs.Step.{StepShares, IsNodeStep}
use Rattle.ltm_node.proofs.StepLaws.{supply_kept_holds, sending_kept_holds}
use Rattle.ltm_loading.specs.Setting.{Setting, IsSetting}
use Rattle.ltm_loading.specs.Pairs.{arms_of, shape_at, pair_row, pair_inputs}
use Rattle.ltm_loading.specs.Loading.{IsFront}
use Rattle.ltm_loading.specs.Ranges.{OutputsSmall}
use Rattle.ltm_loading.proofs.Rows.{pair_parts}
use Rattle.ltm_loading.proofs.Pairs.{entered_grows}
use Rattle.ltm_loading.proofs.SameRows.{IsPlace, place_of}
use Rattle.ltm_loading.proofs.Setters.{same_step}
use Rattle.ltm_loading.proofs.Bounds.{sent_small, term_rises, arrived_within, arm_count_small, arrived_count_small, counts_small_holds}

-- outputs of the node's shape
abbrev outputs_of : Setting → ℕ → List ℕ → Outputs
outputs_of s u row = record { shape = shape_at s u; row = row; room = 0 }

left_small : (s : Setting) (c : Counts) (t u i d : ℕ) (row : List ℕ) → IsSetting s → IsFront s c t → t < s.slots → u < s.nodes → IsNodeStep (pair_inputs s c u t) (outputs_of s u row) → i < arms_of s u → d < s.destinations → left_after (outputs_of s u row) i d ≤ (t + 1) * 160000
left_small s c t u i d row v f y x step l m =
    omega (
      arith,
      sending_kept_holds (pair_inputs s c u t) (outputs_of s u row) step i d l m,
      (pair_parts s c u t).left i d l m,
      arm_count_small s c t u i d v f (omega arith) x l m,
      le-sum_below s.destinations (node_sending (pair_inputs s c u t) i) d m,
      sent_small s c t u i v f y x l,
    )

entered_small : (s : Setting) (c : Counts) (t u j d : ℕ) (row : List ℕ) → IsSetting s → IsFront s c t → t < s.slots → u < s.nodes → IsNodeStep (pair_inputs s c u t) (outputs_of s u row) → j < s.outs u → d < s.destinations → entered_after (outputs_of s u row) j d ≤ (t + 1) * 160000
entered_small s c t u j d row v f y x step l m =
    let link : s.out_link u j < s.links = v.network.out_link_is_link u j x l in
    omega (
      arith,
      term_rises s.destinations (entered (pair_inputs s c u t) j) (entered_after (outputs_of s u row) j) (supply (pair_inputs s c u t) j) d m
          (λ e z. entered_grows (pair_inputs s c u t) (outputs_of s u row) j e step l z) (supply_kept_holds (pair_inputs s c u t) (outputs_of s u row) step j l),
      (pair_parts s c u t).entered j d l m,
      (pair_parts s c u t).supply j l,
      v.small.capacities (s.out_link u j) t link,
      ((counts_small_holds s c v t f (omega arith) d m).0 (s.out_link u j) link).0,
    )

arrived_small : (s : Setting) (c : Counts) (t u : ℕ) (row : List ℕ) → IsSetting s → IsFront s c t → t < s.slots → u < s.nodes → IsNodeStep (pair_inputs s c u t) (outputs_of s u row) → arrived_after (outputs_of s u row) ≤ (t + 1) * 160000
arrived_small s c t u row v f y x step =
    let few : arms_of s u ≤ 5 = omega (arith, v.small.few_ins u x) in
    omega (
      arith,
      arrived_within (pair_inputs s c u t) (outputs_of s u row) step,
      (pair_parts s c u t).arrived,
      arrived_count_small s c t (s.own u) v f (omega arith) (λ d e. v.network.own_is_destination u d x e),
      sum_below-swap s.destinations (arms_of s u) (λ d i. node_sending (pair_inputs s c u t) i d),
      sum_below-most (arms_of s u) (λ i. sent (pair_inputs s c u t) i) 32000 (λ i l. sent_small s c t u i v f y x l),
      mul-le-mul_right 32000 few,
    )

-- a row of which each part is small
number_small : (row : List ℕ) (a o m most k : ℕ) → length row ≡ a * m + o * m + 1 →
    ((i d : ℕ) → i < a → d < m → slice_index row (i * m + d) ≤ most) →
    ((j d : ℕ) → j < o → d < m → slice_index row (a * m + (j * m + d)) ≤ most) →
    slice_index row (a * m + o * m) ≤ most → slice_index row k ≤ most
number_small row a o m most k long left enter come =
    let P : ℕ → Type 0 = λ z. slice_index row z ≤ most in
    elim (cases_lt k (a * m)) [
      | inl first ↦ let at : IsPlace a m k = place_of a m k first in subst P at.at (left at.row at.column at.row_below at.column_below)
      | inr behind ↦ elim (cases_lt k (a * m + o * m)) [
        | inl second ↦
            let at : IsPlace o m (k - a * m) = place_of o m (k - a * m) (omega arith) in
            let e : a * m + (at.row * m + at.column) ≡ k = omega (arith, at.at) in subst P e (enter at.row at.column at.row_below at.column_below)
        | inr last ↦ elim (cases_lt k (a * m + o * m + 1)) [
          | inl third ↦ let e : a * m + o * m ≡ k = omega arith in subst P e come
          | inr past ↦ omega (arith, get_or_past row k 0 (omega arith))
        ]
      ]
    ]

pub outputs_small_holds : OutputsSmall
outputs_small_holds s c t u n o v y x f reads step k =
    let once : IsNodeStep (pair_inputs s c u t) (outputs_of s u o.row) = same_step n o (shape_at s u) (pair_row s c u t) o.row reads.shape reads.row refl step in
    ∥∥₁_elim once le_prop (λ (z : StepShares (pair_inputs s c u t) (outputs_of s u o.row)).
    number_small o.row (arms_of s u) (s.outs u) s.destinations ((t + 1) * 160000) k z.moves.width
    (λ i d l m. left_small s c t u i d o.row v f y x once l m)
    (λ j d l m. entered_small s c t u j d o.row v f y x once l m)
    (arrived_small s c t u o.row v f y x once))
