-- What a pair reads fits 32 bits.
use Rattle.std.proofs.Common.{◌≡◌, ℕ, ◌-◌, ◌*◌, ◌/◌, ◌%◌, ◌^◌, ◌<◌, List, ◌++◌, length, slice_index, ap, arith, inl, inr}
use Rattle.std.proofs.Math.Nat.{div-lt_iff_lt-mul, mod-lt}
use Rattle.std.proofs.lemmas.Bool.{cases_lt}
use Rattle.std.proofs.lemmas.List.{get_or_past}
use Rattle.ltm_units.proofs.Sums.{le-sum_below}
use Rattle.ltm_curve.specs.Counts.{Counts}
use Rattle.ltm_curve.specs.First.{list_below}
use Rattle.ltm_curve.proofs.Lists.{length-list_below, index-list_below}
use Rattle.ltm_loading.specs.Setting.{Setting, IsSetting}
use Rattle.ltm_loading.specs.Groups.{up_of}
use Rattle.ltm_loading.specs.Flows.{receiving}
use Rattle.ltm_loading.specs.Pairs.{grid, pair_row, arms_of, sending, arm_group, arm_capacity, arrived_by}
use Rattle.ltm_loading.specs.Loading.{IsFront}
use Rattle.ltm_loading.proofs.Bounds.{arm_capacity_small, arm_count_small, arrived_count_small, counts_small_holds}
use Rattle.ltm_loading.proofs.Rows.{at_first, behind}
use Rattle.ltm_loading.proofs.Sent.{arm_sent}

abbrev AreSmall : List ℕ → Type 0
AreSmall xs = (i : ℕ) → slice_index xs i < 2 ^ 32

both_small : (xs ys : List ℕ) → AreSmall xs → AreSmall ys → AreSmall (xs ++ ys)
both_small xs ys first second i = elim (cases_lt i (length xs)) [
  | inl low ↦ omega (arith, at_first xs ys i low, first i)
  | inr high ↦ omega (arith, behind xs ys i (i - length xs) (omega arith), second (i - length xs))
]

list_small : (n : ℕ) (f : ℕ → ℕ) → ((k : ℕ) → k < n → f k < 2 ^ 32) → AreSmall (list_below n f)
list_small n f small i = elim (cases_lt i n) [
  | inl low ↦ omega (arith, index-list_below n f i low, small i low)
  | inr high ↦ omega (arith, get_or_past (list_below n f) i 0 (omega (arith, length-list_below n f, high)))
]

grid_small : (h w : ℕ) (f : ℕ → ℕ → ℕ) → ((i d : ℕ) → i < h → d < w → f i d < 2 ^ 32) → AreSmall (grid h w f)
grid_small h w f small = elim (cases_lt 0 w) [
  | inr none ↦
      let zero_wide : w ≡ 0 = omega (arith, none) in
      let no_room : h * w ≡ h * 0 = ap (λ (n : ℕ). h * n) zero_wide in
      list_small (h * w) (λ k. f (k / w) (k % w)) (λ k l. absurd (omega (arith, l, no_room)))
  | inl some ↦ list_small (h * w) (λ k. f (k / w) (k % w)) (λ k l. small (k / w) (k % w) ((div-lt_iff_lt-mul some).1 l) (mod-lt k some))
]

pub row_small : (s : Setting) (c : Counts) (t u : ℕ) → IsSetting s → IsFront s c t → t < s.slots → u < s.nodes → AreSmall (pair_row s c u t)
row_small s c t u v f y x =
    let sends : (i d : ℕ) → i < arms_of s u → d < s.destinations → sending s c u t i d < 2 ^ 32 = λ i d l m.
    omega (arith, le-sum_below s.destinations (sending s c u t i) d m, arm_sent s c t u i v f y x l, arm_capacity_small s u t i v x) in
    let lefts : (i d : ℕ) → i < arms_of s u → d < s.destinations → c (arm_group s u i) d t < 2 ^ 32 = λ i d l m.
    omega (arith, arm_count_small s c t u i d v f (omega arith) x l m, v.small.few_slots) in
    let entereds : (j d : ℕ) → j < s.outs u → d < s.destinations → c (up_of (s.out_link u j)) d t < 2 ^ 32 = λ j d l m.
    omega (arith, ((counts_small_holds s c v t f (omega arith) d m).0 (s.out_link u j) (v.network.out_link_is_link u j x l)).0, v.small.few_slots) in
    let come : arrived_by s c (s.own u) t < 2 ^ 32 = omega (arith, arrived_count_small s c t (s.own u) v f (omega arith) (λ d e. v.network.own_is_destination u d x e), v.small.few_slots) in
    let p1 : List ℕ = grid (arms_of s u) s.destinations (sending s c u t) in
    let p2 : List ℕ = grid (arms_of s u) s.destinations (λ i d. c (arm_group s u i) d t) in
    let p3 : List ℕ = grid (s.outs u) s.destinations (λ j d. c (up_of (s.out_link u j)) d t) in
    let p4 : List ℕ = list_below 1 (λ k. arrived_by s c (s.own u) t) in
    let p5 : List ℕ = list_below (s.outs u) (λ j. receiving s c (s.out_link u j) t) in
    let p6 : List ℕ = list_below (arms_of s u) (arm_capacity s u t) in
    let p7 : List ℕ = grid s.destinations (s.outs u) (λ d j. s.weight u d t j) in
    let s5 : AreSmall p5 = list_small (s.outs u) (λ j. receiving s c (s.out_link u j) t) (λ j l. omega (arith, v.small.capacities (s.out_link u j) t (v.network.out_link_is_link u j x l))) in
    let s6 : AreSmall p6 = list_small (arms_of s u) (arm_capacity s u t) (λ i l. omega (arith, arm_capacity_small s u t i v x)) in
    let s7 : AreSmall p7 = grid_small s.destinations (s.outs u) (λ d j. s.weight u d t j) (λ d j m l. omega (arith, v.small.weights u d t j x m y l)) in
    both_small p1 (p2 ++ (p3 ++ (p4 ++ (p5 ++ (p6 ++ p7))))) (grid_small (arms_of s u) s.destinations (sending s c u t) sends)
    (both_small p2 (p3 ++ (p4 ++ (p5 ++ (p6 ++ p7)))) (grid_small (arms_of s u) s.destinations (λ i d. c (arm_group s u i) d t) lefts)
    (both_small p3 (p4 ++ (p5 ++ (p6 ++ p7))) (grid_small (s.outs u) s.destinations (λ j d. c (up_of (s.out_link u j)) d t) entereds)
    (both_small p4 (p5 ++ (p6 ++ p7)) (list_small 1 (λ k. arrived_by s c (s.own u) t) (λ k l. come))
    (both_small p5 (p6 ++ p7) s5 (both_small p6 p7 s6 s7)))))
