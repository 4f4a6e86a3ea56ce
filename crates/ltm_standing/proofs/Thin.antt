-- Rows of all destinations, of which those outside a list have nothing, and the rows of the list.
use Rattle.std.proofs.Common.{◌≡◌, ◌≢◌, ℕ, zero, suc, ◌+◌, ◌-◌, ◌*◌, ◌/◌, ◌<◌, ◌≤◌, List, [], ◌∷◌, map, sum, length, slice_index, arith, refl, sym, ap, subst, ◌∙◌, inl, inr}
use Rattle.std.proofs.Math.Nat.{zero-div}
use Rattle.std.proofs.lemmas.Bool.{cases_lt}
use Rattle.std.proofs.lemmas.List.Sums.{sum_by-cons}
use Rattle.ltm_units.specs.Nested.{nested_split}
use Rattle.ltm_curve.specs.First.{list_below}
use Rattle.ltm_standing.specs.Listed.{Ascends, NotIn}

-- the places of a list in a longer one, whose other numbers are 0
pub record IsThin (n from : ℕ) (g f : ℕ → ℕ) (us : List ℕ) : Type 0 where
  pub sums : sum (list_below n g) ≡ sum (map f us)
  pub splits : (part i : ℕ) → i < length us → slice_index (nested_split part (list_below n g)) (slice_index us i - from) ≡ slice_index (nested_split part (map f us)) i

share_of_none : (m x t : ℕ) → x ≡ 0 → m * x / t ≡ 0
share_of_none m x t h = let e : m * x ≡ 0 = ap (λ (z : ℕ). m * z) h ∙ omega arith in ap (λ (z : ℕ). z / t) e ∙ zero-div t

pub ascends_from : (from before : ℕ) (us : List ℕ) → Ascends from before us → (i : ℕ) → i < length us → from ≤ slice_index us i
ascends_from from before [] h i l = absurd (omega arith)
ascends_from from before (u ∷ us) h zero l = h.0
ascends_from from before (u ∷ us) h (suc i) l = let rest : u + 1 ≤ slice_index us i = ascends_from (u + 1) before us h.1.1 i (omega arith) in omega (arith, h.0)

pub ascends_before : (from before : ℕ) (us : List ℕ) → Ascends from before us → (i : ℕ) → i < length us → slice_index us i < before
ascends_before from before [] h i l = absurd (omega arith)
ascends_before from before (u ∷ us) h zero l = h.1.0
ascends_before from before (u ∷ us) h (suc i) l = ascends_before (u + 1) before us h.1.1 i (omega arith)

not_in_more : (u d : ℕ) (us : List ℕ) → u ≢ d → NotIn us d → NotIn (u ∷ us) d
not_in_more u d us ne h zero l = ne
not_in_more u d us ne h (suc i) l = h i (omega arith)

split_tail : (part x : ℕ) (xs : List ℕ) (share m : ℕ) → part * x / (x + sum xs) ≡ share → slice_index (nested_split part (x ∷ xs)) (suc m) ≡ slice_index (nested_split (part - share) xs) m
split_tail part x xs share m e = ap (λ (z : ℕ). slice_index (nested_split (part - z) xs) m) e

split_here : (n from before : ℕ) (g f : ℕ → ℕ) (u : ℕ) (us : List ℕ) → u ≡ from → Ascends (from + 1) before us → IsThin n (from + 1) (λ k. g (suc k)) f us
    → ((part : ℕ) → part * g 0 / (g 0 + sum (list_below n (λ k. g (suc k)))) ≡ part * f u / (f u + sum (map f us)))
    → (part i : ℕ) → i < length (u ∷ us) → slice_index (nested_split part (g 0 ∷ list_below n (λ k. g (suc k)))) (slice_index (u ∷ us) i - from) ≡ slice_index (nested_split part (f u ∷ map f us)) i
split_here n from before g f u us same more tail share part zero l =
    let place : u - from ≡ 0 = omega (arith, same) in
    ap (slice_index (nested_split part (g 0 ∷ list_below n (λ k. g (suc k))))) place ∙ share part
split_here n from before g f u us same more tail share part (suc i) l =
    let low : from + 1 ≤ slice_index us i = ascends_from (from + 1) before us more i (omega arith) in
    let place : slice_index us i - from ≡ suc (slice_index us i - (from + 1)) = omega (arith, low) in
    ap (slice_index (nested_split part (g 0 ∷ list_below n (λ k. g (suc k))))) place
    ∙ (split_tail part (g 0) (list_below n (λ k. g (suc k))) (part * f u / (f u + sum (map f us))) (slice_index us i - (from + 1)) (share part)
    ∙ tail.splits (part - part * f u / (f u + sum (map f us))) i (omega arith))

pub thin : (n from before : ℕ) (g f : ℕ → ℕ) (us : List ℕ) → from + n ≡ before → Ascends from before us → ((k : ℕ) → k < n → g k ≡ f (from + k))
    → ((d : ℕ) → from ≤ d → d < before → NotIn us d → f d ≡ 0) → IsThin n from g f us
thin zero from before g f [] q h e z = record { sums = refl; splits = λ part i l. absurd (omega arith) }
thin zero from before g f (u ∷ us) q h e z = let a : from ≤ u = h.0 in let b : u < before = h.1.0 in absurd (omega arith)
thin (suc n) from before g f [] q h e z =
    let next : from + 1 + n ≡ before = omega arith in
    let tail : IsThin n (from + 1) (λ k. g (suc k)) f [] =
    thin n (from + 1) before (λ k. g (suc k)) f [] next tt (λ k l. e (suc k) (omega arith) ∙ (let at : from + suc k ≡ from + 1 + k = omega arith in ap f at)) (λ d a b out. z d (omega arith) b out) in
    let at : from + 0 ≡ from = omega arith in
    let none : g 0 ≡ 0 = e 0 (omega arith) ∙ (ap f at ∙ z from (omega arith) (omega arith) (λ i l. absurd (omega arith))) in
    record {
      sums = sum_by-cons (λ y. y) (g 0) (list_below n (λ k. g (suc k))) ∙ omega (arith, none, tail.sums);
      splits = λ part i l. absurd (omega arith);
    }
thin (suc n) from before g f (u ∷ us) q h e z =
    let next : from + 1 + n ≡ before = omega arith in
    let L : List ℕ = list_below n (λ k. g (suc k)) in
    let values : (k : ℕ) → k < n → g (suc k) ≡ f (from + 1 + k) = λ k l. e (suc k) (omega arith) ∙ (let at : from + suc k ≡ from + 1 + k = omega arith in ap f at) in
    let first : from + 0 ≡ from = omega arith in
    let head : g 0 ≡ f from = e 0 (omega arith) ∙ ap f first in
    elim (cases_lt from u) [
      | inl later ↦
          let more : Ascends (from + 1) before (u ∷ us) = (omega arith, h.1) in
          let tail : IsThin n (from + 1) (λ k. g (suc k)) f (u ∷ us) = thin n (from + 1) before (λ k. g (suc k)) f (u ∷ us) next more values (λ d a b out. z d (omega arith) b out) in
          let out : NotIn (u ∷ us) from = λ i l x. let low : from + 1 ≤ slice_index (u ∷ us) i = ascends_from (from + 1) before (u ∷ us) more i l in omega (arith, low, x) in
          let none : g 0 ≡ 0 = head ∙ z from (omega arith) (omega (arith, h.1.0)) out in
          record {
            sums = sum_by-cons (λ y. y) (g 0) (list_below n (λ k. g (suc k))) ∙ omega (arith, none, tail.sums);
            splits = λ part i l.
                let low : from + 1 ≤ slice_index (u ∷ us) i = ascends_from (from + 1) before (u ∷ us) more i l in
                let place : slice_index (u ∷ us) i - from ≡ suc (slice_index (u ∷ us) i - (from + 1)) = omega (arith, low) in
                let whole : part - 0 ≡ part = omega arith in
                ap (slice_index (nested_split part (g 0 ∷ list_below n (λ k. g (suc k))))) place
                ∙ (split_tail part (g 0) (list_below n (λ k. g (suc k))) 0 (slice_index (u ∷ us) i - (from + 1)) (share_of_none part (g 0) (g 0 + sum (list_below n (λ k. g (suc k)))) none)
                ∙ (ap (λ (y : ℕ). slice_index (nested_split y (list_below n (λ k. g (suc k)))) (slice_index (u ∷ us) i - (from + 1))) whole ∙ tail.splits part i l));
          }
      | inr here ↦
          let same : u ≡ from = omega (arith, h.0) in
          let one : u + 1 ≡ from + 1 = omega (arith, same) in
          let more : Ascends (from + 1) before us = subst (λ (y : ℕ). Ascends y before us) one h.1.1 in
          let tail : IsThin n (from + 1) (λ k. g (suc k)) f us =
          thin n (from + 1) before (λ k. g (suc k)) f us next more values (λ d a b out. z d (omega arith) b (not_in_more u d us (λ x. omega (arith, x, a, same)) out)) in
          let top : g 0 ≡ f u = head ∙ ap f (sym same) in
          let all : g 0 + sum (list_below n (λ k. g (suc k))) ≡ f u + sum (map f us) = omega (arith, top, tail.sums) in
          let share : (part : ℕ) → part * g 0 / (g 0 + sum (list_below n (λ k. g (suc k)))) ≡ part * f u / (f u + sum (map f us)) =
          λ part. ap (λ (y : ℕ). part * y / (g 0 + sum (list_below n (λ k. g (suc k))))) top ∙ ap (λ (y : ℕ). part * f u / y) all in
          record {
            sums = sum_by-cons (λ y. y) (g 0) (list_below n (λ k. g (suc k))) ∙ (all ∙ sym (sum_by-cons (λ y. y) (f u) (map f us)));
            splits = split_here n from before g f u us same more tail share;
          }
    ]
