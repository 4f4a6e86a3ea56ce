-- Sums over pairs of which one alone may be greater.
use Rattle.std.proofs.Common.{◌≡◌, ℕ, ◌+◌, ◌<◌, ◌≤◌, cond, arith, inl, inr, refl}
use Rattle.std.specs.Prelude.{◌==◌, ◌&&◌}
use Rattle.std.proofs.lemmas.Bool.{cases_Bool, eq-eqb, eqb-true}
use Rattle.ltm_loading.specs.Differing.{sum_pairs}
use Rattle.ltm_loading.proofs.PairSums.{sum_pairs-none, sum_pairs-change, sum_pairs-grows}
use Rattle.ltm_repair.specs.Desk.{IsOther}
use Rattle.ltm_repair.proofs.Cases.{cases_pair}

-- 1 at one pair
abbrev at_pair : ℕ → ℕ → ℕ → ℕ → ℕ
at_pair u t w v = cond ((u == w) && (t == v)) 1 0

here : (u t w v : ℕ) → u ≡ w → t ≡ v → at_pair u t w v ≡ 1
here u t w v p q = rw (eq-eqb u w p, eq-eqb t v q) refl

elsewhere : (u t w v : ℕ) → IsOther u t w v → at_pair u t w v ≡ 0
elsewhere u t w v other = elim (cases_Bool (u == w)) [
  | inr a ↦ rw a refl
  | inl a ↦ elim (cases_Bool (t == v)) [
    | inr b ↦ rw (a, b) refl
    | inl b ↦ absurd (other (eqb-true u w a) (eqb-true t v b))
  ]
]

-- two sums whose terms do not rise but at one pair, by 1
pub sum_pairs-but_one : (nodes slots : ℕ) (f g : ℕ → ℕ → ℕ) (u t : ℕ) → u < nodes → t < slots →
    ((w v : ℕ) → w < nodes → v < slots → IsOther u t w v → f w v ≤ g w v) → f u t ≤ g u t + 1 → sum_pairs nodes slots f ≤ sum_pairs nodes slots g + 1
sum_pairs-but_one nodes slots f g u t node slot others this =
    let none : sum_pairs nodes slots (λ w v. 0) ≡ 0 = sum_pairs-none nodes slots (λ w v. 0) (λ w v x l. refl) in
    let one : at_pair u t u t ≡ 1 = here u t u t refl refl in
    let change : sum_pairs nodes slots (at_pair u t) + 0 ≡ sum_pairs nodes slots (λ w v. 0) + at_pair u t u t =
    sum_pairs-change nodes slots (at_pair u t) (λ w v. 0) u t node slot (λ w v x l other. elsewhere u t w v other) in
    let grown : sum_pairs nodes slots f ≤ sum_pairs nodes slots g + sum_pairs nodes slots (at_pair u t) =
    sum_pairs-grows nodes slots slots f g (at_pair u t) (omega arith)
    (λ w v x l. elim (cases_pair u t w v) [
      | inl at ↦
          let up : f w v ≤ g w v + 1 = rw (← at.0, ← at.1) this in
          let z : at_pair u t w v ≡ 1 = here u t w v at.0 at.1 in omega (up, z, arith)
      | inr other ↦ let less : f w v ≤ g w v = others w v x l other in omega (less, arith)
    ])
    (λ w v x high low. absurd (omega arith)) in
    omega (grown, change, none, one, arith)
