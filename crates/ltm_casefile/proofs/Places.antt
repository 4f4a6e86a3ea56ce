-- The place of a destination.
use Rattle.std.proofs.Common.{suc, ◌-◌, ◌≡◌, ℕ, ◌+◌, ◌<◌, ◌≤◌, ◌==◌, List, [], ◌∷◌, length, true, false, cond, Some, get_or, slice_index, refl, ap, ◌∙◌, arith}
use Rattle.std.proofs.lemmas.Bool.Decides.{nat_tests}
use Rattle.std.specs.List.{position_from}
use Rattle.ltm_scenario.specs.Reads.{destination_of}

place_tells : (i n : ℕ) (ds : List ℕ) (node : ℕ) → position_from (λ d. d == node) i ds ≡ Some n → (i ≤ n) × (n < i + length ds) × (get_or ds (n - i) 0 ≡ node)
place_tells i n [] node h = cc
place_tells i n (d ∷ ds) node h =
    elim (d == node) as (λ b. (d == node) ≡ b → cond b (Some i) (position_from (λ x. x == node) (i + 1) ds) ≡ Some n → (i ≤ n) × (n < i + length (d ∷ ds)) × (get_or (d ∷ ds) (n - i) 0 ≡ node)) [
      | true ↦ λ is e.
          let same : i ≡ n = cc in
          let here : d ≡ node = grind (arith, nat_tests) in
          (omega arith, omega arith, ap (λ k. get_or (d ∷ ds) k 0) (let z : n - i ≡ 0 = omega arith in z) ∙ here)
      | false ↦ λ _ e.
          let r = place_tells (i + 1) n ds node e in
          (omega (arith, r.0), omega (arith, r.1), ap (λ k. get_or (d ∷ ds) k 0) (let z : n - i ≡ suc (n - (i + 1)) = omega (arith, r.0) in z) ∙ r.2)
    ] refl h

-- the place of a node is one, and the node stands there
pub place_is_one : (ds : List ℕ) (node n : ℕ) → destination_of ds node ≡ Some n → n < length ds
place_is_one ds node n is = let told = place_tells 0 n ds node is in omega (arith, told.1)

pub place_is_own : (ds : List ℕ) (node n : ℕ) → destination_of ds node ≡ Some n → slice_index ds n ≡ node
place_is_own ds node n is =
    let told = place_tells 0 n ds node is in
    ap (λ k. get_or ds k 0) (let z : n ≡ n - 0 = omega arith in z) ∙ told.2
