-- Marks that are 0 or 1, and how many are 1.
use Rattle.std.proofs.Common.{◌≡◌, ℕ, zero, suc, ◌≤◌, List, [], ◌∷◌, length, sum, replicate, slice_index, arith}
use Rattle.std.proofs.lemmas.List.Sums.{sum_by-cons}

pub sum_of_bits : (xs : List ℕ) → ((k : ℕ) → slice_index xs k ≤ 1) → sum xs ≤ length xs
sum_of_bits [] h = omega arith
sum_of_bits (x ∷ xs) h =
    let e = sum_by-cons (λ y. y) x xs in
    let rest : sum xs ≤ length xs = sum_of_bits xs (λ k. h (suc k)) in
    let first : x ≤ 1 = h 0 in omega (arith, e)

pub none_found : (n : ℕ) → sum (replicate n 0) ≡ 0
none_found zero = omega arith
none_found (suc n) = omega (arith, sum_by-cons (λ y. y) 0 (replicate n 0), none_found n)
