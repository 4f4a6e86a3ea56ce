-- Sums over the numbers below a number.
use Rattle.std.proofs.Common.{◌≡◌, ℕ, zero, suc, ◌+◌, [], ◌∷◌, ◌++◌, ap, ◌∙◌, arith, add-one}
use Rattle.std.specs.List.{range_with_len, sum_by}
use Rattle.std.proofs.lemmas.List.Sums.{sum_by_push}

range_more : (a n : ℕ) → range_with_len a (suc n) ≡ range_with_len a n ++ (a + n) ∷ []
range_more a zero = ap (λ x. x ∷ []) (omega arith)
range_more a (suc n) = ap (λ t. a ∷ t) (range_more (a + 1) n ∙ ap (λ x. range_with_len (a + 1) n ++ x ∷ []) (omega arith))

-- one number more
pub sum_more : (f : ℕ → ℕ) (n : ℕ) → sum_by f (range_with_len 0 (n + 1)) ≡ sum_by f (range_with_len 0 n) + f n
sum_more f n =
    ap (λ m. sum_by f (range_with_len 0 m)) (add-one n)
    ∙ ap (sum_by f) (range_more 0 n)
    ∙ sum_by_push f (range_with_len 0 n) (0 + n)
    ∙ ap (λ x. sum_by f (range_with_len 0 n) + f x) (omega arith)
