-- The list of a node's groups grows group after group.
use Rattle.std.proofs.Common.{◌≡◌, ℕ, zero, suc, ◌+◌, ◌<◌, List, [], ◌∷◌, ◌++◌, length, slice_index_or, arith, ap, sym, subst, ◌∙◌}
use Rattle.ltm_curve.specs.First.{list_below}

next : (n : ℕ) (f : ℕ → ℕ) (v : ℕ) → v ≡ f n → list_below n f ++ (v ∷ []) ≡ list_below (suc n) f
next zero f v e = ap (λ (z : ℕ). z ∷ []) e
next (suc n) f v e = ap (λ (t : List ℕ). f 0 ∷ t) (next n (λ k. f (suc k)) v e)

-- one number more behind the first ones
pub one_more : (xs : List ℕ) (n : ℕ) (f : ℕ → ℕ) (v : ℕ) → xs ≡ list_below n f → v ≡ f n → xs ++ (v ∷ []) ≡ list_below (n + 1) f
one_more xs n f v is e =
    let more : suc n ≡ n + 1 = omega arith in ap (λ (z : List ℕ). z ++ (v ∷ [])) is ∙ (next n f v e ∙ ap (λ (z : ℕ). list_below z f) more)

each : (n : ℕ) (f : ℕ → ℕ) (b : ℕ) → ((i : ℕ) → i < n → f i < b) → (k d : ℕ) → k < length (list_below n f) → slice_index_or (list_below n f) k d < b
each zero f b h k d l = absurd (omega arith)
each (suc n) f b h zero d l = h 0 (omega arith)
each (suc n) f b h (suc k) d l = each n (λ i. f (suc i)) b (λ i m. h (suc i) (omega arith)) k d (omega arith)

-- all numbers of a list are below a bound
pub each_below : (xs : List ℕ) (n : ℕ) (f : ℕ → ℕ) (b : ℕ) → xs ≡ list_below n f → ((i : ℕ) → i < n → f i < b) → (k d : ℕ) → k < length xs → slice_index_or xs k d < b
each_below xs n f b e h k d = subst (λ (z : List ℕ). k < length z → slice_index_or z k d < b) (sym e) (each n f b h k d)
