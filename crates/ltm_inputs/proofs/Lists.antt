-- Lists and tables of the numbers of a function, joined and compared.
use Rattle.std.proofs.Common.{append_assoc, slice_index, ◌≡◌, ℕ, ◌+◌, ◌-◌, ◌*◌, ◌/◌, ◌%◌, ◌<◌, List, ◌++◌, length, length-append, arith, inl, inr, ap, sym, ◌∙◌}
use Rattle.std.proofs.Math.Nat.{mul-le-mul_left}
use Rattle.std.proofs.lemmas.Bool.{cases_lt}
use Rattle.std.proofs.lemmas.Nat.{div-mul-add, mod-mul-add, div_below, mod_below}
use Rattle.ltm_curve.specs.First.{list_below}
use Rattle.ltm_curve.proofs.Lists.{length-list_below, index-list_below, list_from}
use Rattle.ltm_loading.specs.Pairs.{grid}
use Rattle.ltm_loading.proofs.Rows.{at_first, behind}

-- two functions with the same first numbers
pub list_below-same : (n : ℕ) (f g : ℕ → ℕ) → ((k : ℕ) → k < n → f k ≡ g k) → list_below n f ≡ list_below n g
list_below-same n f g same = list_from n g (list_below n f) (length-list_below n f) (λ k l. index-list_below n f k l ∙ same k l)

-- the first numbers, and some more
pub list_below-more : (m n : ℕ) (f : ℕ → ℕ) → list_below (m + n) f ≡ list_below m f ++ list_below n (λ k. f (m + k))
list_below-more m n f =
    let xs : List ℕ = list_below m f in
    let ys : List ℕ = list_below n (λ k. f (m + k)) in
    let lx : length (list_below m f) ≡ m = length-list_below m f in
    let ly : length (list_below n (λ k. f (m + k))) ≡ n = length-list_below n (λ k. f (m + k)) in
    sym (list_from (m + n) f (xs ++ ys) (omega (arith, length-append xs ys)) (λ k l. elim (cases_lt k m) [
      | inl in_front ↦ at_first xs ys k (omega arith) ∙ index-list_below m f k in_front
      | inr past ↦ let e : m + (k - m) ≡ k = omega arith in
          behind xs ys k (k - m) (omega arith) ∙ (index-list_below n (λ z. f (m + z)) (k - m) (omega arith) ∙ ap f e)
    ]))

-- one more row
pub grid-more : (n w : ℕ) (f : ℕ → ℕ → ℕ) → grid (n + 1) w f ≡ grid n w f ++ list_below w (f n)
grid-more n w f =
    let count : (n + 1) * w ≡ n * w + w = omega arith in
    let last : list_below w (λ k. f ((n * w + k) / w) ((n * w + k) % w)) ≡ list_below w (f n) =
    list_below-same w (λ k. f ((n * w + k) / w) ((n * w + k) % w)) (f n)
    (λ k l. ap (λ (z : ℕ). f z ((n * w + k) % w)) (div-mul-add n w k l) ∙ ap (λ (z : ℕ). f n z) (mod-mul-add n w k l)) in
    ap (λ (z : ℕ). list_below z (λ k. f (k / w) (k % w))) count
    ∙ (list_below-more (n * w) w (λ k. f (k / w) (k % w)) ∙ ap (λ (z : List ℕ). grid n w f ++ z) last)

-- two tables with the same numbers
pub grid-same : (n w : ℕ) (f g : ℕ → ℕ → ℕ) → ((i d : ℕ) → i < n → d < w → f i d ≡ g i d) → grid n w f ≡ grid n w g
grid-same n w f g same =
    list_below-same (n * w) (λ k. f (k / w) (k % w)) (λ k. g (k / w) (k % w))
    (λ k l. let some : 0 < w = elim (cases_lt 0 w) [ inl some ↦ some | inr none ↦ absurd (omega (arith, mul-le-mul_left n none)) ] in
    same (k / w) (k % w) (div_below k w n some l) (mod_below k w some))

-- zeros are three tables of zeros, and what comes behind them
pub zeros_joined : (a o : ℕ) (xs rest : List ℕ) → length xs ≡ a + o + 1 → ((k : ℕ) → k < length xs → slice_index xs k ≡ 0) →
    xs ++ rest ≡ list_below a (λ k. 0) ++ (list_below o (λ k. 0) ++ (list_below 1 (λ k. 0) ++ rest))
zeros_joined a o xs rest long none =
    let p : List ℕ = list_below a (λ k. 0) in
    let q : List ℕ = list_below o (λ k. 0) in
    let r : List ℕ = list_below 1 (λ k. 0) in
    let all : xs ≡ p ++ (q ++ r) =
    list_from (a + o + 1) (λ k. 0) xs long (λ k l. none k (omega arith))
    ∙ (list_below-more (a + o) 1 (λ k. 0) ∙ (ap (λ (z : List ℕ). z ++ r) (list_below-more a o (λ k. 0)) ∙ append_assoc p q r)) in
    ap (λ (z : List ℕ). z ++ rest) all ∙ (append_assoc p (q ++ r) rest ∙ ap (λ (z : List ℕ). p ++ z) (append_assoc q r rest))
