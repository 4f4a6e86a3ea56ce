-- Counts with one space between two are told one by one.
use Rattle.std.proofs.Common.{◌≡◌, ℕ, zero, suc, ◌+◌, ◌<◌, ◌≤◌, ◌^◌, Bool, true, false, List, [], ◌∷◌, ◌++◌, length, map, Some, decimal, inl, inr, refl, sym, ap, ◌∙◌, arith, append_assoc, slice_index_or}
use Rattle.std.specs.List.{slice_split, onto_first, All}
use Rattle.std.proofs.lemmas.Bool.{cases_Bool}
use Rattle.std.proofs.lemmas.Bool.Decides.{nat_tests}
use Rattle.std.proofs.lemmas.Grind.{common_steps}
use Rattle.std.proofs.lemmas.List.{append-nil}
use Rattle.std.proofs.lemmas.List.Splits.{slice_split-cons_yes, slice_split-cons_no, slice_split_none, length-slice_split}
use Rattle.ltm_units.proofs.Digits.{digit_bounds}
use Rattle.ltm_curve.specs.First.{list_below}
use Rattle.ltm_curve.proofs.Lists.{length-list_below, index-list_below}
use Rattle.ltm_records.specs.Pieces.{is_space}
use Rattle.ltm_check.specs.CountsTold.{count_told, each_told, counts_told}
use Rattle.ltm_units.specs.Texts.{texts_below}
use Rattle.ltm_check.specs.Text.{further_count, counts_text}
use Rattle.ltm_check.proofs.DigitsBack.{decimal_digits, decimal_told}

-- ---- a text that is cut at its last mark
onto_more : (x : ℕ) (parts : List (List ℕ)) (last : List ℕ) → 0 < length parts → onto_first x (parts ++ last ∷ []) ≡ onto_first x parts ++ last ∷ []
onto_more x [] last l = absurd (omega arith)
onto_more x (part ∷ parts) last l = refl

cut_last : (p : ℕ → Bool) (xs : List ℕ) (y : ℕ) (ys : List ℕ) → p y ≡ true → All (λ x. p x ≡ false) ys → slice_split p (xs ++ y ∷ ys) ≡ slice_split p xs ++ ys ∷ []
cut_last p [] y ys mark rest = slice_split-cons_yes p y ys mark ∙ ap (λ (z : List (List ℕ)). [] ∷ z) (slice_split_none p ys rest)
cut_last p (x ∷ xs) y ys mark rest = elim (cases_Bool (p x)) [
  | inl is ↦
      slice_split-cons_yes p x (xs ++ y ∷ ys) is
      ∙ (ap (λ (z : List (List ℕ)). [] ∷ z) (cut_last p xs y ys mark rest) ∙ ap (λ (z : List (List ℕ)). z ++ ys ∷ []) (sym (slice_split-cons_yes p x xs is)))
  | inr isnt ↦
      slice_split-cons_no p x (xs ++ y ∷ ys) isnt
      ∙ (ap (onto_first x) (cut_last p xs y ys mark rest)
      ∙ (onto_more x (slice_split p xs) ys (omega (arith, length-slice_split p xs)) ∙ ap (λ (z : List (List ℕ)). z ++ ys ∷ []) (sym (slice_split-cons_no p x xs isnt))))
]

-- ---- no space stands among digits
no_space : (n : ℕ) → n < 2 ^ 64 → All (λ x. is_space x ≡ false) (decimal n)
no_space n l k d m = let bounds = digit_bounds (decimal n) k (decimal_digits n l).digits m in grind (arith, nat_tests, common_steps)

-- ---- the counts of a text
below_more : (n : ℕ) (f : ℕ → ℕ) → list_below (suc n) f ≡ list_below n f ++ f n ∷ []
below_more zero f = refl
below_more (suc n) f = ap (λ (z : List ℕ). f 0 ∷ z) (below_more n (λ k. f (suc k)))

map_more : (xs : List ℕ) (x : ℕ) → map decimal (xs ++ x ∷ []) ≡ map decimal xs ++ decimal x ∷ []
map_more [] x = refl
map_more (y ∷ ys) x = ap (λ (z : List (List ℕ)). decimal y ∷ z) (map_more ys x)

text_more : (n : ℕ) (f : ℕ → ℕ) → counts_text (suc n) f ≡ counts_text n f ++ 32 ∷ decimal (f (n + 1))
unfolding counts_text further_count
text_more n f = sym (append_assoc (decimal (f 0)) (texts_below n (λ k. further_count (f (k + 1)))) (32 ∷ decimal (f (n + 1))))

text_none : (f : ℕ → ℕ) → slice_split is_space (counts_text 0 f) ≡ slice_split is_space (decimal (f 0) ++ [])
unfolding counts_text
text_none f = refl

cut_counts : (n : ℕ) (f : ℕ → ℕ) → ((k : ℕ) → k ≤ n → f k < 2 ^ 64) → slice_split is_space (counts_text n f) ≡ map decimal (list_below (suc n) f)
cut_counts zero f small = text_none f ∙ (ap (slice_split is_space) (append-nil (decimal (f 0))) ∙ slice_split_none is_space (decimal (f 0)) (no_space (f 0) (small 0 (omega arith))))
cut_counts (suc n) f small =
    let last : f (n + 1) < 2 ^ 64 = small (n + 1) (omega arith) in
    let at : n + 1 ≡ suc n = omega arith in
    ap (slice_split is_space) (text_more n f)
    ∙ (cut_last is_space (counts_text n f) 32 (decimal (f (n + 1))) refl (no_space (f (n + 1)) last)
    ∙ (ap (λ (z : List (List ℕ)). z ++ decimal (f (n + 1)) ∷ []) (cut_counts n f (λ k l. small k (omega arith)))
    ∙ (ap (λ (z : ℕ). map decimal (list_below (suc n) f) ++ decimal (f z) ∷ []) at
    ∙ (sym (map_more (list_below (suc n) f) (f (suc n))) ∙ ap (map decimal) (sym (below_more (suc n) f))))))

each_decimal : (xs : List ℕ) → ((k : ℕ) → k < length xs → slice_index_or xs k 0 ≤ 2 ^ 48) → each_told (map decimal xs) ≡ Some xs
each_decimal [] small = refl
each_decimal (x ∷ xs) small =
    let first : count_told (decimal x) ≡ Some x = decimal_told x (small 0 (omega arith)) in
    rw (first, each_decimal xs (λ k l. small (suc k) (omega arith))) refl

-- the counts of a text are told
pub text_told : (slots : ℕ) (f : ℕ → ℕ) → ((k : ℕ) → k ≤ slots → f k ≤ 2 ^ 48) → counts_told (slots + 1) (counts_text slots f) ≡ Some (list_below (slots + 1) f)
text_told slots f small =
    let told : each_told (slice_split is_space (counts_text slots f)) ≡ Some (list_below (slots + 1) f) =
    ap each_told (cut_counts slots f (λ k l. omega (arith, small k l)) ∙ ap (λ (z : ℕ). map decimal (list_below z f)) (let e : suc slots ≡ slots + 1 = omega arith in e))
    ∙ each_decimal (list_below (slots + 1) f) (λ k l. let at = index-list_below (slots + 1) f k (omega (arith, length-list_below (slots + 1) f)) in omega (arith, at, small k (omega (arith, length-list_below (slots + 1) f)))) in
    let long = length-list_below (slots + 1) f in
    rw told (grind (arith, nat_tests))
