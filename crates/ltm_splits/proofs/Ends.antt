-- Lists end to end: what reads or edits one place alone, where the rows before and behind it do not matter.
use Rattle.std.proofs.Common.{◌≡◌, ℕ, ◌+◌, ◌<◌, zero, suc, List, [], ◌∷◌, ◌++◌, length, get_or, set, refl, sym, ap, ◌∙◌, arith}
use Rattle.std.specs.List.{AllByRecursion}
use Rattle.ltm_splits.specs.Table.{end_to_end}

pub all_append : {E : Type 0} (P : E → Type 0) (xs ys : List E) → AllByRecursion P xs → AllByRecursion P ys → AllByRecursion P (xs ++ ys)
all_append P [] ys a b = b
all_append P (x ∷ xs) ys a b = (a.0, all_append P xs ys a.1 b)

module _ {A E : Type 0} (list : ℕ → A → List E) where
  -- what holds of each list from the place on holds of them end to end
  pub all_ends : (P : E → Type 0) (i : ℕ) (xs : List A) → ((j : ℕ) (x : A) → i < j + 1 → AllByRecursion P (list j x)) → AllByRecursion P (end_to_end list i xs)
  all_ends P i [] h = tt
  all_ends P i (x ∷ xs) h = all_append P (list i x) (end_to_end list (i + 1) xs) (h i x (omega arith)) (all_ends P (i + 1) xs (λ j y l. h j y (omega arith)))

  module _ (g : ℕ) (Before Behind : E → Type 0)
      (before : (j : ℕ) (x : A) → j < g → AllByRecursion Before (list j x))
      (behind : (j : ℕ) (x : A) → g < j → AllByRecursion Behind (list j x)) where
    -- what reads only the list of one place
    pub read_ends : {Y : Type 0} (read : List E → Y) →
        ((xs ys : List E) → AllByRecursion Before xs → read (xs ++ ys) ≡ read ys) →
        ((xs ys : List E) → AllByRecursion Behind ys → read (xs ++ ys) ≡ read xs) →
        (d : A) → read (list g d) ≡ read [] → (i m : ℕ) (xs : List A) → i + m ≡ g → read (end_to_end list i xs) ≡ read (list g (get_or xs m d))
    read_ends read skip stop d none i m [] at = sym none
    read_ends read skip stop d none i zero (x ∷ xs) at =
        let here : i ≡ g = omega arith in
        stop (list i x) (end_to_end list (i + 1) xs) (all_ends Behind (i + 1) xs (λ j y l. behind j y (omega arith))) ∙ ap (λ n. read (list n x)) here
    read_ends read skip stop d none i (suc m) (x ∷ xs) at =
        skip (list i x) (end_to_end list (i + 1) xs) (before i x (omega arith)) ∙ read_ends read skip stop d none (i + 1) m xs (omega arith)

    -- what edits only the list of one place
    pub edit_ends : (edit : List E → List E) →
        ((xs ys : List E) → AllByRecursion Before xs → edit (xs ++ ys) ≡ xs ++ edit ys) →
        ((xs ys : List E) → AllByRecursion Behind ys → edit (xs ++ ys) ≡ edit xs ++ ys) →
        (d y : A) (i m : ℕ) (xs : List A) → i + m ≡ g → m < length xs → list g y ≡ edit (list g (get_or xs m d)) →
        end_to_end list i (set xs m y) ≡ edit (end_to_end list i xs)
    edit_ends edit skip stop d y i m [] at in' is = absurd (omega arith)
    edit_ends edit skip stop d y i zero (x ∷ xs) at in' is =
        let here : i ≡ g = omega arith in
        ap (λ n. list n y ++ end_to_end list (i + 1) xs) here ∙ ap (λ l. l ++ end_to_end list (i + 1) xs) is
        ∙ ap (λ n. edit (list n x) ++ end_to_end list (i + 1) xs) (sym here)
        ∙ sym (stop (list i x) (end_to_end list (i + 1) xs) (all_ends Behind (i + 1) xs (λ j y l. behind j y (omega arith))))
    edit_ends edit skip stop d y i (suc m) (x ∷ xs) at in' is =
        ap (λ l. list i x ++ l) (edit_ends edit skip stop d y (i + 1) m xs (omega arith) (omega arith) is)
        ∙ sym (skip (list i x) (end_to_end list (i + 1) xs) (before i x (omega arith)))

  -- a list of nothing at the end adds nothing
  pub ends_push : (d : A) → ((j : ℕ) → list j d ≡ []) → (i : ℕ) (xs : List A) → end_to_end list i (xs ++ d ∷ []) ≡ end_to_end list i xs
  ends_push d none i [] = ap (λ l. l ++ []) (none i)
  ends_push d none i (x ∷ xs) = ap (λ l. list i x ++ l) (ends_push d none (i + 1) xs)

  -- another list for a place, which adds the same
  pub set_ends : (d y : A) (i m : ℕ) (xs : List A) → ((j : ℕ) → list j y ≡ list j (get_or xs m d)) → end_to_end list i (set xs m y) ≡ end_to_end list i xs
  set_ends d y i m [] same = refl
  set_ends d y i zero (x ∷ xs) same = ap (λ l. l ++ end_to_end list (i + 1) xs) (same i)
  set_ends d y i (suc m) (x ∷ xs) same = ap (λ l. list i x ++ l) (set_ends d y (i + 1) m xs same)

-- a default at the end is read as what lies past the end
pub get_or_push_default : {A : Type 0} (xs : List A) (d : A) (n : ℕ) → get_or (xs ++ d ∷ []) n d ≡ get_or xs n d
get_or_push_default [] d zero = refl
get_or_push_default [] d (suc n) = refl
get_or_push_default (x ∷ xs) d zero = refl
get_or_push_default (x ∷ xs) d (suc n) = get_or_push_default xs d n
