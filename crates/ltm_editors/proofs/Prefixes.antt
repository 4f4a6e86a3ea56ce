-- Lists that begin one another, and the entries of a number.
use Rattle.std.proofs.Common.{◌≡◌, ◌⊎◌, ℕ, ◌==◌, List, [], ◌∷◌, ◌++◌, length, drop, refl, sym, ap, ◌∙◌, inl, inr, ⊎_elim, arith, append_assoc, length-append}
use Rattle.std.proofs.lemmas.List.{append-nil, take-append-drop}
use Rattle.std.proofs.lemmas.List.Elements.{filter-append}
use mathlib.Core.List.{IsPrefix}
use Rattle.ltm_editors.specs.Lists.{entries_of, GrowsBy}
use Rattle.ltm_editors.specs.Views.{longer}

module _ {E : Type 0} where
  no_length : (xs : List E) → length xs ≡ 0 → xs ≡ []
  no_length [] e = refl
  no_length (x ∷ xs) e = absurd (omega arith)

  pub itself : (xs : List E) → IsPrefix xs xs
  itself xs = ([], append-nil xs)

  pub begins_trans : (xs ys zs : List E) → IsPrefix xs ys → IsPrefix ys zs → IsPrefix xs zs
  begins_trans xs ys zs (a, e) (b, f) = (a ++ b, sym (append_assoc xs a b) ∙ (ap (λ l. l ++ b) e ∙ f))

  module _ (author : E → ℕ) (n : ℕ) where
    pub of_append : (xs ys : List E) → entries_of author n (xs ++ ys) ≡ entries_of author n xs ++ entries_of author n ys
    of_append xs ys = filter-append (λ e. author e == n) xs ys

    -- a list between two that agree on a number agrees too
    pub squeezed : (xs ys zs : List E) → IsPrefix xs ys → IsPrefix ys zs → entries_of author n zs ≡ entries_of author n xs → entries_of author n zs ≡ entries_of author n ys
    squeezed xs ys zs (a, e) (b, f) same =
        let f' : entries_of author n ys ++ entries_of author n b ≡ entries_of author n zs = sym (of_append ys b) ∙ ap (λ l. entries_of author n l) f in
        let e' : entries_of author n xs ++ entries_of author n a ≡ entries_of author n ys = sym (of_append xs a) ∙ ap (λ l. entries_of author n l) e in
        let l1 = sym (length-append (entries_of author n ys) (entries_of author n b)) ∙ ap (λ l. length l) f' in
        let l2 = sym (length-append (entries_of author n xs) (entries_of author n a)) ∙ ap (λ l. length l) e' in
        let l3 = ap (λ (l : List E). length l) same in
        let none : entries_of author n b ≡ [] = no_length (entries_of author n b) (omega arith) in
        sym f' ∙ (ap (λ l. entries_of author n ys ++ l) none ∙ append-nil (entries_of author n ys))

    pub none_before : (xs ys : List E) → IsPrefix xs ys → entries_of author n ys ≡ [] → entries_of author n xs ≡ []
    none_before xs ys (a, e) none =
        let e' : entries_of author n xs ++ entries_of author n a ≡ entries_of author n ys = sym (of_append xs a) ∙ ap (λ l. entries_of author n l) e in
        let l1 = sym (length-append (entries_of author n xs) (entries_of author n a)) ∙ ap (λ (l : List E). length l) (e' ∙ none) in
        no_length (entries_of author n xs) (omega arith)

    -- what follows has no entry of a number of which the whole has no more than its beginning
    pub none_behind : (xs ys : List E) → entries_of author n (xs ++ ys) ≡ entries_of author n xs → entries_of author n ys ≡ []
    none_behind xs ys same =
        let l1 = sym (length-append (entries_of author n xs) (entries_of author n ys)) ∙ ap (λ l. length l) (sym (of_append xs ys) ∙ same) in
        no_length (entries_of author n ys) (omega arith)

  -- what has grown begins with what was found
  pub grown_begins : (author : E → ℕ) (n : ℕ) (xs ys : List E) → GrowsBy author n xs ys → IsPrefix xs ys
  grown_begins author n xs ys g = (drop (length xs) ys, sym (ap (λ l. l ++ drop (length xs) ys) g.0) ∙ take-append-drop (length xs) ys)

  pub record Longer (xs ys zs : List E) : Type 0 where
    pub left : IsPrefix xs (longer xs ys)
    pub right : IsPrefix ys (longer xs ys)
    pub whole : IsPrefix (longer xs ys) zs
    pub one : (longer xs ys ≡ xs) ⊎ (longer xs ys ≡ ys)

  -- the longer of two beginnings of one list
  pub longer_begins : (xs ys zs : List E) → IsPrefix xs zs → IsPrefix ys zs → Longer xs ys zs
  longer_begins [] ys zs p q = record { left = (ys, refl); right = itself ys; whole = q; one = inr refl }
  longer_begins (x ∷ xs) [] zs p q = record { left = itself (x ∷ xs); right = (x ∷ xs, refl); whole = p; one = inl refl }
  longer_begins (x ∷ xs) (y ∷ ys) [] (a, e) q = absurd (cc)
  longer_begins (x ∷ xs) (y ∷ ys) (z ∷ zs) (a, e) (b, f) =
      let hx : x ≡ z = (cc) in let tx : xs ++ a ≡ zs = (cc) in
      let hy : y ≡ z = (cc) in let ty : ys ++ b ≡ zs = (cc) in
      let r = longer_begins xs ys zs (a, tx) (b, ty) in record {
        left = (r.left.0, ap (λ l. x ∷ l) r.left.1);
        right = (r.right.0, (λ i. (hy ∙ sym hx) i ∷ r.right.1 i));
        whole = (r.whole.0, (λ i. hx i ∷ r.whole.1 i));
        one = ⊎_elim (λ o. inl (ap (λ l. x ∷ l) o)) (λ o. inr (λ i. (hx ∙ sym hy) i ∷ o i)) r.one;
      }

  -- of two beginnings of one list one begins with the other
  pub one_begins : (xs ys zs : List E) → IsPrefix xs zs → IsPrefix ys zs → IsPrefix xs ys ⊎ IsPrefix ys xs
  one_begins xs ys zs p q = let l = longer_begins xs ys zs p q in
      ⊎_elim (λ e. inr (l.right.0, l.right.1 ∙ e)) (λ e. inl (l.left.0, l.left.1 ∙ e)) l.one
