-- What each of a list gives, one more at a time.
use Rattle.std.proofs.Common.{ℕ, zero, suc, ◌≡◌, ◌+◌, ◌<◌, ◌≤◌, List, [], ◌∷◌, ◌++◌, length, drop, get_or, Ok, Err, refl, ap, sym, ◌∙◌, append_assoc, add-one, arith}
use Rattle.std.specs.Prelude.{Result}
use Rattle.std.specs.List.{Contains}
use Rattle.std.proofs.Math.Seq.{drop-cons}
use Rattle.std.proofs.lemmas.List.{append-nil, drop_all}
use Rattle.ltm_session_editors.specs.Each.{before, each_from}

-- what was given so far, before what the others give
abbrev pub joined : {B E : Type 0} → List B → Result (List B) E → Result (List B) E
joined front (Ok ys) = Ok (front ++ ys)
joined front (Err fault) = Err fault

module _ {B E : Type 0} where
  none_joined : (more : Result (List B) E) → joined [] more ≡ more
  none_joined (Ok ys) = refl
  none_joined (Err fault) = refl

  before_joins : (front : List B) (y : B) (more : Result (List B) E) → joined front (before (Ok y) more) ≡ joined (front ++ y ∷ []) more
  before_joins front y (Ok ys) = ap Ok (sym (append_assoc front (y ∷ []) ys))
  before_joins front y (Err fault) = refl

module _ {A : Type 0} where
  -- an item at its place
  pub in_place : (xs : List A) (i : ℕ) (d : A) → i < length xs → get_or xs i d ≡ get_or xs i (get_or xs i d)
  in_place [] i d within = absurd (omega (arith, within))
  in_place (x ∷ xs) zero d within = refl
  in_place (x ∷ xs) (suc i) d within = in_place xs i d (omega (arith, within))

  pub contains_at : (xs : List A) (i : ℕ) (d x : A) → i < length xs → x ≡ get_or xs i d → Contains xs x
  contains_at xs i d x within is = (i, within, ap (λ (y : A). get_or xs i y) is ∙ sym (in_place xs i d within) ∙ sym is)

module _ {A B E : Type 0} (gives : ℕ → A → Result B E) where
  rest_at : (xs : List A) (i : ℕ) (x : A) → i < length xs → x ≡ get_or xs i x → drop i xs ≡ x ∷ drop (i + 1) xs
  rest_at xs i x within is = rw (drop-cons xs i x, add-one, ← is) refl

  pub begins : (n : ℕ) (xs : List A) → joined [] (each_from gives n xs) ≡ each_from gives n xs
  begins n xs = none_joined (each_from gives n xs)

  -- the same of a list that is known to be one more and others
  pub one_given : (front : List B) (n : ℕ) (all : List A) (x : A) (xs : List A) (y : B) → all ≡ x ∷ xs → gives n x ≡ Ok y
      → joined (front ++ y ∷ []) (each_from gives (n + 1) xs) ≡ joined front (each_from gives n all)
  unfolding each_from
  one_given front n all x xs y is found = rw (is, found) (sym (before_joins front y (each_from gives (n + 1) xs)))

  pub fault_given : (front : List B) (n : ℕ) (all : List A) (x : A) (xs : List A) (fault : E) → all ≡ x ∷ xs → gives n x ≡ Err fault
      → joined front (each_from gives n all) ≡ Err fault
  unfolding each_from
  fault_given front n all x xs fault is found = rw (is, found) refl

  pub all_given : (front : List B) (n : ℕ) (xs : List A) → xs ≡ [] → joined front (each_from gives n xs) ≡ Ok front
  unfolding each_from
  all_given front n xs is = rw is (ap Ok (append-nil front))

  -- and of a list that is gone over by place
  pub one_more : (front : List B) (n : ℕ) (xs : List A) (i : ℕ) (x : A) (y : B) → i < length xs → x ≡ get_or xs i x → gives n x ≡ Ok y
      → joined (front ++ y ∷ []) (each_from gives (n + 1) (drop (i + 1) xs)) ≡ joined front (each_from gives n (drop i xs))
  one_more front n xs i x y within is found = one_given front n (drop i xs) x (drop (i + 1) xs) y (rest_at xs i x within is) found

  pub first_fault : (front : List B) (n : ℕ) (xs : List A) (i : ℕ) (x : A) (fault : E) → i < length xs → x ≡ get_or xs i x → gives n x ≡ Err fault
      → joined front (each_from gives n (drop i xs)) ≡ Err fault
  first_fault front n xs i x fault within is found = fault_given front n (drop i xs) x (drop (i + 1) xs) fault (rest_at xs i x within is) found

  pub all_done : (front : List B) (n : ℕ) (xs : List A) (i : ℕ) → length xs ≤ i → joined front (each_from gives n (drop i xs)) ≡ Ok front
  all_done front n xs i past = all_given front n (drop i xs) (drop_all i xs past)
