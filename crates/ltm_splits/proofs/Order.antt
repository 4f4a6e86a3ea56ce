-- Rows before and behind those of a pair: what they are to its keys, and that nothing there is read or edited.
use Rattle.std.proofs.Common.{◌≡◌, ℕ, Bool, true, false, cond, ◌==◌, ◌&&◌, ◌||◌, nat_lt, Some, None, List, [], ◌∷◌, ◌++◌, refl, ap, ◌∙◌, arith}
use Rattle.std.proofs.lemmas.Bool.Decides.{nat_tests}
use Rattle.std.specs.declared.cmp.Ordering.TheVariants.{Less, Equal, Greater}
use Rattle.std.specs.Ordering.{match_ordering, is_eq}
use Rattle.std.specs.List.{AllByRecursion, filter}
use Rattle.ltm_splits.specs.Rows.{SplitRow, key_of, split_cmp, row_of, put_in, taken_out, is_of}

abbrev pub Before : ℕ → ℕ → SplitRow → Type 0
Before n d row = (nat_lt row.0.node.0 n || ((row.0.node.0 == n) && nat_lt row.0.destination d)) ≡ true

abbrev pub Behind : ℕ → ℕ → SplitRow → Type 0
Behind n d row = (nat_lt n row.0.node.0 || ((row.0.node.0 == n) && nat_lt d row.0.destination)) ≡ true

cmp_before : (n d f : ℕ) (row : SplitRow) → Before n d row → split_cmp (key_of n d f) row.0 ≡ Greater
cmp_before n d f row h = grind (arith, nat_tests)

cmp_behind : (n d f : ℕ) (row : SplitRow) → Behind n d row → split_cmp (key_of n d f) row.0 ≡ Less
cmp_behind n d f row h = grind (arith, nat_tests)

pub apart_before : (n d : ℕ) (row : SplitRow) → Before n d row → is_of n d row ≡ false
apart_before n d row h = grind (arith, nat_tests)

pub apart_behind : (n d : ℕ) (row : SplitRow) → Behind n d row → is_of n d row ≡ false
apart_behind n d row h = grind (arith, nat_tests)

-- a row at its place
pub put_skip : (n d f : ℕ) (w : List ℕ) (xs ys : List SplitRow) → AllByRecursion (Before n d) xs → put_in (xs ++ ys) (key_of n d f) w ≡ xs ++ put_in ys (key_of n d f) w
put_skip n d f w [] ys h = refl
put_skip n d f w (x ∷ xs) ys h =
    ap (λ r. match_ordering r ((key_of n d f, w) ∷ x ∷ (xs ++ ys)) ((x.0, w) ∷ (xs ++ ys)) (x ∷ put_in (xs ++ ys) (key_of n d f) w)) (cmp_before n d f x h.0)
    ∙ ap (λ l. x ∷ l) (put_skip n d f w xs ys h.1)

pub put_stop : (n d f : ℕ) (w : List ℕ) (xs ys : List SplitRow) → AllByRecursion (Behind n d) ys → put_in (xs ++ ys) (key_of n d f) w ≡ put_in xs (key_of n d f) w ++ ys
put_stop n d f w [] [] h = refl
put_stop n d f w [] (y ∷ ys) h =
    ap (λ r. match_ordering r ((key_of n d f, w) ∷ y ∷ ys) ((y.0, w) ∷ ys) (y ∷ put_in ys (key_of n d f) w)) (cmp_behind n d f y h.0)
put_stop n d f w (x ∷ xs) ys h =
    elim (split_cmp (key_of n d f) x.0) as (λ r. match_ordering r ((key_of n d f, w) ∷ x ∷ (xs ++ ys)) ((x.0, w) ∷ (xs ++ ys)) (x ∷ put_in (xs ++ ys) (key_of n d f) w)
    ≡ match_ordering r ((key_of n d f, w) ∷ x ∷ xs) ((x.0, w) ∷ xs) (x ∷ put_in xs (key_of n d f) w) ++ ys) [
      | Less ↦ refl
      | Equal ↦ refl
      | Greater ↦ ap (λ l. x ∷ l) (put_stop n d f w xs ys h)
    ]

-- a row taken out
pub take_skip : (n d f : ℕ) (xs ys : List SplitRow) → AllByRecursion (Before n d) xs → taken_out (xs ++ ys) (key_of n d f) ≡ xs ++ taken_out ys (key_of n d f)
take_skip n d f [] ys h = refl
take_skip n d f (x ∷ xs) ys h =
    ap (λ r. cond (is_eq r) (xs ++ ys) (x ∷ taken_out (xs ++ ys) (key_of n d f))) (cmp_before n d f x h.0) ∙ ap (λ l. x ∷ l) (take_skip n d f xs ys h.1)

take_none : (n d f : ℕ) (ys : List SplitRow) → AllByRecursion (Behind n d) ys → taken_out ys (key_of n d f) ≡ ys
take_none n d f [] h = refl
take_none n d f (y ∷ ys) h = ap (λ r. cond (is_eq r) ys (y ∷ taken_out ys (key_of n d f))) (cmp_behind n d f y h.0) ∙ ap (λ l. y ∷ l) (take_none n d f ys h.1)

pub take_stop : (n d f : ℕ) (xs ys : List SplitRow) → AllByRecursion (Behind n d) ys → taken_out (xs ++ ys) (key_of n d f) ≡ taken_out xs (key_of n d f) ++ ys
take_stop n d f [] ys h = take_none n d f ys h
take_stop n d f (x ∷ xs) ys h =
    elim (is_eq (split_cmp (key_of n d f) x.0)) as (λ b. cond b (xs ++ ys) (x ∷ taken_out (xs ++ ys) (key_of n d f)) ≡ cond b xs (x ∷ taken_out xs (key_of n d f)) ++ ys) [
      | true ↦ refl
      | false ↦ ap (λ l. x ∷ l) (take_stop n d f xs ys h)
    ]

-- a row looked up
pub row_skip : (n d f : ℕ) (xs ys : List SplitRow) → AllByRecursion (Before n d) xs → row_of (xs ++ ys) (key_of n d f) ≡ row_of ys (key_of n d f)
row_skip n d f [] ys h = refl
row_skip n d f (x ∷ xs) ys h = ap (λ r. cond (is_eq r) (Some x.1) (row_of (xs ++ ys) (key_of n d f))) (cmp_before n d f x h.0) ∙ row_skip n d f xs ys h.1

row_none : (n d f : ℕ) (ys : List SplitRow) → AllByRecursion (Behind n d) ys → row_of ys (key_of n d f) ≡ None
row_none n d f [] h = refl
row_none n d f (y ∷ ys) h = ap (λ r. cond (is_eq r) (Some y.1) (row_of ys (key_of n d f))) (cmp_behind n d f y h.0) ∙ row_none n d f ys h.1

pub row_stop : (n d f : ℕ) (xs ys : List SplitRow) → AllByRecursion (Behind n d) ys → row_of (xs ++ ys) (key_of n d f) ≡ row_of xs (key_of n d f)
row_stop n d f [] ys h = row_none n d f ys h
row_stop n d f (x ∷ xs) ys h =
    ap (λ o. cond (is_eq (split_cmp (key_of n d f) x.0)) (Some x.1) o) (row_stop n d f xs ys h)

-- rows that pass a test
module _ {E : Type 0} (p : E → Bool) where
  pub filter_skip : (xs ys : List E) → AllByRecursion (λ e. p e ≡ false) xs → filter p (xs ++ ys) ≡ filter p ys
  filter_skip [] ys h = refl
  filter_skip (x ∷ xs) ys h = ap (λ b. cond b (x ∷ filter p (xs ++ ys)) (filter p (xs ++ ys))) h.0 ∙ filter_skip xs ys h.1

  pub filter_none : (ys : List E) → AllByRecursion (λ e. p e ≡ false) ys → filter p ys ≡ []
  filter_none [] h = refl
  filter_none (y ∷ ys) h = ap (λ b. cond b (y ∷ filter p ys) (filter p ys)) h.0 ∙ filter_none ys h.1

  pub filter_stop : (xs ys : List E) → AllByRecursion (λ e. p e ≡ false) ys → filter p (xs ++ ys) ≡ filter p xs
  filter_stop [] ys h = filter_none ys h
  filter_stop (x ∷ xs) ys h = ap (λ l. cond (p x) (x ∷ l) l) (filter_stop xs ys h)

pub all_weaker : {E : Type 0} (P Q : E → Type 0) → ((e : E) → P e → Q e) → (xs : List E) → AllByRecursion P xs → AllByRecursion Q xs
all_weaker P Q h [] a = tt
all_weaker P Q h (x ∷ xs) a = (h x a.0, all_weaker P Q h xs a.1)
