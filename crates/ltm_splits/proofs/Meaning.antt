-- What the definitions mean for rows in the order of their keys.
use Rattle.std.proofs.Common.{◌≡◌, ℕ, ◌<◌, ◌≤◌, ◌&&◌, nat_le, Bool, true, false, cond, Option, Some, None, List, [], ◌∷◌, refl, sym, ap, ◌∙◌, subst, arith}
use Rattle.std.specs.Prelude.{⊤, MatchOption, IsSome, IsNone, IfSome, is_some}
use Rattle.std.proofs.lemmas.Bool.Decides.{nat_tests}
use Rattle.std.specs.declared.cmp.Ordering.TheVariants.{Less, Equal}
use Rattle.std.specs.Ordering.{is_eq}
use Rattle.std.specs.Option.{option_map}
use Rattle.std.specs.Map.{keys_of}
use Rattle.std.specs.List.{AllByRecursion, filter, last_or, slice_get}
use Rattle.std.proofs.lemmas.Map.Keys.{sorted_head, sorted_tail}
use Rattle.ltm_splits.specs.Rows.{SplitRow, IsOrdered, key_of, split_cmp, row_of, is_of, rows_begun, row_in_force, begins}
use Rattle.ltm_splits.specs.Latest.{IsLatest}
use Rattle.ltm_splits.proofs.Order.{filter_none}
use Rattle.std.proofs.Common.{inl, inr}
use Rattle.std.proofs.lemmas.Bool.{cases_lt}

same_Some : {X : Type 0} (x y : X) → Some x ≡ Some y → x ≡ y
same_Some x y h = cc

abbrev weights : Option SplitRow → Option (List ℕ)
weights o = option_map (λ row. row.1) o

some_last : (e : SplitRow) (xs : List SplitRow) → is_some (weights (last_or (Some e) xs)) ≡ true
some_last e [] = refl
some_last e (x ∷ xs) = some_last x xs

last_whatever : (o : Option SplitRow) (r : SplitRow) (xs : List SplitRow) → last_or None xs ≡ Some r → last_or o xs ≡ Some r
last_whatever o r [] h = cc
last_whatever o r (x ∷ xs) h = h

last_none : (xs : List SplitRow) → last_or None xs ≡ None → xs ≡ []
last_none [] h = refl
last_none (x ∷ xs) h = absurd (let some = some_last x xs in let no : is_some (weights (last_or (Some x) xs)) ≡ false = ap (λ o. is_some (weights o)) h in let both : true ≡ false = sym some ∙ no in cc)

module _ (n d : ℕ) where
  -- rows behind a row of the pair that are of the pair begin later
  later : (e y : SplitRow) → split_cmp e.0 y.0 ≡ Less → is_of n d e ≡ true → is_of n d y ≡ true → e.0.from < y.0.from
  later e y h a b = grind (arith, nat_tests)

  -- whether a row has begun at a slot
  abbrev has_begun : ℕ → SplitRow → Bool
  has_begun t row = is_of n d row && nat_le row.0.from t

  begun_late : (t : ℕ) (e y : SplitRow) → split_cmp e.0 y.0 ≡ Less → is_of n d e ≡ true → t < e.0.from → has_begun t y ≡ false
  begun_late t e y h a l = grind (arith, nat_tests)

  -- where a row of the pair begins after the slot, so do all behind it
  none_begun : (t : ℕ) (e : SplitRow) (es : List SplitRow) → AllByRecursion (λ y. split_cmp e.0 y ≡ Less) (keys_of es) → is_of n d e ≡ true → t < e.0.from → AllByRecursion (λ y. has_begun t y ≡ false) es
  none_begun t e [] all of l = tt
  none_begun t e (y ∷ ys) all of l = (begun_late t e y all.0 of l, none_begun t e ys all.1 of l)

  -- a key that is not that of the first row
  at_head : (f : ℕ) (e : SplitRow) → is_of n d e ≡ true → e.0.from ≡ f → split_cmp (key_of n d f) e.0 ≡ Equal
  at_head f e of is = grind (arith, nat_tests)

  apart : (f : ℕ) (e : SplitRow) → is_of n d e ≡ false → is_eq (split_cmp (key_of n d f) e.0) ≡ false
  apart f e of = grind (arith, nat_tests)

  not_at : (f : ℕ) (e : SplitRow) → f < e.0.from → is_eq (split_cmp (key_of n d f) e.0) ≡ false
  not_at f e l = grind (arith, nat_tests)

  not_at_late : (f : ℕ) (e : SplitRow) → e.0.from < f → is_eq (split_cmp (key_of n d f) e.0) ≡ false
  not_at_late f e l = grind (arith, nat_tests)

  not_at_behind : (f : ℕ) (e y : SplitRow) → split_cmp e.0 y.0 ≡ Less → is_of n d e ≡ true → f < e.0.from → is_eq (split_cmp (key_of n d f) y.0) ≡ false
  not_at_behind f e y h a l = grind (arith, nat_tests)

  none_at : (f : ℕ) (e : SplitRow) (es : List SplitRow) → AllByRecursion (λ y. split_cmp e.0 y ≡ Less) (keys_of es) → is_of n d e ≡ true → f < e.0.from → row_of es (key_of n d f) ≡ None
  none_at f e [] all of l = refl
  none_at f e (y ∷ ys) all of l = ap (λ b. cond b (Some y.1) (row_of ys (key_of n d f))) (not_at_behind f e y all.0 of l) ∙ none_at f e ys all.1 of l

  begins_head : (e : SplitRow) (es : List SplitRow) → is_of n d e ≡ true → begins (e ∷ es) n d ≡ Some e.0.from
  begins_head e es of = ap (λ b. option_map (λ (row : SplitRow). row.0.from) (slice_get (cond b (e ∷ filter (is_of n d) es) (filter (is_of n d) es)) 0)) of

  begins_tail : (e : SplitRow) (es : List SplitRow) → is_of n d e ≡ false → begins (e ∷ es) n d ≡ begins es n d
  begins_tail e es of = ap (λ b. option_map (λ (row : SplitRow). row.0.from) (slice_get (cond b (e ∷ filter (is_of n d) es) (filter (is_of n d) es)) 0)) of

  row_head : (f : ℕ) (e : SplitRow) (es : List SplitRow) → is_of n d e ≡ true → e.0.from ≡ f → row_of (e ∷ es) (key_of n d f) ≡ Some e.1
  row_head f e es of is = ap (λ r. cond (is_eq r) (Some e.1) (row_of es (key_of n d f))) (at_head f e of is)

  row_tail : (f : ℕ) (e : SplitRow) (es : List SplitRow) → is_eq (split_cmp (key_of n d f) e.0) ≡ false → row_of (e ∷ es) (key_of n d f) ≡ row_of es (key_of n d f)
  row_tail f e es apart = ap (λ b. cond b (Some e.1) (row_of es (key_of n d f))) apart

  pub start_forth : (rows : List SplitRow) → begins rows n d ≡ Some 0 → IsSome (row_of rows (key_of n d 0))
  start_forth [] h = cc
  start_forth (e ∷ es) h = elim (is_of n d e) as (λ b. is_of n d e ≡ b → IsSome (row_of (e ∷ es) (key_of n d 0))) [
    | true ↦ λ of. let both : Some e.0.from ≡ Some 0 = sym (begins_head e es of) ∙ h in ap is_some (row_head 0 e es of (same_Some e.0.from 0 both))
    | false ↦ λ of. ap is_some (row_tail 0 e es (apart 0 e of)) ∙ start_forth es (sym (begins_tail e es of) ∙ h)
  ] refl

  pub start_back : (rows : List SplitRow) → IsOrdered rows → IsSome (row_of rows (key_of n d 0)) → begins rows n d ≡ Some 0
  start_back [] s h = cc
  start_back (e ∷ es) s h = elim (is_of n d e) as (λ b. is_of n d e ≡ b → begins (e ∷ es) n d ≡ Some 0) [
    | true ↦ λ of. elim (cases_lt 0 e.0.from) [
      | inl above ↦ absurd (let no : is_some (row_of (e ∷ es) (key_of n d 0)) ≡ false = ap is_some (row_tail 0 e es (not_at 0 e above) ∙ none_at 0 e es (sorted_head split_cmp e.0 (keys_of es) s) of above) in let both : true ≡ false = sym h ∙ no in cc)
      | inr zero ↦ begins_head e es of ∙ ap Some (omega arith)
    ]
    | false ↦ λ of. begins_tail e es of ∙ start_back es (sorted_tail split_cmp e.0 (keys_of es) s) (sym (ap is_some (row_tail 0 e es (apart 0 e of))) ∙ h)
  ] refl

  module _ (t : ℕ) where
    begun_now : (e : SplitRow) → is_of n d e ≡ true → e.0.from ≤ t → has_begun t e ≡ true
    begun_now e of l = grind (arith, nat_tests)

    begun_not_yet : (e : SplitRow) → t < e.0.from → has_begun t e ≡ false
    begun_not_yet e l = grind (arith, nat_tests)

    begun_apart : (e : SplitRow) → is_of n d e ≡ false → has_begun t e ≡ false
    begun_apart e of = ap (λ b. b && nat_le e.0.from t) of

    force_head : (e : SplitRow) (es : List SplitRow) → has_begun t e ≡ true → row_in_force (e ∷ es) n d t ≡ weights (last_or (Some e) (rows_begun es n d t))
    force_head e es is = ap (λ b. weights (last_or None (cond b (e ∷ rows_begun es n d t) (rows_begun es n d t)))) is

    force_tail : (e : SplitRow) (es : List SplitRow) → has_begun t e ≡ false → row_in_force (e ∷ es) n d t ≡ row_in_force es n d t
    force_tail e es is = ap (λ b. weights (last_or None (cond b (e ∷ rows_begun es n d t) (rows_begun es n d t)))) is

    abbrev IsLater : Option ℕ → Type 0
    IsLater o = MatchOption o ⊤ (λ from. t < from)

    pub none_forth : (rows : List SplitRow) → IsNone (row_in_force rows n d t) → IsLater (begins rows n d)
    none_forth [] h = tt
    none_forth (e ∷ es) h = elim (is_of n d e) as (λ b. is_of n d e ≡ b → IsLater (begins (e ∷ es) n d)) [
      | true ↦ λ of. subst IsLater (sym (begins_head e es of)) (elim (cases_lt t e.0.from) [
        | inl above ↦ above
        | inr now ↦ absurd (let some : is_some (row_in_force (e ∷ es) n d t) ≡ true = ap is_some (force_head e es (begun_now e of now)) ∙ some_last e (rows_begun es n d t) in let both : true ≡ false = sym some ∙ h in cc)
      ])
      | false ↦ λ of. subst IsLater (sym (begins_tail e es of)) (none_forth es (sym (ap is_some (force_tail e es (begun_apart e of))) ∙ h))
    ] refl

    pub none_back : (rows : List SplitRow) → IsOrdered rows → IsLater (begins rows n d) → IsNone (row_in_force rows n d t)
    none_back [] s h = refl
    none_back (e ∷ es) s h = elim (is_of n d e) as (λ b. is_of n d e ≡ b → IsNone (row_in_force (e ∷ es) n d t)) [
      | true ↦ λ of.
          let above : t < e.0.from = subst IsLater (begins_head e es of) h in
          ap is_some (force_tail e es (begun_not_yet e above) ∙ ap (λ l. weights (last_or None l)) (filter_none (has_begun t) es (none_begun t e es (sorted_head split_cmp e.0 (keys_of es) s) of above)))
      | false ↦ λ of. ap is_some (force_tail e es (begun_apart e of)) ∙ none_back es (sorted_tail split_cmp e.0 (keys_of es) s) (subst IsLater (begins_tail e es of) h)
    ] refl

    -- a key that is found behind the first row is above it
    less_one : (f : ℕ) (e y : SplitRow) → split_cmp e.0 y.0 ≡ Less → is_eq (split_cmp (key_of n d f) y.0) ≡ true → split_cmp e.0 (key_of n d f) ≡ Less
    less_one f e y less is = grind (arith, nat_tests)

    head_less : (f : ℕ) (w : List ℕ) (e : SplitRow) (es : List SplitRow) → AllByRecursion (λ y. split_cmp e.0 y ≡ Less) (keys_of es) → row_of es (key_of n d f) ≡ Some w → split_cmp e.0 (key_of n d f) ≡ Less
    head_less f w e [] all found = cc
    head_less f w e (y ∷ ys) all found = elim (is_eq (split_cmp (key_of n d f) y.0)) as (λ b. is_eq (split_cmp (key_of n d f) y.0) ≡ b → split_cmp e.0 (key_of n d f) ≡ Less) [
      | true ↦ λ is. less_one f e y all.0 is
      | false ↦ λ is. head_less f w e ys all.1 (sym (row_tail f y ys is) ∙ found)
    ] refl

    above_head : (f g : ℕ) (e : SplitRow) → split_cmp e.0 (key_of n d f) ≡ Less → f ≤ g → is_eq (split_cmp (key_of n d g) e.0) ≡ false
    above_head f g e less l = grind (arith, nat_tests)

    lift : (w : List ℕ) (e : SplitRow) (es : List SplitRow) → IsOrdered (e ∷ es) → IsLatest es n d t w → IsLatest (e ∷ es) n d t w
    lift w e es s latest =
        let less = head_less latest.0 w e es (sorted_head split_cmp e.0 (keys_of es) s) latest.2 in (
          latest.0,
          latest.1,
          row_tail latest.0 e es (above_head latest.0 latest.0 e less (omega arith)) ∙ latest.2,
          λ g above within. row_tail g e es (above_head latest.0 g e less (omega arith)) ∙ latest.3 g above within,
        )

    not_begun_at : (g : ℕ) (y : SplitRow) → g ≤ t → has_begun t y ≡ false → is_eq (split_cmp (key_of n d g) y.0) ≡ false
    not_begun_at g y l h = grind (arith, nat_tests)

    none_there : (g : ℕ) (es : List SplitRow) → g ≤ t → rows_begun es n d t ≡ [] → row_of es (key_of n d g) ≡ None
    none_there g [] l h = refl
    none_there g (y ∷ ys) l h = elim (has_begun t y) as (λ b. has_begun t y ≡ b → cond b (y ∷ rows_begun ys n d t) (rows_begun ys n d t) ≡ [] → row_of (y ∷ ys) (key_of n d g) ≡ None) [
      | true ↦ λ is some. cc
      | false ↦ λ is rest. row_tail g y ys (not_begun_at g y l is) ∙ none_there g ys l rest
    ] refl h

    is_of_begun : (e : SplitRow) → has_begun t e ≡ true → is_of n d e ≡ true
    is_of_begun e h = grind (arith, nat_tests)

    within_begun : (e : SplitRow) → has_begun t e ≡ true → e.0.from ≤ t
    within_begun e h = grind (arith, nat_tests)

    pub latest : (rows : List SplitRow) → IsOrdered rows → (w : List ℕ) → row_in_force rows n d t ≡ Some w → IsLatest rows n d t w
    latest [] s w h = cc
    latest (e ∷ es) s w h = elim (has_begun t e) as (λ b. has_begun t e ≡ b → IsLatest (e ∷ es) n d t w) [
      | true ↦ λ is. elim (last_or None (rows_begun es n d t)) as (λ o. last_or None (rows_begun es n d t) ≡ o → IsLatest (e ∷ es) n d t w) [
        | None ↦ λ none.
            let empty = last_none (rows_begun es n d t) none in
            let same : Some e.1 ≡ Some w = sym (force_head e es is ∙ ap (λ l. weights (last_or (Some e) l)) empty) ∙ h in (
              e.0.from,
              within_begun e is,
              row_head e.0.from e es (is_of_begun e is) refl ∙ same,
              λ g above within. row_tail g e es (not_at_late g e above) ∙ none_there g es within empty,
            )
        | Some r ↦ λ some.
            let rest : row_in_force es n d t ≡ Some w = ap weights (some ∙ sym (last_whatever (Some e) r (rows_begun es n d t) some)) ∙ sym (force_head e es is) ∙ h in
            lift w e es s (latest es (sorted_tail split_cmp e.0 (keys_of es) s) w rest)
      ] refl
      | false ↦ λ is. lift w e es s (latest es (sorted_tail split_cmp e.0 (keys_of es) s) w (sym (force_tail e es is) ∙ h))
    ] refl

    pub latest_if : (rows : List SplitRow) → IsOrdered rows → IfSome (row_in_force rows n d t) (IsLatest rows n d t)
    latest_if rows s = elim (row_in_force rows n d t) as (λ o. row_in_force rows n d t ≡ o → IfSome o (IsLatest rows n d t)) [
      | None ↦ λ is. tt
      | Some w ↦ λ is. latest rows s w is
    ] refl
