-- What a set leaves as it was.
use Rattle.std.proofs.Common.{◌≡◌, ◌≢◌, ◌⊎◌, ◌++◌, ℕ, List, [], ◌∷◌, Bool, true, false, cond, arith, inl, inr, refl, ap, sym, ◌∙◌, None}
use Rattle.std.specs.Prelude.{filter, nat_le, ◌&&◌}
use Rattle.std.specs.Option.{option_map}
use Rattle.std.specs.List.{last_or}
use Rattle.std.specs.declared.cmp.Ordering.{Ordering}
use Rattle.std.specs.declared.cmp.Ordering.TheVariants.{Less, Equal, Greater}
use Rattle.std.specs.Ordering.{match_ordering, nat_cmp, ordering_then, is_lt, is_gt}
use Rattle.std.proofs.lemmas.Bool.Decides.{nat_tests}
use Rattle.std.proofs.lemmas.List.{append-nil}
use Rattle.std.proofs.lemmas.List.Elements.{filter-append}
use Rattle.ltm_splits.specs.declared.keys.SplitKey.{SplitKey}
use Rattle.ltm_splits.specs.Rows.{SplitRow, key_of, split_cmp, put_in, is_of, row_in_force, IsSilent}
use Rattle.ltm_splits.specs.Table.{Entry, rows_of_pair}
use Rattle.ltm_splits.specs.Entries.{entry_in_force}
use Rattle.ltm_splits.specs.Replaced.{pair_cmp, replaced}
use Rattle.ltm_splits.proofs.Pairs.{begun_pair, last_pair}

-- whether a row of the pair has begun
abbrev has_begun : ℕ → ℕ → ℕ → SplitRow → Bool
has_begun n d t row = is_of n d row && nat_le row.0.from t

not_begun : (n d t : ℕ) (key : SplitKey) (w : List ℕ) → IsSilent n t key → has_begun n d t (key, w) ≡ false
not_begun n d t key w (inl other) = grind (arith, nat_tests)
not_begun n d t key w (inr late) = grind (arith, nat_tests)

same_silence : (n t : ℕ) (key other : SplitKey) → split_cmp key other ≡ Equal → IsSilent n t key → IsSilent n t other
same_silence n t key other e (inl apart) = inl (λ h. apart (let a : key.node.0 ≡ other.node.0 = grind (arith, nat_tests) in a ∙ h))
same_silence n t key other e (inr late) = inr (let a : key.from ≡ other.from = grind (arith, nat_tests) in omega arith)

begun_stays : (rows : List SplitRow) (key : SplitKey) (w : List ℕ) (n d t : ℕ) → IsSilent n t key → filter (has_begun n d t) (put_in rows key w) ≡ filter (has_begun n d t) rows
begun_stays [] key w n d t h = ap (λ b. cond b ((key, w) ∷ []) []) (not_begun n d t key w h)
begun_stays (x ∷ xs) key w n d t h =
    elim (split_cmp key x.0) as (λ (r : Ordering). split_cmp key x.0 ≡ r →
    filter (has_begun n d t) (match_ordering r ((key, w) ∷ x ∷ xs) ((x.0, w) ∷ xs) (x ∷ put_in xs key w)) ≡ filter (has_begun n d t) (x ∷ xs)) [
      | Less ↦ λ e. ap (λ b. cond b ((key, w) ∷ filter (has_begun n d t) (x ∷ xs)) (filter (has_begun n d t) (x ∷ xs))) (not_begun n d t key w h)
      | Equal ↦ λ e.
          let there : IsSilent n t x.0 = same_silence n t key x.0 e h in
          ap (λ b. cond b ((x.0, w) ∷ filter (has_begun n d t) xs) (filter (has_begun n d t) xs)) (not_begun n d t x.0 w there)
          ∙ sym (ap (λ b. cond b (x ∷ filter (has_begun n d t) xs) (filter (has_begun n d t) xs)) (not_begun n d t x.0 x.1 there))
      | Greater ↦ λ e. ap (λ l. cond (has_begun n d t x) (x ∷ l) l) (begun_stays xs key w n d t h)
    ] refl

-- the row in force of another node, or at an earlier slot, stays
pub in_force_stays : (rows : List SplitRow) (key : SplitKey) (w : List ℕ) (n d t : ℕ) → IsSilent n t key → row_in_force (put_in rows key w) n d t ≡ row_in_force rows n d t
in_force_stays rows key w n d t h = ap (λ l. option_map (λ row. row.1) (last_or None l)) (begun_stays rows key w n d t h)

-- ---- all rows of a pair at once
both_fail : (a b : Bool) → (a ≡ true → b ≡ true) → b ≡ false → a ≡ false
both_fail true b says fails = sym (says refl) ∙ fails
both_fail false b says fails = refl

module _ {E : Type 0} (p : E → Bool) where
  -- a test that says more keeps nothing less
  within : (q : E → Bool) → ((e : E) → p e ≡ true → q e ≡ true) → (xs : List E) → filter p (filter q xs) ≡ filter p xs
  within q says [] = refl
  within q says (x ∷ xs) = elim (q x) as (λ b. q x ≡ b → filter p (cond b (x ∷ filter q xs) (filter q xs)) ≡ cond (p x) (x ∷ filter p xs) (filter p xs)) [
    | true ↦ λ is. ap (λ l. cond (p x) (x ∷ l) l) (within q says xs)
    | false ↦ λ fails. within q says xs ∙ sym (ap (λ b. cond b (x ∷ filter p xs) (filter p xs)) (both_fail (p x) (q x) (says x) fails))
  ] refl

  apart : (q : E → Bool) → ((e : E) → q e ≡ true → p e ≡ false) → (xs : List E) → filter p (filter q xs) ≡ []
  apart q says [] = refl
  apart q says (x ∷ xs) = elim (q x) as (λ b. q x ≡ b → filter p (cond b (x ∷ filter q xs) (filter q xs)) ≡ []) [
    | true ↦ λ is. ap (λ b. cond b (x ∷ filter p (filter q xs)) (filter p (filter q xs))) (says x is) ∙ apart q says xs
    | false ↦ λ _. apart q says xs
  ] refl

  filter_three : (f o b : List E) → filter p (f ++ (o ++ b)) ≡ filter p f ++ (filter p o ++ filter p b)
  filter_three f o b = filter-append p f (o ++ b) ∙ ap (λ t. filter p f ++ t) (filter-append p o b)

module _ (n d : ℕ) (rows : List SplitRow) (es : List Entry) where
  abbrev is_before : SplitRow → Bool
  is_before row = is_lt (pair_cmp n d row)

  abbrev is_behind : SplitRow → Bool
  is_behind row = is_gt (pair_cmp n d row)

  module _ (m e t : ℕ) where
    none_own : ((m ≢ n) ⊎ (e ≢ d)) → (xs : List Entry) → filter (has_begun m e t) (rows_of_pair n d xs) ≡ []
    none_own other [] = refl
    none_own other (x ∷ xs) = ap (λ b. cond b ((key_of n d x.0, x.1) ∷ filter (has_begun m e t) (rows_of_pair n d xs)) (filter (has_begun m e t) (rows_of_pair n d xs))) (other_row x other) ∙ none_own other xs
      where
        other_row : (x : Entry) → ((m ≢ n) ⊎ (e ≢ d)) → has_begun m e t (key_of n d x.0, x.1) ≡ false
        other_row x (inl node) = grind (arith, nat_tests)
        other_row x (inr destination) = grind (arith, nat_tests)

    early : ordering_then (nat_cmp m n) (nat_cmp e d) ≡ Less → (row : SplitRow) → has_begun m e t row ≡ true → is_before row ≡ true
    early is row begun = grind (arith, nat_tests)

    early_not : ordering_then (nat_cmp m n) (nat_cmp e d) ≡ Less → (row : SplitRow) → is_behind row ≡ true → has_begun m e t row ≡ false
    early_not is row behind = grind (arith, nat_tests)

    late : ordering_then (nat_cmp m n) (nat_cmp e d) ≡ Greater → (row : SplitRow) → has_begun m e t row ≡ true → is_behind row ≡ true
    late is row begun = grind (arith, nat_tests)

    late_not : ordering_then (nat_cmp m n) (nat_cmp e d) ≡ Greater → (row : SplitRow) → is_before row ≡ true → has_begun m e t row ≡ false
    late_not is row before = grind (arith, nat_tests)

    not_same : ordering_then (nat_cmp m n) (nat_cmp e d) ≡ Equal → ((m ≢ n) ⊎ (e ≢ d)) → ⊥
    not_same is (inl node) = node (grind (arith, nat_tests))
    not_same is (inr destination) = destination (grind (arith, nat_tests))

    begun_others : ((m ≢ n) ⊎ (e ≢ d)) → filter (has_begun m e t) (replaced rows n d es) ≡ filter (has_begun m e t) rows
    unfolding replaced
    begun_others other =
        let p : SplitRow → Bool = has_begun m e t in
        filter_three p (filter is_before rows) (rows_of_pair n d es) (filter is_behind rows)
        ∙ ap (λ l. filter p (filter is_before rows) ++ (l ++ filter p (filter is_behind rows))) (none_own other es)
        ∙ elim (ordering_then (nat_cmp m n) (nat_cmp e d)) as (λ (r : Ordering). ordering_then (nat_cmp m n) (nat_cmp e d) ≡ r → filter p (filter is_before rows) ++ filter p (filter is_behind rows) ≡ filter p rows) [
          | Less ↦ λ is. ap (λ l. filter p (filter is_before rows) ++ l) (apart p is_behind (early_not is) rows) ∙ append-nil (filter p (filter is_before rows)) ∙ within p is_before (early is) rows
          | Equal ↦ λ is. absurd (not_same is other)
          | Greater ↦ λ is. ap (λ l. l ++ filter p (filter is_behind rows)) (apart p is_before (late_not is) rows) ∙ within p is_behind (late is) rows
        ] refl

  before_not_own : (t : ℕ) (row : SplitRow) → is_before row ≡ true → has_begun n d t row ≡ false
  before_not_own t row h = grind (arith, nat_tests)

  behind_not_own : (t : ℕ) (row : SplitRow) → is_behind row ≡ true → has_begun n d t row ≡ false
  behind_not_own t row h = grind (arith, nat_tests)

  begun_own : (t : ℕ) → filter (has_begun n d t) (replaced rows n d es) ≡ filter (has_begun n d t) (rows_of_pair n d es)
  unfolding replaced
  begun_own t =
      let p : SplitRow → Bool = has_begun n d t in
      filter_three p (filter is_before rows) (rows_of_pair n d es) (filter is_behind rows)
      ∙ ap (λ l. l ++ (filter p (rows_of_pair n d es) ++ filter p (filter is_behind rows))) (apart p is_before (before_not_own t) rows)
      ∙ ap (λ l. filter p (rows_of_pair n d es) ++ l) (apart p is_behind (behind_not_own t) rows)
      ∙ append-nil (filter p (rows_of_pair n d es))

pub others_in_force : (rows : List SplitRow) (n d : ℕ) (es : List Entry) (m e t : ℕ) → ((m ≢ n) ⊎ (e ≢ d)) → row_in_force (replaced rows n d es) m e t ≡ row_in_force rows m e t
others_in_force rows n d es m e t other = ap (λ l. option_map (λ row. row.1) (last_or None l)) (begun_others n d rows es m e t other)

pub own_in_force : (rows : List SplitRow) (n d : ℕ) (es : List Entry) (t : ℕ) → row_in_force (replaced rows n d es) n d t ≡ entry_in_force es t
own_in_force rows n d es t = ap (λ l. option_map (λ row. row.1) (last_or None l)) (begun_own n d rows es t ∙ begun_pair n d t es) ∙ last_pair n d None (filter (λ e. nat_le e.0 t) es)
