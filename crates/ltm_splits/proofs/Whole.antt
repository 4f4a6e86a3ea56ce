-- All rows of a pair at once: what the table's list of the pair is among all rows.
use Rattle.std.proofs.Common.{◌≡◌, ℕ, ◌+◌, ◌<◌, ◌≤◌, suc, Bool, true, false, cond, nat_lt, Ok, Err, List, [], ◌∷◌, ◌++◌, length, get_or, set, map, filter, refl, sym, ap, subst, ◌∙◌, arith, append_assoc, length-append, ◌||◌, inl, inr}
use Rattle.std.proofs.lemmas.Bool.Decides.{nat_tests}
use Rattle.std.proofs.lemmas.List.{append-nil, get_or_past, get_or-set_same, set-set, set-get_or, length-map}
use Rattle.std.proofs.lemmas.Bool.{cases_lt}
use Rattle.std.proofs.Math.ListN.{length-set}
use Rattle.std.proofs.lemmas.List.Elements.{filter-append, All-append, All-filter, All-map}
use Rattle.std.specs.Prelude.{All}
use Rattle.std.specs.declared.cmp.Ordering.TheVariants.{Less}
use Rattle.std.specs.Ordering.{is_lt, is_gt}
use Rattle.std.specs.Map.{keys_of}
use Rattle.std.specs.List.{AllByRecursion, list_any}
use Rattle.std.specs.List.Sorted.{IsStrictlySortedBy}
use Rattle.ltm_splits.specs.declared.keys.SplitKey.{SplitKey}
use Rattle.ltm_splits.specs.declared.keys.SplitFault.TheVariants.{TooManyRows}
use Rattle.ltm_splits.specs.Rows.{SplitRow, SplitsData, with_rows, IsOrdered, HaveWeights, key_of, split_cmp, is_of}
use Rattle.ltm_splits.specs.Weights.{AreWeights}
use Rattle.ltm_splits.specs.Table.{Entry, rows_of_pair, rows_of_all, entries_at, with_entries}
use Rattle.ltm_splits.specs.Entries.{start_at, IsRising}
use Rattle.ltm_splits.specs.Replaced.{pair_cmp, entries_of_pair, replaced, with_pair}
use Rattle.ltm_splits.proofs.Order.{Before, Behind, filter_skip, filter_stop, all_weaker}
use Rattle.ltm_splits.proofs.Pairs.{edit_all, of_all}

module _ {E : Type 0} (p : E → Bool) where
  filter_keep : (xs : List E) → AllByRecursion (λ e. p e ≡ true) xs → filter p xs ≡ xs
  filter_keep [] h = refl
  filter_keep (x ∷ xs) h = ap (λ b. cond b (x ∷ filter p xs) (filter p xs)) h.0 ∙ ap (λ l. x ∷ l) (filter_keep xs h.1)

  all_passed : (P : E → Type 0) → ((e : E) → p e ≡ true → P e) → (xs : List E) → AllByRecursion P (filter p xs)
  all_passed P says [] = tt
  all_passed P says (x ∷ xs) = elim (p x) as (λ b. p x ≡ b → AllByRecursion P (cond b (x ∷ filter p xs) (filter p xs))) [
    | true ↦ λ is. (says x is, all_passed P says xs)
    | false ↦ λ _. all_passed P says xs
  ] refl

module _ (n d : ℕ) where
  abbrev is_before : SplitRow → Bool
  is_before row = is_lt (pair_cmp n d row)

  abbrev is_behind : SplitRow → Bool
  is_behind row = is_gt (pair_cmp n d row)

  before_passes : (row : SplitRow) → Before n d row → is_before row ≡ true
  before_passes row h = grind (arith, nat_tests)

  before_not_behind : (row : SplitRow) → Before n d row → is_behind row ≡ false
  before_not_behind row h = grind (arith, nat_tests)

  behind_passes : (row : SplitRow) → Behind n d row → is_behind row ≡ true
  behind_passes row h = grind (arith, nat_tests)

  behind_not_before : (row : SplitRow) → Behind n d row → is_before row ≡ false
  behind_not_before row h = grind (arith, nat_tests)

  own_not_before : (e : Entry) → is_before (key_of n d e.0, e.1) ≡ false
  own_not_before e = grind (arith, nat_tests)

  own_not_behind : (e : Entry) → is_behind (key_of n d e.0, e.1) ≡ false
  own_not_behind e = grind (arith, nat_tests)

  none_before : (es : List Entry) → filter is_before (rows_of_pair n d es) ≡ []
  none_before [] = refl
  none_before (e ∷ es) = ap (λ b. cond b ((key_of n d e.0, e.1) ∷ filter is_before (rows_of_pair n d es)) (filter is_before (rows_of_pair n d es))) (own_not_before e) ∙ none_before es

  none_behind : (es : List Entry) → filter is_behind (rows_of_pair n d es) ≡ []
  none_behind [] = refl
  none_behind (e ∷ es) = ap (λ b. cond b ((key_of n d e.0, e.1) ∷ filter is_behind (rows_of_pair n d es)) (filter is_behind (rows_of_pair n d es))) (own_not_behind e) ∙ none_behind es

  replaced_skip : (es : List Entry) (xs ys : List SplitRow) → AllByRecursion (Before n d) xs → replaced (xs ++ ys) n d es ≡ xs ++ replaced ys n d es
  unfolding replaced
  replaced_skip es xs ys h =
      let keep : filter is_before xs ≡ xs = filter_keep is_before xs (all_weaker (Before n d) (λ e. is_before e ≡ true) before_passes xs h) in
      let gone : filter is_behind (xs ++ ys) ≡ filter is_behind ys = filter_skip is_behind xs ys (all_weaker (Before n d) (λ e. is_behind e ≡ false) before_not_behind xs h) in
      ap (λ t. filter is_before (xs ++ ys) ++ (rows_of_pair n d es ++ t)) gone
      ∙ ap (λ t. t ++ (rows_of_pair n d es ++ filter is_behind ys)) (filter-append is_before xs ys ∙ ap (λ t. t ++ filter is_before ys) keep)
      ∙ append_assoc xs (filter is_before ys) (rows_of_pair n d es ++ filter is_behind ys)

  replaced_stop : (es : List Entry) (xs ys : List SplitRow) → AllByRecursion (Behind n d) ys → replaced (xs ++ ys) n d es ≡ replaced xs n d es ++ ys
  unfolding replaced
  replaced_stop es xs ys h =
      let keep : filter is_behind ys ≡ ys = filter_keep is_behind ys (all_weaker (Behind n d) (λ e. is_behind e ≡ true) behind_passes ys h) in
      let gone : filter is_before (xs ++ ys) ≡ filter is_before xs = filter_stop is_before xs ys (all_weaker (Behind n d) (λ e. is_before e ≡ false) behind_not_before ys h) in
      ap (λ t. t ++ (rows_of_pair n d es ++ filter is_behind (xs ++ ys))) gone
      ∙ ap (λ t. filter is_before xs ++ (rows_of_pair n d es ++ t)) (filter-append is_behind xs ys ∙ ap (λ t. filter is_behind xs ++ t) keep)
      ∙ ap (λ t. filter is_before xs ++ t) (sym (append_assoc (rows_of_pair n d es) (filter is_behind xs) ys))
      ∙ sym (append_assoc (filter is_before xs) (rows_of_pair n d es ++ filter is_behind xs) ys)

  replaced_own : (es old : List Entry) → replaced (rows_of_pair n d old) n d es ≡ rows_of_pair n d es
  unfolding replaced
  replaced_own es old =
      ap (λ t. t ++ (rows_of_pair n d es ++ filter is_behind (rows_of_pair n d old))) (none_before old)
      ∙ ap (λ t. rows_of_pair n d es ++ t) (none_behind old)
      ∙ append-nil (rows_of_pair n d es)

  -- another list in the table is the rows with others for the pair
  pub replaced_all : (es : List Entry) (nodes : List (List (List Entry))) → n < length nodes → d < length (get_or nodes n []) → rows_of_all (with_entries nodes n d es) ≡ replaced (rows_of_all nodes) n d es
  replaced_all es nodes node destination = edit_all n d (λ rows. replaced rows n d es) (replaced_skip es) (replaced_stop es) nodes es node destination (sym (replaced_own es (entries_at nodes n d)))

  entries_back : (es : List Entry) → map (λ (row : SplitRow). (row.0.from, row.1)) (rows_of_pair n d es) ≡ es
  entries_back [] = refl
  entries_back (e ∷ es) = ap (λ l. e ∷ l) (entries_back es)

  -- the list in the table is what the pair has
  pub entries_all : (nodes : List (List (List Entry))) → entries_of_pair (rows_of_all nodes) n d ≡ entries_at nodes n d
  entries_all nodes = ap (map (λ (row : SplitRow). (row.0.from, row.1))) (of_all n d nodes) ∙ entries_back (entries_at nodes n d)

  -- each row stands before the pair's, is one of them, or stands behind them
  parted_one : (row : SplitRow) (a b c k : ℕ) → a + (b + c) ≡ k → cond (is_before row) (suc a) a + (cond (is_of n d row) (suc b) b + cond (is_behind row) (suc c) c) ≡ suc k
  parted_one row a b c k h = grind (arith, nat_tests)

  length_cond : (b : Bool) (r : SplitRow) (rs : List SplitRow) → length (cond b (r ∷ rs) rs) ≡ cond b (suc (length rs)) (length rs)
  length_cond true r rs = refl
  length_cond false r rs = refl

  length_parted : (rows : List SplitRow) → length (filter is_before rows) + (length (filter (is_of n d) rows) + length (filter is_behind rows)) ≡ length rows
  length_parted [] = refl
  length_parted (r ∷ rs) =
      let p : List SplitRow = filter is_before rs in
      let e : List SplitRow = filter (is_of n d) rs in
      let q : List SplitRow = filter is_behind rs in
      omega (arith, length_cond (is_before r) r p, length_cond (is_of n d r) r e, length_cond (is_behind r) r q, parted_one r (length p) (length e) (length q) (length rs) (length_parted rs))

  rows_length : (es : List Entry) → length (rows_of_pair n d es) ≡ length es
  rows_length [] = refl
  rows_length (e ∷ es) = let rest = rows_length es in omega arith

  own_length : (rows : List SplitRow) → length (entries_of_pair rows n d) ≡ length (filter (is_of n d) rows)
  own_length rows = length-map (filter (is_of n d) rows) (λ (row : SplitRow). (row.0.from, row.1))

  -- those of the pair are among all
  pub own_few : (rows : List SplitRow) → length (entries_of_pair rows n d) ≤ length rows
  own_few rows = omega (arith, own_length rows, length_parted rows)

  -- as many more as the pair has more
  pub length_replaced : (es : List Entry) (rows : List SplitRow) → length (replaced rows n d es) + length (entries_of_pair rows n d) ≡ length rows + length es
  unfolding replaced
  length_replaced es rows =
      omega (
        arith,
        length_parted rows,
        length-append (filter is_before rows) (rows_of_pair n d es ++ filter is_behind rows),
        length-append (rows_of_pair n d es) (filter is_behind rows),
        rows_length es,
        own_length rows,
      )

  pub weights_replaced : (es : List Entry) (rows : List SplitRow) → All (λ e. AreWeights e.1) es → HaveWeights rows → HaveWeights (replaced rows n d es)
  unfolding replaced
  weights_replaced es rows own all =
      let P : SplitRow → Type 0 = λ row. AreWeights row.1 in
      All-append P (filter is_before rows) (rows_of_pair n d es ++ filter is_behind rows) (All-filter is_before P rows all)
      (All-append P (rows_of_pair n d es) (filter is_behind rows) (All-map P (λ e. (key_of n d e.0, e.1)) es own) (All-filter is_behind P rows all))

  -- ---- the order of the keys
  filter_keys : (P : SplitKey → Type 0) (p : SplitRow → Bool) (rows : List SplitRow) → AllByRecursion P (keys_of rows) → AllByRecursion P (keys_of (filter p rows))
  filter_keys P p [] all = tt
  filter_keys P p (x ∷ xs) all = elim (p x) as (λ b. AllByRecursion P (keys_of (cond b (x ∷ filter p xs) (filter p xs)))) [ true ↦ (all.0, filter_keys P p xs all.1) | false ↦ filter_keys P p xs all.1 ]

  ordered_filter : (p : SplitRow → Bool) (rows : List SplitRow) → IsOrdered rows → IsOrdered (filter p rows)
  unfolding IsStrictlySortedBy
  ordered_filter p [] s = tt
  ordered_filter p (x ∷ xs) s = elim (p x) as (λ b. IsOrdered (cond b (x ∷ filter p xs) (filter p xs))) [
    | true ↦ (filter_keys (λ y. split_cmp x.0 y ≡ Less) p xs s.0, ordered_filter p xs s.1)
    | false ↦ ordered_filter p xs s.1
  ]

  keys_append : (P : SplitKey → Type 0) (xs ys : List SplitRow) → AllByRecursion P (keys_of xs) → AllByRecursion P (keys_of ys) → AllByRecursion P (keys_of (xs ++ ys))
  keys_append P [] ys a b = b
  keys_append P (x ∷ xs) ys a b = (a.0, keys_append P xs ys a.1 b)

  ordered_append : (xs ys : List SplitRow) → IsOrdered xs → IsOrdered ys → AllByRecursion (λ x. AllByRecursion (λ y. split_cmp x.0 y ≡ Less) (keys_of ys)) xs → IsOrdered (xs ++ ys)
  unfolding IsStrictlySortedBy
  ordered_append [] ys a b across = b
  ordered_append (x ∷ xs) ys a b across = (keys_append (λ y. split_cmp x.0 y ≡ Less) xs ys a.0 across.0, ordered_append xs ys a.1 b across.1)

  own_less : (f g : ℕ) → f < g → split_cmp (key_of n d f) (key_of n d g) ≡ Less
  own_less f g less = grind (arith, nat_tests)

  own_later : (f : ℕ) (es : List Entry) → ((j : ℕ) → j < length es → f < start_at es j) → AllByRecursion (λ y. split_cmp (key_of n d f) y ≡ Less) (keys_of (rows_of_pair n d es))
  own_later f [] later = tt
  own_later f (e ∷ es) later = (own_less f e.0 (later 0 (omega arith)), own_later f es (λ j less. later (suc j) (omega arith)))

  ordered_own : (es : List Entry) → IsRising es → IsOrdered (rows_of_pair n d es)
  unfolding IsStrictlySortedBy
  ordered_own [] rising = tt
  ordered_own (e ∷ es) rising = (own_later e.0 es (λ j less. rising 0 (suc j) (omega arith) (omega arith)), ordered_own es (λ i j less inside. rising (suc i) (suc j) (omega arith) (omega arith)))

  before_less : (f : ℕ) (row : SplitRow) → is_before row ≡ true → split_cmp row.0 (key_of n d f) ≡ Less
  before_less f row h = grind (arith, nat_tests)

  less_behind : (f : ℕ) (row : SplitRow) → is_behind row ≡ true → split_cmp (key_of n d f) row.0 ≡ Less
  less_behind f row h = grind (arith, nat_tests)

  before_behind : (x y : SplitRow) → is_before x ≡ true → is_behind y ≡ true → split_cmp x.0 y.0 ≡ Less
  before_behind x y h k = grind (arith, nat_tests)

  own_keys : (P : SplitKey → Type 0) (es : List Entry) → ((f : ℕ) → P (key_of n d f)) → AllByRecursion P (keys_of (rows_of_pair n d es))
  own_keys P [] h = tt
  own_keys P (e ∷ es) h = (h e.0, own_keys P es h)

  own_rows : (P : SplitRow → Type 0) (es : List Entry) → ((e : Entry) → P (key_of n d e.0, e.1)) → AllByRecursion P (rows_of_pair n d es)
  own_rows P [] h = tt
  own_rows P (e ∷ es) h = (h e, own_rows P es h)

  passed_keys : (P : SplitKey → Type 0) (p : SplitRow → Bool) (rows : List SplitRow) → ((row : SplitRow) → p row ≡ true → P row.0) → AllByRecursion P (keys_of (filter p rows))
  passed_keys P p [] says = tt
  passed_keys P p (x ∷ xs) says = elim (p x) as (λ b. p x ≡ b → AllByRecursion P (keys_of (cond b (x ∷ filter p xs) (filter p xs)))) [
    | true ↦ λ is. (says x is, passed_keys P p xs says)
    | false ↦ λ _. passed_keys P p xs says
  ] refl

  pub ordered_replaced : (es : List Entry) (rows : List SplitRow) → IsRising es → IsOrdered rows → IsOrdered (replaced rows n d es)
  unfolding replaced
  ordered_replaced es rows rising ordered =
      let back : List SplitRow = filter is_behind rows in
      ordered_append (filter is_before rows) (rows_of_pair n d es ++ back) (ordered_filter is_before rows ordered)
      (ordered_append (rows_of_pair n d es) back (ordered_own es rising) (ordered_filter is_behind rows ordered)
      (own_rows (λ x. AllByRecursion (λ y. split_cmp x.0 y ≡ Less) (keys_of back)) es (λ e. passed_keys (λ y. split_cmp (key_of n d e.0) y ≡ Less) is_behind rows (less_behind e.0))))
      (all_passed is_before (λ x. AllByRecursion (λ y. split_cmp x.0 y ≡ Less) (keys_of (rows_of_pair n d es ++ back)))
      (λ x is. keys_append (λ y. split_cmp x.0 y ≡ Less) (rows_of_pair n d es) back (own_keys (λ y. split_cmp x.0 y ≡ Less) es (λ f. before_less f x is)) (passed_keys (λ y. split_cmp x.0 y ≡ Less) is_behind rows (λ y. before_behind x y is))) rows)

  pub weights_of_pair : (rows : List SplitRow) → HaveWeights rows → All (λ e. AreWeights e.1) (entries_of_pair rows n d)
  weights_of_pair rows all = All-map (λ e. AreWeights e.1) (λ (row : SplitRow). (row.0.from, row.1)) (filter (is_of n d) rows) (All-filter (is_of n d) (λ row. AreWeights row.1) rows all)

  row_there : (rows : List SplitRow) → list_any (is_of n d) rows ≡ true → 0 < length (filter (is_of n d) rows)
  row_there [] some = cc
  row_there (x ∷ xs) some = elim (is_of n d x) as (λ b. (b || list_any (is_of n d) xs) ≡ true → 0 < length (cond b (x ∷ filter (is_of n d) xs) (filter (is_of n d) xs))) [
    | true ↦ λ _. omega arith
    | false ↦ λ rest. row_there xs rest
  ] some

  -- a pair that has a row has a place in the table
  entry_there : (rows : List SplitRow) → list_any (is_of n d) rows ≡ true → 0 < length (entries_of_pair rows n d)
  entry_there rows some = omega (arith, own_length rows, row_there rows some)

  place_there : (nodes : List (List (List Entry))) → 0 < length (entries_at nodes n d) → (n < length nodes) × (d < length (get_or nodes n []))
  place_there nodes some = elim (cases_lt n (length nodes)) [
    | inl node ↦ elim (cases_lt d (length (get_or nodes n []))) [
      | inl destination ↦ (node, destination)
      | inr past ↦ absurd (omega (arith, some, ap length (get_or_past (get_or nodes n []) d [] past)))
    ]
    | inr past ↦ absurd (omega (arith, some, ap (λ (pairs : List (List Entry)). length (get_or pairs d [])) (get_or_past nodes n [] past)))
  ]

  pub stands_there : (nodes : List (List (List Entry))) → list_any (is_of n d) (rows_of_all nodes) ≡ true → (n < length nodes) × (d < length (get_or nodes n []))
  stands_there nodes some = place_there nodes (subst (λ (es : List Entry). 0 < length es) (entries_all nodes) (entry_there (rows_of_all nodes) some))

  -- the table once other rows stand for the pair; room for them was made first, which changes no row
  pub record Exchanged (table new : List (List (List Entry))) (es was : List Entry) : Type 0 where
    pub rows : rows_of_all new ≡ replaced (rows_of_all table) n d es
    pub ordered : IsOrdered (rows_of_all new)
    pub weighted : HaveWeights (rows_of_all new)
    pub count : length (rows_of_all new) + length (entries_of_pair (rows_of_all table) n d) ≡ length (rows_of_all table) + length es
    pub was_is : was ≡ entries_of_pair (rows_of_all table) n d
    pub was_weighted : All (λ e. AreWeights e.1) was
    pub back : replaced (rows_of_all new) n d was ≡ rows_of_all table

  pub exchanged : (table roomy new : List (List (List Entry))) (es was : List Entry) → n < length roomy → d < length (get_or roomy n []) → rows_of_all roomy ≡ rows_of_all table → was ≡ entries_at roomy n d → new ≡ with_entries roomy n d es →
      IsOrdered (rows_of_all table) → IsRising es → All (λ e. AreWeights e.1) es → HaveWeights (rows_of_all table) → Exchanged table new es was
  exchanged table roomy new es was node destination same was_is is ordered rising heavy all =
      let rows : rows_of_all new ≡ replaced (rows_of_all table) n d es = ap rows_of_all is ∙ replaced_all es roomy node destination ∙ ap (λ l. replaced l n d es) same in
      let was_own : was ≡ entries_of_pair (rows_of_all table) n d = was_is ∙ sym (entries_all roomy) ∙ ap (λ l. entries_of_pair l n d) same in
      let again : with_entries (with_entries roomy n d es) n d (entries_at roomy n d) ≡ roomy = with_entries_back roomy es node destination in
      let wide : n < length (with_entries roomy n d es) = omega (arith, node, length-set roomy n (set (get_or roomy n []) d es)) in
      let pairs : get_or (with_entries roomy n d es) n [] ≡ set (get_or roomy n []) d es = get_or-set_same roomy n (set (get_or roomy n []) d es) [] node in
      let deep : d < length (get_or (with_entries roomy n d es) n []) = omega (arith, destination, ap length pairs, length-set (get_or roomy n []) d es) in
      record {
        rows = rows;
        ordered = subst IsOrdered (sym rows) (ordered_replaced es (rows_of_all table) rising ordered);
        weighted = subst HaveWeights (sym rows) (weights_replaced es (rows_of_all table) heavy all);
        count = ap (λ l. length l + length (entries_of_pair (rows_of_all table) n d)) rows ∙ length_replaced es (rows_of_all table);
        was_is = was_own;
        was_weighted = subst (All (λ e. AreWeights e.1)) (sym was_own) (weights_of_pair (rows_of_all table) all);
        back = ap (λ l. replaced (rows_of_all l) n d was) is ∙ ap (replaced (rows_of_all (with_entries roomy n d es)) n d) was_is ∙ sym (replaced_all (entries_at roomy n d) (with_entries roomy n d es) wide deep) ∙ ap rows_of_all again ∙ same;
      }
    where
      with_entries_back : (nodes : List (List (List Entry))) (es : List Entry) → n < length nodes → d < length (get_or nodes n []) → with_entries (with_entries nodes n d es) n d (entries_at nodes n d) ≡ nodes
      with_entries_back nodes es node destination =
          let pairs : List (List Entry) = get_or nodes n [] in
          let read : get_or (set nodes n (set pairs d es)) n [] ≡ set pairs d es = get_or-set_same nodes n (set pairs d es) [] node in
          ap (λ ps. set (set nodes n (set pairs d es)) n (set ps d (get_or pairs d []))) read
          ∙ set-set nodes n (set pairs d es) (set (set pairs d es) d (get_or pairs d []))
          ∙ ap (set nodes n) (set-set pairs d es (get_or pairs d []) ∙ set-get_or pairs d [])
          ∙ set-get_or nodes n []

-- the table takes the rows, or they are too many
pub pair_fits : (s : SplitsData) (n d : ℕ) (es : List Entry) → length (replaced s.rows n d es) ≤ s.most_rows → with_pair s n d es ≡ Ok (with_rows s (replaced s.rows n d es))
pair_fits s n d es few =
    let fits : nat_lt s.most_rows (length (replaced s.rows n d es)) ≡ false = grind (arith, nat_tests) in
    ap (λ b. cond b (Err TooManyRows) (Ok (with_rows s (replaced s.rows n d es)))) fits

pub pair_over : (s : SplitsData) (n d : ℕ) (es : List Entry) → s.most_rows < length (replaced s.rows n d es) → with_pair s n d es ≡ Err TooManyRows
pair_over s n d es many =
    let over : nat_lt s.most_rows (length (replaced s.rows n d es)) ≡ true = grind (arith, nat_tests) in
    ap (λ b. cond b (Err TooManyRows) (Ok (with_rows s (replaced s.rows n d es)))) over
