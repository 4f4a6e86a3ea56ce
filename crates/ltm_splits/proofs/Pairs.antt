-- What is read and edited of all rows is read and edited of the list of one pair.
use Rattle.std.proofs.Common.{◌≡◌, ℕ, ◌<◌, Bool, true, false, cond, ◌&&◌, nat_le, Option, Some, None, List, [], ◌∷◌, ◌++◌, length, get_or, set, refl, sym, ap, ◌∙◌, arith}
use Rattle.std.proofs.lemmas.Bool.Decides.{nat_tests}
use Rattle.std.specs.declared.cmp.Ordering.TheVariants.{Less, Equal, Greater}
use Rattle.std.specs.Ordering.{match_ordering, is_eq, nat_cmp, ordering_then}
use Rattle.std.specs.BTreeMap.{insert_entry, is_at}
use Rattle.std.specs.Map.{lookup, remove_entry}
use Rattle.std.specs.Option.{option_map}
use Rattle.std.specs.List.{AllByRecursion, filter, last_or, slice_get}
use Rattle.ltm_splits.specs.Rows.{SplitRow, key_of, split_cmp, row_of, put_in, taken_out, is_of, rows_begun, row_in_force, begins}
use Rattle.ltm_splits.specs.Table.{Entry, rows_of_pair, rows_of_node, rows_of_all, entries_at, with_entries}
use Rattle.ltm_splits.proofs.Ends.{all_ends, read_ends, edit_ends}
use Rattle.ltm_splits.proofs.Order.{Before, Behind, apart_before, apart_behind, put_skip, put_stop, take_skip, take_stop, row_skip, row_stop, filter_skip, filter_stop, all_weaker}

all_pair : (P : SplitRow → Type 0) (n d : ℕ) (es : List Entry) → ((e : Entry) → P (key_of n d e.0, e.1)) → AllByRecursion P (rows_of_pair n d es)
all_pair P n d [] h = tt
all_pair P n d (e ∷ es) h = (h e, all_pair P n d es h)

pair_before : (n d j : ℕ) (es : List Entry) → j < d → AllByRecursion (Before n d) (rows_of_pair n j es)
pair_before n d j es l = all_pair (Before n d) n j es (λ e. grind (arith, nat_tests))

pair_behind : (n d j : ℕ) (es : List Entry) → d < j → AllByRecursion (Behind n d) (rows_of_pair n j es)
pair_behind n d j es l = all_pair (Behind n d) n j es (λ e. grind (arith, nat_tests))

node_before : (n d j : ℕ) (pairs : List (List Entry)) → j < n → AllByRecursion (Before n d) (rows_of_node j pairs)
node_before n d j pairs l = all_ends (rows_of_pair j) (Before n d) 0 pairs (λ i es _. all_pair (Before n d) j i es (λ e. grind (arith, nat_tests)))

node_behind : (n d j : ℕ) (pairs : List (List Entry)) → n < j → AllByRecursion (Behind n d) (rows_of_node j pairs)
node_behind n d j pairs l = all_ends (rows_of_pair j) (Behind n d) 0 pairs (λ i es _. all_pair (Behind n d) j i es (λ e. grind (arith, nat_tests)))

module _ (n d : ℕ) where
  read_all : {Y : Type 0} (read : List SplitRow → Y) →
      ((xs ys : List SplitRow) → AllByRecursion (Before n d) xs → read (xs ++ ys) ≡ read ys) →
      ((xs ys : List SplitRow) → AllByRecursion (Behind n d) ys → read (xs ++ ys) ≡ read xs) →
      (nodes : List (List (List Entry))) → read (rows_of_all nodes) ≡ read (rows_of_pair n d (entries_at nodes n d))
  read_all read skip stop nodes =
      read_ends rows_of_node n (Before n d) (Behind n d) (node_before n d) (node_behind n d) read skip stop [] refl 0 n nodes (omega arith)
      ∙ read_ends (rows_of_pair n) d (Before n d) (Behind n d) (pair_before n d) (pair_behind n d) read skip stop [] refl 0 d (get_or nodes n []) (omega arith)

  pub edit_all : (edit : List SplitRow → List SplitRow) →
      ((xs ys : List SplitRow) → AllByRecursion (Before n d) xs → edit (xs ++ ys) ≡ xs ++ edit ys) →
      ((xs ys : List SplitRow) → AllByRecursion (Behind n d) ys → edit (xs ++ ys) ≡ edit xs ++ ys) →
      (nodes : List (List (List Entry))) (es : List Entry) → n < length nodes → d < length (get_or nodes n []) →
      rows_of_pair n d es ≡ edit (rows_of_pair n d (entries_at nodes n d)) → rows_of_all (with_entries nodes n d es) ≡ edit (rows_of_all nodes)
  edit_all edit skip stop nodes es node destination is =
      edit_ends rows_of_node n (Before n d) (Behind n d) (node_before n d) (node_behind n d) edit skip stop [] (set (get_or nodes n []) d es) 0 n nodes (omega arith) node
      (edit_ends (rows_of_pair n) d (Before n d) (Behind n d) (pair_before n d) (pair_behind n d) edit skip stop [] es 0 d (get_or nodes n []) (omega arith) destination is)

  -- in the list of a pair, keys are compared by first slot
  nat_cmp_self : (k : ℕ) → nat_cmp k k ≡ Equal
  nat_cmp_self k = grind (arith, nat_tests)

  cmp_same : (f e : ℕ) → split_cmp (key_of n d f) (key_of n d e) ≡ nat_cmp f e
  cmp_same f e = ap (λ r. ordering_then r (ordering_then (nat_cmp d d) (nat_cmp f e))) (nat_cmp_self n) ∙ ap (λ r. ordering_then r (nat_cmp f e)) (nat_cmp_self d)

  of_same : (e : Entry) → is_of n d (key_of n d e.0, e.1) ≡ true
  of_same e = grind (arith, nat_tests)

  put_pair : (f : ℕ) (w : List ℕ) (es : List Entry) → rows_of_pair n d (insert_entry nat_cmp es f w) ≡ put_in (rows_of_pair n d es) (key_of n d f) w
  put_pair f w [] = refl
  put_pair f w (e ∷ es) =
      elim (nat_cmp f e.0) as (λ r. rows_of_pair n d (match_ordering r ((f, w) ∷ e ∷ es) ((e.0, w) ∷ es) (e ∷ insert_entry nat_cmp es f w))
      ≡ match_ordering r ((key_of n d f, w) ∷ rows_of_pair n d (e ∷ es)) ((key_of n d e.0, w) ∷ rows_of_pair n d es) ((key_of n d e.0, e.1) ∷ put_in (rows_of_pair n d es) (key_of n d f) w)) [
        | Less ↦ refl
        | Equal ↦ refl
        | Greater ↦ ap (λ l. (key_of n d e.0, e.1) ∷ l) (put_pair f w es)
      ]
      ∙ ap (λ r. match_ordering r ((key_of n d f, w) ∷ rows_of_pair n d (e ∷ es)) ((key_of n d e.0, w) ∷ rows_of_pair n d es) ((key_of n d e.0, e.1) ∷ put_in (rows_of_pair n d es) (key_of n d f) w)) (sym (cmp_same f e.0))

  take_pair : (f : ℕ) (es : List Entry) → rows_of_pair n d (remove_entry (is_at (nat_cmp f)) es) ≡ taken_out (rows_of_pair n d es) (key_of n d f)
  take_pair f [] = refl
  take_pair f (e ∷ es) =
      elim (is_eq (nat_cmp f e.0)) as (λ b. rows_of_pair n d (cond b es (e ∷ remove_entry (is_at (nat_cmp f)) es)) ≡ cond b (rows_of_pair n d es) ((key_of n d e.0, e.1) ∷ taken_out (rows_of_pair n d es) (key_of n d f))) [
        | true ↦ refl
        | false ↦ ap (λ l. (key_of n d e.0, e.1) ∷ l) (take_pair f es)
      ]
      ∙ ap (λ r. cond (is_eq r) (rows_of_pair n d es) ((key_of n d e.0, e.1) ∷ taken_out (rows_of_pair n d es) (key_of n d f))) (sym (cmp_same f e.0))

  row_pair : (f : ℕ) (es : List Entry) → row_of (rows_of_pair n d es) (key_of n d f) ≡ lookup (is_at (nat_cmp f)) es
  row_pair f [] = refl
  row_pair f (e ∷ es) = ap (λ r. cond (is_eq r) (Some e.1) (row_of (rows_of_pair n d es) (key_of n d f))) (cmp_same f e.0) ∙ ap (λ o. cond (is_eq (nat_cmp f e.0)) (Some e.1) o) (row_pair f es)

  pub begun_pair : (t : ℕ) (es : List Entry) → rows_begun (rows_of_pair n d es) n d t ≡ rows_of_pair n d (filter (λ e. nat_le e.0 t) es)
  begun_pair t [] = refl
  begun_pair t (e ∷ es) =
      ap (λ b. cond (b && nat_le e.0 t) ((key_of n d e.0, e.1) ∷ rows_begun (rows_of_pair n d es) n d t) (rows_begun (rows_of_pair n d es) n d t)) (of_same e)
      ∙ elim (nat_le e.0 t) as (λ b. cond b ((key_of n d e.0, e.1) ∷ rows_begun (rows_of_pair n d es) n d t) (rows_begun (rows_of_pair n d es) n d t) ≡ rows_of_pair n d (cond b (e ∷ filter (λ e. nat_le e.0 t) es) (filter (λ e. nat_le e.0 t) es))) [
        | true ↦ ap (λ l. (key_of n d e.0, e.1) ∷ l) (begun_pair t es)
        | false ↦ begun_pair t es
      ]

  of_pair : (es : List Entry) → filter (is_of n d) (rows_of_pair n d es) ≡ rows_of_pair n d es
  of_pair [] = refl
  of_pair (e ∷ es) = ap (λ b. cond b ((key_of n d e.0, e.1) ∷ filter (is_of n d) (rows_of_pair n d es)) (filter (is_of n d) (rows_of_pair n d es))) (of_same e) ∙ ap (λ l. (key_of n d e.0, e.1) ∷ l) (of_pair es)

  pub last_pair : (o : Option Entry) (es : List Entry) → option_map (λ row. row.1) (last_or (option_map (λ (e : Entry). (key_of n d e.0, e.1)) o) (rows_of_pair n d es)) ≡ option_map (λ e. e.1) (last_or o es)
  last_pair None [] = refl
  last_pair (Some e) [] = refl
  last_pair o (e ∷ es) = last_pair (Some e) es

  first_pair : (es : List Entry) → option_map (λ row. row.0.from) (slice_get (rows_of_pair n d es) 0) ≡ option_map (λ e. e.0) (slice_get es 0)
  first_pair [] = refl
  first_pair (e ∷ es) = refl

  -- the same of all rows
  pub put_all : (f : ℕ) (w : List ℕ) (nodes : List (List (List Entry))) → n < length nodes → d < length (get_or nodes n []) →
      rows_of_all (with_entries nodes n d (insert_entry nat_cmp (entries_at nodes n d) f w)) ≡ put_in (rows_of_all nodes) (key_of n d f) w
  put_all f w nodes node destination = edit_all (λ rows. put_in rows (key_of n d f) w) (put_skip n d f w) (put_stop n d f w) nodes _ node destination (put_pair f w (entries_at nodes n d))

  pub take_all : (f : ℕ) (nodes : List (List (List Entry))) → n < length nodes → d < length (get_or nodes n []) →
      rows_of_all (with_entries nodes n d (remove_entry (is_at (nat_cmp f)) (entries_at nodes n d))) ≡ taken_out (rows_of_all nodes) (key_of n d f)
  take_all f nodes node destination = edit_all (λ rows. taken_out rows (key_of n d f)) (take_skip n d f) (take_stop n d f) nodes _ node destination (take_pair f (entries_at nodes n d))

  pub row_all : (f : ℕ) (nodes : List (List (List Entry))) → row_of (rows_of_all nodes) (key_of n d f) ≡ lookup (is_at (nat_cmp f)) (entries_at nodes n d)
  row_all f nodes = read_all (λ rows. row_of rows (key_of n d f)) (row_skip n d f) (row_stop n d f) nodes ∙ row_pair f (entries_at nodes n d)

  begun_apart : (t : ℕ) (row : SplitRow) → is_of n d row ≡ false → (is_of n d row && nat_le row.0.from t) ≡ false
  begun_apart t row h = ap (λ b. b && nat_le row.0.from t) h

  pub force_all : (t : ℕ) (nodes : List (List (List Entry))) → row_in_force (rows_of_all nodes) n d t ≡ option_map (λ e. e.1) (last_or None (filter (λ e. nat_le e.0 t) (entries_at nodes n d)))
  force_all t nodes =
      let p : SplitRow → Bool = λ row. is_of n d row && nat_le row.0.from t in
      ap (λ rows. option_map (λ row. row.1) (last_or None rows)) (read_all (filter p)
      (λ xs ys h. filter_skip p xs ys (all_weaker (Before n d) (λ e. p e ≡ false) (λ e b. begun_apart t e (apart_before n d e b)) xs h))
      (λ xs ys h. filter_stop p xs ys (all_weaker (Behind n d) (λ e. p e ≡ false) (λ e b. begun_apart t e (apart_behind n d e b)) ys h)) nodes
      ∙ begun_pair t (entries_at nodes n d))
      ∙ last_pair None (filter (λ e. nat_le e.0 t) (entries_at nodes n d))

  pub of_all : (nodes : List (List (List Entry))) → filter (is_of n d) (rows_of_all nodes) ≡ rows_of_pair n d (entries_at nodes n d)
  of_all nodes =
      read_all (filter (is_of n d))
      (λ xs ys h. filter_skip (is_of n d) xs ys (all_weaker (Before n d) (λ e. is_of n d e ≡ false) (apart_before n d) xs h))
      (λ xs ys h. filter_stop (is_of n d) xs ys (all_weaker (Behind n d) (λ e. is_of n d e ≡ false) (apart_behind n d) ys h)) nodes
      ∙ of_pair (entries_at nodes n d)

  pub begins_all : (nodes : List (List (List Entry))) → begins (rows_of_all nodes) n d ≡ option_map (λ e. e.0) (slice_get (entries_at nodes n d) 0)
  begins_all nodes = ap (λ rows. option_map (λ row. row.0.from) (slice_get rows 0)) (of_all nodes) ∙ first_pair (entries_at nodes n d)
