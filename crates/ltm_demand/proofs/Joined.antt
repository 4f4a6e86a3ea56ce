-- The rows of all origins, seen from the rows of one.
use Rattle.std.proofs.Common.{◌≡◌, ◌==◌, ◌&&◌, ◌||◌, ℕ, zero, suc, ◌+◌, ◌<◌, ◌≤◌, Bool, true, false, cond, List, [], ◌∷◌, ◌++◌, length, get_or, set, take, drop, filter, sum_by, All, arith, refl, ap, sym, subst, ◌∙◌, inl, inr}
use Rattle.std.specs.List.{AllByRecursion, list_any}
use Rattle.std.specs.List.Sorted.{IsStrictlySortedBy}
use Rattle.std.specs.declared.cmp.Ordering.TheVariants.{Less, Greater}
use Rattle.std.specs.Ordering.{is_lt, is_eq, is_gt}
use Rattle.std.proofs.Math.ListN.{drop_of_length-le}
use Rattle.std.proofs.lemmas.Bool.{cases_lt}
use Rattle.std.proofs.lemmas.Bool.Decides.{nat_tests}
use Rattle.std.proofs.lemmas.Grind.{flat_map-append}
use Rattle.std.proofs.lemmas.List.{append-nil, append_assoc, take-append-drop, drop_more, set_split, get_or_past, get_or-take, get_or-drop, length-take}
use Rattle.std.proofs.lemmas.List.Concat.{flat_map-cons}
use Rattle.std.proofs.lemmas.List.Elements.{filter-append, recursion_from_All}
use Rattle.std.proofs.lemmas.List.Folds.{list_any-append}
use Rattle.std.proofs.lemmas.List.Kept.{IsStrictlySortedBy-filter}
use Rattle.ltm_demand.specs.declared.row.DemandRow.{DemandRow}
use Rattle.ltm_demand.specs.Rows.{row_cmp, before, standing, behind, row_if_any, edited_rows, amount_at, with_amount, own_rows}
use Rattle.ltm_demand.specs.Produced.{joins}
use Rattle.ltm_demand.specs.Origins.{OriginData, no_origin, origin_at, rows_of}
use Rattle.ltm_demand.proofs.State.{IsWas}

-- ---- filters of a list all of which passes, or none
pub filter_every : {X : Type 0} (p : X → Bool) (xs : List X) → AllByRecursion (λ x. p x ≡ true) xs → filter p xs ≡ xs
filter_every p [] all = refl
filter_every p (x ∷ xs) all = ap (λ b. cond b (x ∷ filter p xs) (filter p xs)) all.0 ∙ ap (λ t. x ∷ t) (filter_every p xs all.1)

pub filter_no : {X : Type 0} (p : X → Bool) (xs : List X) → AllByRecursion (λ x. p x ≡ false) xs → filter p xs ≡ []
filter_no p [] all = refl
filter_no p (x ∷ xs) all = ap (λ b. cond b (x ∷ filter p xs) (filter p xs)) all.0 ∙ filter_no p xs all.1

pub all_mono : {X : Type 0} (P Q : X → Type 0) → ((x : X) → P x → Q x) → (xs : List X) → AllByRecursion P xs → AllByRecursion Q xs
all_mono P Q f [] all = tt
all_mono P Q f (x ∷ xs) all = (f x all.0, all_mono P Q f xs all.1)

all_join : {X : Type 0} (P : X → Type 0) (xs ys : List X) → AllByRecursion P xs → AllByRecursion P ys → AllByRecursion P (xs ++ ys)
all_join P [] ys a b = b
all_join P (x ∷ xs) ys a b = (a.0, all_join P xs ys a.1 b)

-- a filter after another that lets the same through
pub filter_within : {X : Type 0} (p q : X → Bool) → ((x : X) → p x ≡ true → q x ≡ true) → (xs : List X) → filter p (filter q xs) ≡ filter p xs
filter_within p q so [] = refl
filter_within p q so (x ∷ xs) = elim (q x) as (λ b. q x ≡ b → filter p (cond b (x ∷ filter q xs) (filter q xs)) ≡ cond (p x) (x ∷ filter p xs) (filter p xs)) [
  | true ↦ λ _. ap (λ t. cond (p x) (x ∷ t) t) (filter_within p q so xs)
  | false ↦ λ out. filter_within p q so xs ∙ elim (p x) as (λ b. p x ≡ b → filter p xs ≡ cond b (x ∷ filter p xs) (filter p xs)) [
    | true ↦ λ is. absurd (let e : true ≡ false = sym (so x is) ∙ out in cc)
    | false ↦ λ _. refl
  ] refl
] refl

-- ---- the order of rows of different origins
pub origin_before : (r row : DemandRow) → r.origin.0 < row.origin.0 → row_cmp r row ≡ Less
origin_before r row less = grind (arith, nat_tests)

pub origin_behind : (r row : DemandRow) → row.origin.0 < r.origin.0 → row_cmp r row ≡ Greater
origin_behind r row less = grind (arith, nat_tests)

-- ---- the rows of all origins are those of the origins before one, its own and those of the origins behind it
abbrev pub front : List OriginData → ℕ → List DemandRow
front origins o = rows_of (take o origins)

abbrev pub back : List OriginData → ℕ → List DemandRow
back origins o = rows_of (drop (o + 1) origins)

pub parted_at : (xs : List OriginData) (o : ℕ) → rows_of xs ≡ front xs o ++ ((origin_at xs o).rows ++ back xs o)
parted_at xs o =
    ap rows_of (sym (take-append-drop o xs)) ∙ flat_map-append (λ (x : OriginData). x.rows) (take o xs) (drop o xs) ∙ ap (λ t. front xs o ++ t) rest
  where
    rest : rows_of (drop o xs) ≡ (origin_at xs o).rows ++ back xs o
    rest = elim (cases_lt o (length xs)) [
      | inl inside ↦ ap rows_of (drop_more xs o no_origin inside) ∙ flat_map-cons (λ (x : OriginData). x.rows) (get_or xs o no_origin) (drop (o + 1) xs)
      | inr past ↦
          ap rows_of (drop_of_length-le xs past)
          ∙ sym (ap (λ (x : OriginData). x.rows ++ back xs o) (get_or_past xs o no_origin past) ∙ ap rows_of (drop_of_length-le xs (let l : length xs ≤ o + 1 = omega arith in l)))
    ]

pub set_parted : (xs : List OriginData) (o : ℕ) (x : OriginData) → o < length xs → rows_of (set xs o x) ≡ front xs o ++ (x.rows ++ back xs o)
set_parted xs o x inside =
    ap rows_of (set_split xs o x inside) ∙ flat_map-append (λ (y : OriginData). y.rows) (take o xs) (x ∷ drop (suc o) xs)
    ∙ ap (λ t. front xs o ++ t) (flat_map-cons (λ (y : OriginData). y.rows) x (drop (suc o) xs) ∙ ap (λ n. x.rows ++ rows_of (drop n xs)) (let e : suc o ≡ o + 1 = omega arith in e))

all_rows : (P : DemandRow → Type 0) (xs : List OriginData) → ((i : ℕ) → i < length xs → AllByRecursion P (origin_at xs i).rows) → AllByRecursion P (rows_of xs)
all_rows P [] h = tt
all_rows P (x ∷ xs) h = subst (AllByRecursion P) (sym (flat_map-cons (λ (y : OriginData). y.rows) x xs)) (all_join P x.rows (rows_of xs) (h zero (omega arith)) (all_rows P xs (λ i less. h (suc i) (omega arith))))

module _ (xs : List OriginData) (own : (o : ℕ) → All (λ r. r.origin.0 ≡ o) (origin_at xs o).rows) where
  all_own : (o : ℕ) → AllByRecursion (λ r. r.origin.0 ≡ o) (origin_at xs o).rows
  all_own o = recursion_from_All (λ r. r.origin.0 ≡ o) (origin_at xs o).rows (own o)

  pub front_before : (o : ℕ) → AllByRecursion (λ r. r.origin.0 < o) (front xs o)
  front_before o = all_rows (λ r. r.origin.0 < o) (take o xs) (λ i less.
      let below : i < o = omega (arith, length-take o xs) in
      subst (λ (x : OriginData). AllByRecursion (λ r. r.origin.0 < o) x.rows) (sym (get_or-take o xs i no_origin below))
      (all_mono (λ r. r.origin.0 ≡ i) (λ r. r.origin.0 < o) (λ r is. omega (arith, is)) (origin_at xs i).rows (all_own i)))

  pub back_behind : (o : ℕ) → AllByRecursion (λ r. o < r.origin.0) (back xs o)
  back_behind o = all_rows (λ r. o < r.origin.0) (drop (o + 1) xs) (λ i less.
      subst (λ (x : OriginData). AllByRecursion (λ r. o < r.origin.0) x.rows) (sym (get_or-drop (o + 1) xs i no_origin))
      (all_mono (λ r. r.origin.0 ≡ o + 1 + i) (λ r. o < r.origin.0) (λ r is. omega (arith, is)) (origin_at xs (o + 1 + i)).rows (all_own (o + 1 + i))))

  -- a filter of all rows that only looks at an origin's own
  filter_parted : (p : DemandRow → Bool) (o : ℕ) → filter p (rows_of xs) ≡ filter p (front xs o) ++ (filter p (origin_at xs o).rows ++ filter p (back xs o))
  filter_parted p o =
      ap (filter p) (parted_at xs o) ∙ filter-append p (front xs o) ((origin_at xs o).rows ++ back xs o) ∙ ap (λ t. filter p (front xs o) ++ t) (filter-append p (origin_at xs o).rows (back xs o))

  pub own_joined : (o : ℕ) → own_rows (rows_of xs) o ≡ (origin_at xs o).rows
  own_joined o =
      let p : DemandRow → Bool = λ r. r.origin.0 == o in
      let f : filter p (front xs o) ≡ [] = filter_no p (front xs o) (all_mono (λ r. r.origin.0 < o) (λ r. p r ≡ false) (λ r less. grind (arith, nat_tests)) (front xs o) (front_before o)) in
      let s : filter p (origin_at xs o).rows ≡ (origin_at xs o).rows = filter_every p (origin_at xs o).rows (all_mono (λ r. r.origin.0 ≡ o) (λ r. p r ≡ true) (λ r is. grind (arith, nat_tests)) (origin_at xs o).rows (all_own o)) in
      let b : filter p (back xs o) ≡ [] = filter_no p (back xs o) (all_mono (λ r. o < r.origin.0) (λ r. p r ≡ false) (λ r less. grind (arith, nat_tests)) (back xs o) (back_behind o)) in
      filter_parted p o ∙ ap (λ t. t ++ (filter p (origin_at xs o).rows ++ filter p (back xs o))) f ∙ ap (λ t. filter p (origin_at xs o).rows ++ t) b ∙ append-nil (filter p (origin_at xs o).rows) ∙ s

  pub sorted_own : (o : ℕ) → IsStrictlySortedBy row_cmp (rows_of xs) → IsStrictlySortedBy row_cmp (origin_at xs o).rows
  sorted_own o sorted = subst (IsStrictlySortedBy row_cmp) (own_joined o) (IsStrictlySortedBy-filter row_cmp (λ r. r.origin.0 == o) (rows_of xs) sorted)

  module _ (row : DemandRow) where
    lt_front : filter (λ r. is_lt (row_cmp r row)) (front xs row.origin.0) ≡ front xs row.origin.0
    lt_front = filter_every _ (front xs row.origin.0) (all_mono (λ r. r.origin.0 < row.origin.0) (λ r. is_lt (row_cmp r row) ≡ true) (λ r less. ap is_lt (origin_before r row less)) (front xs row.origin.0) (front_before row.origin.0))

    lt_back : filter (λ r. is_lt (row_cmp r row)) (back xs row.origin.0) ≡ []
    lt_back = filter_no _ (back xs row.origin.0) (all_mono (λ r. row.origin.0 < r.origin.0) (λ r. is_lt (row_cmp r row) ≡ false) (λ r less. ap is_lt (origin_behind r row less)) (back xs row.origin.0) (back_behind row.origin.0))

    eq_front : filter (λ r. is_eq (row_cmp r row)) (front xs row.origin.0) ≡ []
    eq_front = filter_no _ (front xs row.origin.0) (all_mono (λ r. r.origin.0 < row.origin.0) (λ r. is_eq (row_cmp r row) ≡ false) (λ r less. ap is_eq (origin_before r row less)) (front xs row.origin.0) (front_before row.origin.0))

    eq_back : filter (λ r. is_eq (row_cmp r row)) (back xs row.origin.0) ≡ []
    eq_back = filter_no _ (back xs row.origin.0) (all_mono (λ r. row.origin.0 < r.origin.0) (λ r. is_eq (row_cmp r row) ≡ false) (λ r less. ap is_eq (origin_behind r row less)) (back xs row.origin.0) (back_behind row.origin.0))

    gt_front : filter (λ r. is_gt (row_cmp r row)) (front xs row.origin.0) ≡ []
    gt_front = filter_no _ (front xs row.origin.0) (all_mono (λ r. r.origin.0 < row.origin.0) (λ r. is_gt (row_cmp r row) ≡ false) (λ r less. ap is_gt (origin_before r row less)) (front xs row.origin.0) (front_before row.origin.0))

    gt_back : filter (λ r. is_gt (row_cmp r row)) (back xs row.origin.0) ≡ back xs row.origin.0
    gt_back = filter_every _ (back xs row.origin.0) (all_mono (λ r. row.origin.0 < r.origin.0) (λ r. is_gt (row_cmp r row) ≡ true) (λ r less. ap is_gt (origin_behind r row less)) (back xs row.origin.0) (back_behind row.origin.0))

    before_joined : before (rows_of xs) row ≡ front xs row.origin.0 ++ before (origin_at xs row.origin.0).rows row
    unfolding before
    before_joined =
        let p : DemandRow → Bool = λ r. is_lt (row_cmp r row) in
        let o = row.origin.0 in
        filter_parted p o ∙ ap (λ t. t ++ (filter p (origin_at xs o).rows ++ filter p (back xs o))) lt_front
        ∙ ap (λ t. front xs o ++ (filter p (origin_at xs o).rows ++ t)) lt_back ∙ ap (λ t. front xs o ++ t) (append-nil (filter p (origin_at xs o).rows))

    pub standing_joined : standing (rows_of xs) row ≡ standing (origin_at xs row.origin.0).rows row
    unfolding standing
    standing_joined =
        let p : DemandRow → Bool = λ r. is_eq (row_cmp r row) in
        let o = row.origin.0 in
        filter_parted p o ∙ ap (λ t. t ++ (filter p (origin_at xs o).rows ++ filter p (back xs o))) eq_front
        ∙ ap (λ t. filter p (origin_at xs o).rows ++ t) eq_back ∙ append-nil (filter p (origin_at xs o).rows)

    behind_joined : behind (rows_of xs) row ≡ behind (origin_at xs row.origin.0).rows row ++ back xs row.origin.0
    unfolding behind
    behind_joined =
        let p : DemandRow → Bool = λ r. is_gt (row_cmp r row) in
        let o = row.origin.0 in
        filter_parted p o ∙ ap (λ t. t ++ (filter p (origin_at xs o).rows ++ filter p (back xs o))) gt_front ∙ ap (λ t. filter p (origin_at xs o).rows ++ t) gt_back

    -- a list of the origin's own between what is before and behind a row's place
    between : (ys : List DemandRow) → before (rows_of xs) row ++ (ys ++ behind (rows_of xs) row)
        ≡ front xs row.origin.0 ++ ((before (origin_at xs row.origin.0).rows row ++ (ys ++ behind (origin_at xs row.origin.0).rows row)) ++ back xs row.origin.0)
    between ys =
        let f = front xs row.origin.0 in
        let b = back xs row.origin.0 in
        let p = before (origin_at xs row.origin.0).rows row in
        let q = behind (origin_at xs row.origin.0).rows row in
        ap (λ t. t ++ (ys ++ behind (rows_of xs) row)) before_joined ∙ ap (λ t. (f ++ p) ++ (ys ++ t)) behind_joined
        ∙ append_assoc f p (ys ++ (q ++ b)) ∙ ap (λ t. f ++ (p ++ t)) (sym (append_assoc ys q b)) ∙ ap (λ t. f ++ t) (sym (append_assoc p (ys ++ q) b))

    pub edited_joined : edited_rows (rows_of xs) row ≡ front xs row.origin.0 ++ (edited_rows (origin_at xs row.origin.0).rows row ++ back xs row.origin.0)
    unfolding edited_rows
    edited_joined = between (row_if_any row)

    pub set_joined : (x : OriginData) → row.origin.0 < length xs → x.rows ≡ edited_rows (origin_at xs row.origin.0).rows row → rows_of (set xs row.origin.0 x) ≡ edited_rows (rows_of xs) row
    set_joined x inside is = set_parted xs row.origin.0 x inside ∙ ap (λ t. front xs row.origin.0 ++ (t ++ back xs row.origin.0)) is ∙ sym edited_joined

    pub amount_joined : amount_at (rows_of xs) row ≡ amount_at (origin_at xs row.origin.0).rows row
    unfolding amount_at
    amount_joined = ap (sum_by (λ (r : DemandRow). r.amount.0)) standing_joined

    pub was_joined : (was : ℕ) → IsWas (origin_at xs row.origin.0).rows row was → IsWas (rows_of xs) row was
    was_joined was is = record {
      standing_is = standing_joined ∙ is.standing_is;
      parted = parted_at xs row.origin.0 ∙ ap (λ t. front xs row.origin.0 ++ (t ++ back xs row.origin.0)) is.parted ∙ sym (between (row_if_any (with_amount row was)));
      amount = is.amount ∙ sym amount_joined;
      small = is.small;
    }

  -- whether some row leads from an origin to a destination
  pub any_joined : (o d : ℕ) → list_any (joins o d) (rows_of xs) ≡ list_any (λ r. r.destination == d) (origin_at xs o).rows
  any_joined o d =
      let f : list_any (joins o d) (front xs o) ≡ false = any_no (joins o d) (front xs o) (all_mono (λ r. r.origin.0 < o) (λ r. joins o d r ≡ false) (λ r less. grind (arith, nat_tests)) (front xs o) (front_before o)) in
      let b : list_any (joins o d) (back xs o) ≡ false = any_no (joins o d) (back xs o) (all_mono (λ r. o < r.origin.0) (λ r. joins o d r ≡ false) (λ r less. grind (arith, nat_tests)) (back xs o) (back_behind o)) in
      ap (list_any (joins o d)) (parted_at xs o) ∙ list_any-append (joins o d) (front xs o) ((origin_at xs o).rows ++ back xs o) ∙ ap (λ t. t || list_any (joins o d) ((origin_at xs o).rows ++ back xs o)) f
      ∙ list_any-append (joins o d) (origin_at xs o).rows (back xs o) ∙ ap (λ t. list_any (joins o d) (origin_at xs o).rows || t) b ∙ or_false (list_any (joins o d) (origin_at xs o).rows)
      ∙ any_own o d (origin_at xs o).rows (all_own o)
    where
      any_no : (p : DemandRow → Bool) (rows : List DemandRow) → AllByRecursion (λ r. p r ≡ false) rows → list_any p rows ≡ false
      any_no p [] all = refl
      any_no p (r ∷ rs) all = ap (λ b. b || list_any p rs) all.0 ∙ any_no p rs all.1

      or_false : (b : Bool) → (b || false) ≡ b
      or_false true = refl
      or_false false = refl

      any_own : (o d : ℕ) (rows : List DemandRow) → AllByRecursion (λ r. r.origin.0 ≡ o) rows → list_any (joins o d) rows ≡ list_any (λ r. r.destination == d) rows
      any_own o d [] all = refl
      any_own o d (r ∷ rs) all =
          let same : joins o d r ≡ (r.destination == d) = (let e : (r.origin.0 == o) ≡ true = grind (arith, nat_tests) in ap (λ b. b && (r.destination == d)) e) in
          ap (λ b. b || list_any (joins o d) rs) same ∙ ap (λ t. (r.destination == d) || t) (any_own o d rs all.1)
