-- Rows that are set one after the other, each of a node that has none for the destination.
use Rattle.std.proofs.Common.{◌≡◌, inl, inr, ℕ, zero, suc, ◌+◌, ◌<◌, ◌≤◌, ◌==◌, ◌&&◌, ◌||◌, nat_le, Bool, true, false, cond, List, [], ◌∷◌, ◌++◌, length, sum, filter, Some, None, is_none, Ok, Err, Result, refl, ap, sym, subst, arith, ◌∙◌, length-append, append-nil, append_assoc}
use Rattle.std.specs.List.{list_any}
use Rattle.std.specs.Map.{lookup}
use Rattle.std.specs.BTreeMap.{is_at}
use Rattle.std.specs.Ordering.{match_ordering}
use Rattle.std.specs.Ordering.{is_eq}
use Rattle.std.specs.declared.cmp.Ordering.{Ordering}
use Rattle.std.specs.declared.cmp.Ordering.TheVariants.{Less, Equal, Greater}
use Rattle.std.proofs.lemmas.Bool.Decides.{nat_tests}
use Rattle.std.proofs.lemmas.List.Folds.{list_any-append}
use Rattle.ltm_splits.specs.declared.keys.SplitKey.{SplitKey}
use Rattle.ltm_splits.specs.declared.keys.SplitFault.{SplitFault}
use Rattle.ltm_splits.specs.declared.keys.SplitFault.TheVariants.{BadSlots, ZeroWeight, TooManyRows}
use Rattle.ltm_splits.specs.Rows.{SplitRow, SplitsData, split_cmp, key_of, row_of, put_in, is_over, is_of, with_row, with_rows}
use Rattle.ltm_scenario.specs.Data.{ScenarioData, splits_of}
use Rattle.ltm_scenario.specs.Reads.{has_split}
use Rattle.ltm_scenario.specs.Build.{with_split, ◌>>=◌}
use Rattle.ltm_routes.specs.Split.{with_splits, lists_below}
use Rattle.ltm_routes.specs.Setting.{HasSet, AreTooMany}
use Rattle.ltm_search.proofs.Arriving.{decide}

-- ---- rows of a pair of node and destination, and others
same_key : (n d : ℕ) (k : SplitKey) → is_eq (split_cmp (key_of n d 0) k) ≡ (((k.node.0 == n) && (k.destination == d)) && (k.from == 0))
same_key n d k = grind (arith, nat_tests)

pub other_differs : (n d : ℕ) (row : SplitRow) → is_of n d row ≡ false → is_eq (split_cmp (key_of n d 0) row.0) ≡ false
other_differs n d row other = same_key n d row.0 ∙ ap (λ b. b && (row.0.from == 0)) other

pub none_of : (a b : Bool) → (a || b) ≡ false → (a ≡ false) × (b ≡ false)
none_of true b is = cc
none_of false b is = (refl, is)

fresh_none : (n d : ℕ) (rows : List SplitRow) → has_split rows n d ≡ false → row_of rows (key_of n d 0) ≡ None
fresh_none n d [] none = refl
fresh_none n d (x ∷ xs) none =
    let h = none_of (is_of n d x) (has_split xs n d) none in
    ap (λ b. cond b (Some x.1) (lookup (is_at (split_cmp (key_of n d 0))) xs)) (other_differs n d x h.0) ∙ fresh_none n d xs h.1

pub equal_is : (o : Ordering) → is_eq o ≡ false → o ≡ Equal → ⊥
equal_is o unequal is = differ (sym (ap is_eq is) ∙ unequal)
  where
    differ : true ≡ false → ⊥
    differ e = cc

put_count : (n d : ℕ) (w : List ℕ) (rows : List SplitRow) → has_split rows n d ≡ false → length (put_in rows (key_of n d 0) w) ≡ length rows + 1
put_count n d w [] none = refl
put_count n d w (x ∷ xs) none =
    let h = none_of (is_of n d x) (has_split xs n d) none in
    let rest = put_count n d w xs h.1 in
    (elim (split_cmp (key_of n d 0) x.0) as (λ o. split_cmp (key_of n d 0) x.0 ≡ o → length (match_ordering o ((key_of n d 0, w) ∷ x ∷ xs) ((x.0, w) ∷ xs) (x ∷ put_in xs (key_of n d 0) w)) ≡ length (x ∷ xs) + 1) [
      | Less ↦ λ e. omega arith
      | Equal ↦ λ e. absurd (equal_is (split_cmp (key_of n d 0) x.0) (other_differs n d x h.0) e)
      | Greater ↦ λ e. omega arith
    ]) refl

same_is : (n d : ℕ) (k k' : SplitKey) (w : List ℕ) → split_cmp k k' ≡ Equal → is_of n d (k', w) ≡ is_of n d (k, w)
same_is n d k k' w same = grind (arith, nat_tests)

-- the rows of another pair stay
pub put_others : (n d : ℕ) (key : SplitKey) (w : List ℕ) (rows : List SplitRow) → is_of n d (key, w) ≡ false → filter (is_of n d) (put_in rows key w) ≡ filter (is_of n d) rows
put_others n d key w [] other = ap (λ b. cond b ((key, w) ∷ []) []) other
put_others n d key w (x ∷ xs) other =
    (elim (split_cmp key x.0) as (λ o. split_cmp key x.0 ≡ o → filter (is_of n d) (match_ordering o ((key, w) ∷ x ∷ xs) ((x.0, w) ∷ xs) (x ∷ put_in xs key w)) ≡ filter (is_of n d) (x ∷ xs)) [
      | Less ↦ λ e. ap (λ b. cond b ((key, w) ∷ filter (is_of n d) (x ∷ xs)) (filter (is_of n d) (x ∷ xs))) other
      | Equal ↦ λ e.
          let no : is_of n d x ≡ false = same_is n d key x.0 w e ∙ other in
          ap (λ b. cond b ((x.0, w) ∷ filter (is_of n d) xs) (filter (is_of n d) xs)) no ∙ sym (ap (λ b. cond b (x ∷ filter (is_of n d) xs) (filter (is_of n d) xs)) no)
      | Greater ↦ λ e. ap (λ ys. cond (is_of n d x) (x ∷ ys) ys) (put_others n d key w xs other)
    ]) refl

-- what a row that was taken makes of the rows
row_taken : (d next : SplitsData) (key : SplitKey) (w : List ℕ) → with_row d key w ≡ Ok next → (next ≡ with_rows d (put_in d.rows key w)) × (is_over d key ≡ false)
row_taken d next key w is =
    (elim (nat_le d.slots key.from) as (λ b. cond b (Err BadSlots) (cond (sum w == 0) (Err ZeroWeight) (cond (is_over d key) (Err TooManyRows) (Ok (with_rows d (put_in d.rows key w))))) ≡ Ok next
    → (next ≡ with_rows d (put_in d.rows key w)) × (is_over d key ≡ false)) [
      | true ↦ λ e. cc
      | false ↦ elim (sum w == 0) as (λ b. cond b (Err ZeroWeight) (cond (is_over d key) (Err TooManyRows) (Ok (with_rows d (put_in d.rows key w)))) ≡ Ok next
          → (next ≡ with_rows d (put_in d.rows key w)) × (is_over d key ≡ false)) [
            | true ↦ λ e. cc
            | false ↦ elim (is_over d key) as (λ b. cond b (Err TooManyRows) (Ok (with_rows d (put_in d.rows key w))) ≡ Ok next → (next ≡ with_rows d (put_in d.rows key w)) × (b ≡ false)) [
              | true ↦ λ e. cc
              | false ↦ λ e. (sym (cc), refl)
            ]
          ]
    ]) is

-- a row that was refused, in a slot and with a weight, would be one too many
row_refused : (d : SplitsData) (key : SplitKey) (w : List ℕ) (fault : SplitFault) → with_row d key w ≡ Err fault → key.from < d.slots → 1 ≤ sum w → (d.most_rows ≤ length d.rows) × (fault ≡ TooManyRows)
row_refused d key w fault is slot some = go (nat_le d.slots key.from) (sum w == 0) (is_none (row_of d.rows key)) (nat_le d.most_rows (length d.rows)) is (grind (arith, nat_tests)) (grind (arith, nat_tests)) (λ e. grind (arith, nat_tests))
  where
    go : (a b c e : Bool) → cond a (Err BadSlots) (cond b (Err ZeroWeight) (cond (c && e) (Err TooManyRows) (Ok (with_rows d (put_in d.rows key w))))) ≡ Err fault → a ≡ false → b ≡ false → (e ≡ true → d.most_rows ≤ length d.rows)
        → (d.most_rows ≤ length d.rows) × (fault ≡ TooManyRows)
    go true b c e is x y most = cc
    go false true c e is x y most = cc
    go false false false e is x y most = cc
    go false false true true is x y most = (most refl, cc)
    go false false true false is x y most = cc

pub split_taken : (s next : ScenarioData) (key : SplitKey) (w : List ℕ) → with_split s key w ≡ Ok next → (next ≡ record s { splits = put_in s.splits key w }) × (is_over (splits_of s) key ≡ false)
split_taken s next key w is = go (with_row (splits_of s) key w) refl is
  where
    go : (r : Result SplitsData SplitFault) → with_row (splits_of s) key w ≡ r → (r >>= λ (n : SplitsData). Ok (record s { splits = n.rows })) ≡ Ok next
        → (next ≡ record s { splits = put_in s.splits key w }) × (is_over (splits_of s) key ≡ false)
    go (Ok n) made e =
        let t = row_taken (splits_of s) n key w made in
        let value : next ≡ record s { splits = n.rows } = cc in
        (value ∙ ap (λ (z : SplitsData). record s { splits = z.rows }) t.0, t.1)
    go (Err fault) made e = cc

pub split_refused : (s : ScenarioData) (key : SplitKey) (w : List ℕ) (fault : SplitFault) → with_split s key w ≡ Err fault → key.from < s.setup.slots → 1 ≤ sum w → (s.setup.most_split_rows ≤ length s.splits) × (fault ≡ TooManyRows)
split_refused s key w fault is slot some = go (with_row (splits_of s) key w) refl is
  where
    go : (r : Result SplitsData SplitFault) → with_row (splits_of s) key w ≡ r → (r >>= λ (n : SplitsData). Ok (record s { splits = n.rows })) ≡ Err fault → (s.setup.most_split_rows ≤ length s.splits) × (fault ≡ TooManyRows)
    go (Ok n) made e = cc
    go (Err f) made e = row_refused (splits_of s) key w fault (made ∙ (let same : f ≡ fault = cc in ap Err same)) slot some

room_left : (d : SplitsData) (key : SplitKey) → row_of d.rows key ≡ None → is_over d key ≡ false → length d.rows < d.most_rows
room_left d key none over =
    let room : nat_le d.most_rows (length d.rows) ≡ false = sym (ap (λ o. is_none o && nat_le d.most_rows (length d.rows)) none) ∙ over in
    grind (arith, nat_tests)

-- ---- rows set one after the other
pub one_set : (s next : ScenarioData) (d n : ℕ) (w : List ℕ) → has_split s.splits n d ≡ false → with_split s (key_of n d 0) w ≡ Ok next → HasSet s ((key_of n d 0, w) ∷ []) next
one_set s next d n w none is =
    let t = split_taken s next (key_of n d 0) w is in
    let rows : next.splits ≡ put_in s.splits (key_of n d 0) w = ap (λ (z : ScenarioData). z.splits) t.0 in
    let count : length next.splits ≡ length s.splits + 1 = ap length rows ∙ put_count n d w s.splits none in
    record {
      set = ap (λ (r : Result ScenarioData SplitFault). r >>= λ (z : ScenarioData). Ok z) is;
      rest = t.0 ∙ ap (λ xs. record s { splits = xs }) (sym rows);
      count = count;
      few = λ small. let room = room_left (splits_of s) (key_of n d 0) (fresh_none n d s.splits none) t.1 in omega arith;
    }

pub none_set : (s : ScenarioData) → HasSet s [] s
none_set s = record { set = refl; rest = refl; count = omega arith; few = λ small. small }

with_splits_append : (s : ScenarioData) (xs ys : List SplitRow) → with_splits s (xs ++ ys) ≡ (with_splits s xs >>= λ (z : ScenarioData). with_splits z ys)
with_splits_append s [] ys = refl
with_splits_append s (x ∷ xs) ys =
    elim (with_split s x.0 x.1) as (λ (r : Result ScenarioData SplitFault). (r >>= λ (n : ScenarioData). with_splits n (xs ++ ys)) ≡ ((r >>= λ (n : ScenarioData). with_splits n xs) >>= λ (z : ScenarioData). with_splits z ys)) [
      | Ok n ↦ with_splits_append n xs ys
      | Err fault ↦ refl
    ]

pub set_then : (s m k : ScenarioData) (xs ys : List SplitRow) → HasSet s xs m → HasSet m ys k → HasSet s (xs ++ ys) k
set_then s m k xs ys a b = record {
  set = with_splits_append s xs ys ∙ ap (λ (r : Result ScenarioData SplitFault). r >>= λ (z : ScenarioData). with_splits z ys) a.set ∙ b.set;
  rest = b.rest ∙ ap (λ (z : ScenarioData). record z { splits = k.splits }) a.rest;
  count = (let x = a.count in let y = b.count in let long = length-append xs ys in omega arith);
  few = λ small.
      let most : m.setup.most_split_rows ≡ s.setup.most_split_rows = ap (λ (z : ScenarioData). z.setup.most_split_rows) a.rest in
      let first = a.few small in
      let second = b.few (omega arith) in
      omega arith;
}

-- a row too many is one too many with rows before it, and with rows behind it
pub too_many_then : (s m : ScenarioData) (xs ys zs : List SplitRow) → HasSet s xs m → AreTooMany m ys → AreTooMany s ((xs ++ ys) ++ zs)
too_many_then s m xs ys zs a b = record {
  refused =
      with_splits_append s (xs ++ ys) zs
      ∙ ap (λ (r : Result ScenarioData SplitFault). r >>= λ (z : ScenarioData). with_splits z zs)
      (with_splits_append s xs ys ∙ ap (λ (r : Result ScenarioData SplitFault). r >>= λ (z : ScenarioData). with_splits z ys) a.set ∙ b.refused);
  over = (
      let most : m.setup.most_split_rows ≡ s.setup.most_split_rows = ap (λ (z : ScenarioData). z.setup.most_split_rows) a.rest in
      let x = a.count in
      let y = b.over in
      let long = length-append xs ys in
      let longer = length-append (xs ++ ys) zs in
      omega arith
      );
}

-- rows of other pairs leave those of a pair
pub others_stay : (rows : List SplitRow) (s next : ScenarioData) (n d : ℕ) → with_splits s rows ≡ Ok next → list_any (is_of n d) rows ≡ false → filter (is_of n d) next.splits ≡ filter (is_of n d) s.splits
others_stay [] s next n d set others = ap (λ (z : ScenarioData). filter (is_of n d) z.splits) (let same : next ≡ s = cc in same)
others_stay (x ∷ xs) s next n d set others = go (with_split s x.0 x.1) refl set (λ m e. others_stay xs m next n d e h.1)
  where
    h : (is_of n d x ≡ false) × (list_any (is_of n d) xs ≡ false)
    h = none_of (is_of n d x) (list_any (is_of n d) xs) others

    go : (r : Result ScenarioData SplitFault) → with_split s x.0 x.1 ≡ r → (r >>= λ (z : ScenarioData). with_splits z xs) ≡ Ok next
        → ((m : ScenarioData) → with_splits m xs ≡ Ok next → filter (is_of n d) next.splits ≡ filter (is_of n d) m.splits) → filter (is_of n d) next.splits ≡ filter (is_of n d) s.splits
    go (Ok m) made e rest =
        rest m e
        ∙ ap (λ (z : ScenarioData). filter (is_of n d) z.splits) (split_taken s m x.0 x.1 made).0
        ∙ put_others n d x.0 x.1 s.splits h.0
    go (Err fault) made e rest = cc

abbrev pub any_in : List SplitRow → Bool
any_in [] = false
any_in (x ∷ xs) = true

pub any_filter : (p : SplitRow → Bool) (rows : List SplitRow) → list_any p rows ≡ any_in (filter p rows)
any_filter p [] = refl
any_filter p (x ∷ xs) = elim (p x) as (λ b. (b || list_any p xs) ≡ any_in (cond b (x ∷ filter p xs) (filter p xs))) [
  | true ↦ refl
  | false ↦ any_filter p xs
]

-- nor has a pair a row then where it had none
pub splits_stay : (rows : List SplitRow) (s next : ScenarioData) (n d : ℕ) → with_splits s rows ≡ Ok next → list_any (is_of n d) rows ≡ false → has_split next.splits n d ≡ has_split s.splits n d
splits_stay rows s next n d set others = any_filter (is_of n d) next.splits ∙ ap any_in (others_stay rows s next n d set others) ∙ sym (any_filter (is_of n d) s.splits)

-- ---- lists end to end
pub lists_more : {A : Type 0} (f : ℕ → List A) (n : ℕ) → lists_below (n + 1) f ≡ lists_below n f ++ f n
lists_more f n = ap (λ k. lists_below k f) (let e : n + 1 ≡ suc n = omega arith in e)

-- what lies behind the list of a number
pub lists_behind : {A : Type 0} (f : ℕ → List A) (n m : ℕ) → n < m → (rest : List A) × (lists_below m f ≡ ((lists_below n f ++ f n) ++ rest))
lists_behind f n zero low = absurd (omega arith)
lists_behind f n (suc m) low = elim (decide n m) [
  | inl same ↦ ([], subst (λ k. lists_below (suc m) f ≡ ((lists_below k f ++ f k) ++ [])) (sym same) (sym (append-nil (lists_below m f ++ f m))))
  | inr other ↦
      let before = lists_behind f n m (omega arith) in
      (before.0 ++ f m, ap (λ xs. xs ++ f m) before.1 ∙ append_assoc (lists_below n f ++ f n) before.0 (f m))
]

pub lists_same : {A : Type 0} (f g : ℕ → List A) (n : ℕ) → ((i : ℕ) → i < n → f i ≡ g i) → lists_below n f ≡ lists_below n g
lists_same f g zero same = refl
lists_same f g (suc n) same = ap (λ xs. xs ++ f n) (lists_same f g n (λ i low. same i (omega arith))) ∙ ap (λ xs. lists_below n g ++ xs) (same n (omega arith))

pub lists_none : {A : Type 0} (p : A → Bool) (f : ℕ → List A) (n : ℕ) → ((i : ℕ) → i < n → list_any p (f i) ≡ false) → list_any p (lists_below n f) ≡ false
lists_none p f zero none = refl
lists_none p f (suc n) none = list_any-append p (lists_below n f) (f n) ∙ either (list_any p (lists_below n f)) (list_any p (f n)) (lists_none p f n (λ i low. none i (omega arith))) (none n (omega arith))
  where
    either : (a b : Bool) → a ≡ false → b ≡ false → (a || b) ≡ false
    either a b left right = ap (λ c. c || b) left ∙ right
