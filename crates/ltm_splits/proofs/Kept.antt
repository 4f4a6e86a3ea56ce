-- What an edit of the table is to the rows as callers see them.
use Rattle.std.proofs.Common.{◌≡◌, ℕ, ◌+◌, ◌<◌, Bool, true, false, if◌then◌else◌, Option, Some, None, List, [], length, get_or, set, inl, inr, refl, sym, ap, ◌∙◌, subst, arith}
use Rattle.std.specs.Option.{is_some}
use Rattle.std.specs.Ordering.{nat_cmp}
use Rattle.std.specs.BTreeMap.{insert_entry, is_at}
use Rattle.std.specs.Map.{lookup, remove_entry}
use Rattle.std.proofs.lemmas.Bool.{cases_lt}
use Rattle.std.proofs.lemmas.List.{get_or_past, set-get_or}
use Rattle.ltm_splits.specs.declared.keys.SplitKey.{SplitKey}
use Rattle.ltm_splits.specs.Rows.{SplitRow, SplitsData, IsOrdered, HaveWeights, key_of, with_rows, row_of, put_in, taken_out, put_back}
use Rattle.ltm_splits.specs.Weights.{AreWeights}
use Rattle.ltm_splits.specs.Table.{Entry, rows_of_all, entries_at, with_entries}
use Rattle.ltm_splits.proofs.Pairs.{put_all, take_all, row_all}
use Rattle.ltm_splits.proofs.Sorted.{split_total, there, weights_put, weights_take, ordered_put, ordered_take, back_new, back_old, length_put_new, length_put_old, length_take, take_absent}
use Rattle.ltm_splits.specs.Rows.{split_cmp}

abbrev pub data_of : ℕ → ℕ → List SplitRow → SplitsData
data_of slots most rows = record { slots = slots; most_rows = most; rows = rows }

value_of : {X : Type 0} (o : Option X) → true ≡ is_some o → (x : X) × (o ≡ Some x)
value_of None h = cc
value_of (Some x) h = (x, refl)

none_of : {X : Type 0} (o : Option X) → false ≡ is_some o → o ≡ None
none_of None h = refl
none_of (Some x) h = cc

module _ (table : List (List (List Entry))) (n d f : ℕ) where
  abbrev entries : List Entry
  entries = entries_at table n d

  abbrev found : Option (List ℕ)
  found = lookup (is_at (nat_cmp f)) entries

  -- a row is found only within the table
  within : (w : List ℕ) → found ≡ Some w → (n < length table) × (d < length (get_or table n []))
  within w is = elim (cases_lt n (length table)) [
    | inl node ↦ elim (cases_lt d (length (get_or table n []))) [
      | inl destination ↦ (node, destination)
      | inr past ↦ absurd (let no : None ≡ Some w = ap (lookup (is_at (nat_cmp f))) (sym (get_or_past (get_or table n []) d [] past)) ∙ is in cc)
    ]
    | inr past ↦ absurd (let no : None ≡ Some w = ap (λ pairs. lookup (is_at (nat_cmp f)) (get_or pairs d [])) (sym (get_or_past table n [] past)) ∙ is in cc)
  ]

  pub record Replaced (w : List ℕ) (stands : Bool) (new : List (List (List Entry))) : Type 0 where
    pub stood : stands ≡ is_some (row_of (rows_of_all table) (key_of n d f))
    pub ordered : IsOrdered (rows_of_all new)
    pub weighted : HaveWeights (rows_of_all new)
    pub count : length (rows_of_all new) ≡ length (rows_of_all table)
    pub rows : rows_of_all new ≡ (if stands then put_in (rows_of_all table) (key_of n d f) w else rows_of_all table)
    pub there_now : stands ≡ true → row_of (rows_of_all new) (key_of n d f) ≡ Some w
    pub back : stands ≡ true → put_back (rows_of_all new) (key_of n d f) (row_of (rows_of_all table) (key_of n d f)) ≡ rows_of_all table

  replaced_one : (w v : List ℕ) → found ≡ Some v → IsOrdered (rows_of_all table) → AreWeights w → HaveWeights (rows_of_all table) → Replaced w true (with_entries table n d (insert_entry nat_cmp entries f w))
  replaced_one w v is ordered one all =
      let old = rows_of_all table in
      let new = rows_of_all (with_entries table n d (insert_entry nat_cmp entries f w)) in
      let stood_there : row_of old (key_of n d f) ≡ Some v = row_all n d f table ∙ is in
      let rows : new ≡ put_in old (key_of n d f) w = put_all n d f w table (within v is).0 (within v is).1 in
      record {
        stood = sym (ap is_some stood_there);
        ordered = subst IsOrdered (sym rows) (ordered_put (key_of n d f) w old ordered);
        weighted = subst HaveWeights (sym rows) (weights_put (key_of n d f) w old one all);
        count = ap length rows ∙ length_put_old split_cmp split_total (key_of n d f) w v old ordered stood_there;
        rows = rows;
        there_now = λ _. ap (λ l. row_of l (key_of n d f)) rows ∙ there (key_of n d f) w old;
        back = λ _. ap (λ l. put_back l (key_of n d f) (row_of old (key_of n d f))) rows ∙ back_old (key_of n d f) w v old ordered stood_there;
      }

  pub replaced : (w : List ℕ) (stands : Bool) (new : List (List (List Entry))) → stands ≡ is_some found →
      new ≡ (if stands then with_entries table n d (insert_entry nat_cmp entries f w) else table) → IsOrdered (rows_of_all table) → AreWeights w → HaveWeights (rows_of_all table) → Replaced w stands new
  replaced w true new stood is ordered heavy all =
      let one = value_of found stood in
      subst (Replaced w true) (sym is) (replaced_one w one.0 one.1 ordered heavy all)
  replaced w false new stood is ordered heavy all =
      subst (Replaced w false) (sym is) (record {
        stood = stood ∙ sym (ap is_some (row_all n d f table));
        ordered = ordered;
        weighted = all;
        count = refl;
        rows = refl;
        there_now = λ no. cc;
        back = λ no. cc;
      })

  pub record Removed (stands : Bool) (new : List (List (List Entry))) : Type 0 where
    pub ordered : IsOrdered (rows_of_all new)
    pub weighted : HaveWeights (rows_of_all new)
    pub count : length (rows_of_all new) + (if stands then 1 else 0) ≡ length (rows_of_all table)
    pub rows : rows_of_all new ≡ taken_out (rows_of_all table) (key_of n d f)

  removed_one : (v : List ℕ) → found ≡ Some v → IsOrdered (rows_of_all table) → HaveWeights (rows_of_all table) → Removed true (with_entries table n d (remove_entry (is_at (nat_cmp f)) entries))
  removed_one v is ordered all =
      let old = rows_of_all table in
      let new = rows_of_all (with_entries table n d (remove_entry (is_at (nat_cmp f)) entries)) in
      let stood_there : row_of old (key_of n d f) ≡ Some v = row_all n d f table ∙ is in
      let rows : new ≡ taken_out old (key_of n d f) = take_all n d f table (within v is).0 (within v is).1 in
      record {
        ordered = subst IsOrdered (sym rows) (ordered_take (key_of n d f) old ordered);
        weighted = subst HaveWeights (sym rows) (weights_take (key_of n d f) old all);
        count = ap (λ l. length l + 1) rows ∙ length_take split_cmp (is_at (split_cmp (key_of n d f))) v old stood_there;
        rows = rows;
      }

  removed_none : found ≡ None → IsOrdered (rows_of_all table) → HaveWeights (rows_of_all table) → Removed false (with_entries table n d (remove_entry (is_at (nat_cmp f)) entries))
  removed_none is ordered all =
      let same : with_entries table n d (remove_entry (is_at (nat_cmp f)) entries) ≡ table =
      ap (with_entries table n d) (take_absent nat_cmp (is_at (nat_cmp f)) entries is) ∙ ap (set table n) (set-get_or (get_or table n []) d []) ∙ set-get_or table n [] in
      let absent : row_of (rows_of_all table) (key_of n d f) ≡ None = row_all n d f table ∙ is in
      subst (Removed false) (sym same) (record {
        ordered = ordered;
        weighted = all;
        count = omega arith;
        rows = sym (take_absent split_cmp (is_at (split_cmp (key_of n d f))) (rows_of_all table) absent);
      })

  pub removed : (stands : Bool) (new : List (List (List Entry))) → stands ≡ is_some found →
      new ≡ with_entries table n d (remove_entry (is_at (nat_cmp f)) entries) → IsOrdered (rows_of_all table) → HaveWeights (rows_of_all table) → Removed stands new
  removed true new stood is ordered all = let one = value_of found stood in subst (Removed true) (sym is) (removed_one one.0 one.1 ordered all)
  removed false new stood is ordered all = subst (Removed false) (sym is) (removed_none (none_of found stood) ordered all)

  pub record Added (w : List ℕ) (new : List (List (List Entry))) : Type 0 where
    pub ordered : IsOrdered (rows_of_all new)
    pub weighted : HaveWeights (rows_of_all new)
    pub count : length (rows_of_all new) ≡ length (rows_of_all table) + 1
    pub rows : rows_of_all new ≡ put_in (rows_of_all table) (key_of n d f) w
    pub there_now : row_of (rows_of_all new) (key_of n d f) ≡ Some w
    pub back : put_back (rows_of_all new) (key_of n d f) (row_of (rows_of_all table) (key_of n d f)) ≡ rows_of_all table

  -- room was made first, which changes no row
  pub added : (w : List ℕ) (roomy new : List (List (List Entry))) → n < length roomy → d < length (get_or roomy n []) → rows_of_all roomy ≡ rows_of_all table →
      row_of (rows_of_all table) (key_of n d f) ≡ None → new ≡ with_entries roomy n d (insert_entry nat_cmp (entries_at roomy n d) f w) → IsOrdered (rows_of_all table) → AreWeights w → HaveWeights (rows_of_all table) → Added w new
  added w roomy new node destination same none is ordered heavy all =
      let old = rows_of_all table in
      let rows : rows_of_all new ≡ put_in old (key_of n d f) w = ap rows_of_all is ∙ put_all n d f w roomy node destination ∙ ap (λ l. put_in l (key_of n d f) w) same in
      record {
        ordered = subst IsOrdered (sym rows) (ordered_put (key_of n d f) w old ordered);
        weighted = subst HaveWeights (sym rows) (weights_put (key_of n d f) w old heavy all);
        count = ap length rows ∙ length_put_new split_cmp (key_of n d f) w old none;
        rows = rows;
        there_now = ap (λ l. row_of l (key_of n d f)) rows ∙ there (key_of n d f) w old;
        back = ap (λ l. put_back l (key_of n d f) (row_of old (key_of n d f))) rows ∙ back_new (key_of n d f) w old none;
      }

pub room_keeps_none : (table roomy : List (List (List Entry))) (n d f : ℕ) → entries_at roomy n d ≡ entries_at table n d → row_of (rows_of_all table) (key_of n d f) ≡ None → lookup (is_at (nat_cmp f)) (entries_at roomy n d) ≡ None
room_keeps_none table roomy n d f same none = ap (lookup (is_at (nat_cmp f))) same ∙ sym (row_all n d f table) ∙ none

-- a table with other rows, where the rows in it are put in or not
pub rows_clause : (slots most : ℕ) (old new : List SplitRow) (now : SplitsData) (key : SplitKey) (w : List ℕ) (stands : Bool) → new ≡ (if stands then put_in old key w else old) → data_of slots most old ≡ now →
    data_of slots most new ≡ (if stands then with_rows now (put_in now.rows key w) else now)
rows_clause slots most old new now key w true is shown = ap (data_of slots most) is ∙ ap (λ (v : SplitsData). with_rows v (put_in v.rows key w)) shown
rows_clause slots most old new now key w false is shown = ap (data_of slots most) is ∙ shown
