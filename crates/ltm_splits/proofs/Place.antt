-- What a search finds in the list of a pair, and what is read and edited at that place.
use Rattle.std.proofs.Common.{◌≡◌, ℕ, ◌+◌, ◌-◌, ◌<◌, ◌≤◌, zero, suc, true, false, cond, List, [], ◌∷◌, length, get_or, set, take, Option, Some, None, Result, Ok, Err, IfOk, IfErr, leb, refl, sym, ap, ◌∙◌, subst, arith}
use Rattle.std.specs.Option.{option_map}
use Rattle.std.specs.List.{insert, remove, filter, last_or}
use Rattle.std.specs.Map.{lookup, remove_entry}
use Rattle.std.specs.BTreeMap.{insert_entry, is_at}
use Rattle.std.specs.List.Sorted.{IsSearchInRange, IsBinarySearchResult, IsNonDecreasingBy, IsPartitionedBy, IsPartitionPoint}
use Rattle.std.specs.declared.cmp.Ordering.TheVariants.{Less, Equal, Greater}
use Rattle.std.specs.Ordering.{nat_cmp, ordering_index, match_ordering, is_eq}
use Rattle.std.proofs.lemmas.Cmp.{ranked}
use Rattle.std.proofs.lemmas.List.Sorted.{IsNonDecreasingBy-from_default, IsPartitionedBy-leb}
use Rattle.std.proofs.lemmas.List.Edits.{length-insert, get_or-insert_below, get_or-insert_at, get_or-insert_above, length-remove, get_or-remove_below, get_or-remove_above}
use Rattle.std.proofs.lemmas.Bool.Decides.{nat_tests}
use Rattle.std.proofs.lemmas.Grind.{common_steps}
use Rattle.ltm_splits.specs.Table.{Entry}
use Rattle.ltm_splits.specs.Entries.{start_at, IsRising, IsAt, IsGap, IsCount, entry_in_force}

-- what one comparison says
cmp_equal : (f e : ℕ) → e ≡ f → nat_cmp f e ≡ Equal
cmp_equal f e h = grind (arith, nat_tests)

cmp_greater : (f e : ℕ) → e < f → nat_cmp f e ≡ Greater
cmp_greater f e h = grind (arith, nat_tests)

cmp_less : (f e : ℕ) → f < e → nat_cmp f e ≡ Less
cmp_less f e h = grind (arith, nat_tests)

module _ (f : ℕ) where
  -- all entries before the place begin earlier
  abbrev EarlierBefore : List Entry → ℕ → Type 0
  EarlierBefore es i = (j : ℕ) → j < i → start_at es j < f

  tail : (e : Entry) (es : List Entry) (i : ℕ) → EarlierBefore (e ∷ es) (suc i) → EarlierBefore es i
  tail e es i h j l = h (suc j) (omega arith)

  at_tail : (e : Entry) (es : List Entry) (i : ℕ) → IsAt (e ∷ es) f (suc i) → IsAt es f i
  at_tail e es i h = record { in_range = omega (arith, h.in_range); begins_there = h.begins_there }

  lookup_there : (es : List Entry) (i : ℕ) → IsAt es f i → EarlierBefore es i → lookup (is_at (nat_cmp f)) es ≡ Some (get_or es i (0, [])).1
  lookup_there [] i at before = absurd (omega (arith, at.in_range))
  lookup_there (e ∷ es) zero at before = ap (λ r. cond (is_eq r) (Some e.1) (lookup (is_at (nat_cmp f)) es)) (cmp_equal f e.0 at.begins_there)
  lookup_there (e ∷ es) (suc i) at before = ap (λ r. cond (is_eq r) (Some e.1) (lookup (is_at (nat_cmp f)) es)) (cmp_greater f e.0 (before 0 (omega arith))) ∙ lookup_there es i (at_tail e es i at) (tail e es i before)

  put_there : (w : List ℕ) (es : List Entry) (i : ℕ) → IsAt es f i → EarlierBefore es i → set es i (f, w) ≡ insert_entry nat_cmp es f w
  put_there w [] i at before = absurd (omega (arith, at.in_range))
  put_there w (e ∷ es) zero at before =
      ap (λ k. (k, w) ∷ es) (sym at.begins_there)
      ∙ ap (λ r. match_ordering r ((f, w) ∷ e ∷ es) ((e.0, w) ∷ es) (e ∷ insert_entry nat_cmp es f w)) (sym (cmp_equal f e.0 at.begins_there))
  put_there w (e ∷ es) (suc i) at before =
      ap (λ l. e ∷ l) (put_there w es i (at_tail e es i at) (tail e es i before))
      ∙ ap (λ r. match_ordering r ((f, w) ∷ e ∷ es) ((e.0, w) ∷ es) (e ∷ insert_entry nat_cmp es f w)) (sym (cmp_greater f e.0 (before 0 (omega arith))))

  take_there : (es : List Entry) (i : ℕ) → IsAt es f i → EarlierBefore es i → remove es i ≡ remove_entry (is_at (nat_cmp f)) es
  take_there [] i at before = absurd (omega (arith, at.in_range))
  take_there (e ∷ es) zero at before = ap (λ r. cond (is_eq r) es (e ∷ remove_entry (is_at (nat_cmp f)) es)) (sym (cmp_equal f e.0 at.begins_there))
  take_there (e ∷ es) (suc i) at before =
      ap (λ l. e ∷ l) (take_there es i (at_tail e es i at) (tail e es i before))
      ∙ ap (λ r. cond (is_eq r) es (e ∷ remove_entry (is_at (nat_cmp f)) es)) (sym (cmp_greater f e.0 (before 0 (omega arith))))

  gap_tail : (e : Entry) (es : List Entry) (i : ℕ) → IsGap (e ∷ es) f (suc i) → IsGap es f i
  gap_tail e es i h = record { in_range = omega (arith, h.in_range); earlier_before = λ j l. h.earlier_before (suc j) (omega arith); later_after = λ j a b. h.later_after (suc j) (omega arith) (omega arith) }

  gap_rest : (e : Entry) (es : List Entry) → IsGap (e ∷ es) f 0 → IsGap es f 0
  gap_rest e es h = record { in_range = omega arith; earlier_before = λ j l. absurd (omega arith); later_after = λ j a b. h.later_after (suc j) (omega arith) (omega arith) }

  pub lookup_gap : (es : List Entry) (i : ℕ) → IsGap es f i → lookup (is_at (nat_cmp f)) es ≡ None
  lookup_gap [] i gap = refl
  lookup_gap (e ∷ es) zero gap = ap (λ r. cond (is_eq r) (Some e.1) (lookup (is_at (nat_cmp f)) es)) (cmp_less f e.0 (gap.later_after 0 (omega arith) (omega arith))) ∙ lookup_gap es 0 (gap_rest e es gap)
  lookup_gap (e ∷ es) (suc i) gap = ap (λ r. cond (is_eq r) (Some e.1) (lookup (is_at (nat_cmp f)) es)) (cmp_greater f e.0 (gap.earlier_before 0 (omega arith))) ∙ lookup_gap es i (gap_tail e es i gap)

  pub take_gap : (es : List Entry) (i : ℕ) → IsGap es f i → remove_entry (is_at (nat_cmp f)) es ≡ es
  take_gap [] i gap = refl
  take_gap (e ∷ es) zero gap = ap (λ r. cond (is_eq r) es (e ∷ remove_entry (is_at (nat_cmp f)) es)) (cmp_less f e.0 (gap.later_after 0 (omega arith) (omega arith))) ∙ ap (λ l. e ∷ l) (take_gap es 0 (gap_rest e es gap))
  take_gap (e ∷ es) (suc i) gap = ap (λ r. cond (is_eq r) es (e ∷ remove_entry (is_at (nat_cmp f)) es)) (cmp_greater f e.0 (gap.earlier_before 0 (omega arith))) ∙ ap (λ l. e ∷ l) (take_gap es i (gap_tail e es i gap))

  pub put_gap : (w : List ℕ) (es : List Entry) (i : ℕ) → IsGap es f i → insert es i (f, w) ≡ insert_entry nat_cmp es f w
  put_gap w [] zero gap = refl
  put_gap w [] (suc i) gap = refl
  put_gap w (e ∷ es) zero gap = ap (λ r. match_ordering r ((f, w) ∷ e ∷ es) ((e.0, w) ∷ es) (e ∷ insert_entry nat_cmp es f w)) (sym (cmp_less f e.0 (gap.later_after 0 (omega arith) (omega arith))))
  put_gap w (e ∷ es) (suc i) gap =
      ap (λ l. e ∷ l) (put_gap w es i (gap_tail e es i gap))
      ∙ ap (λ r. match_ordering r ((f, w) ∷ e ∷ es) ((e.0, w) ∷ es) (e ∷ insert_entry nat_cmp es f w)) (sym (cmp_greater f e.0 (gap.earlier_before 0 (omega arith))))

module _ (es : List Entry) (rising : IsRising es) (f : ℕ) where
  -- the comparisons with a slot rise along the list, as a binary search asks
  comparisons_rise : IsNonDecreasingBy (λ e. ordering_index (nat_cmp e.0 f)) es
  comparisons_rise = IsNonDecreasingBy-from_default (λ e. ordering_index (nat_cmp e.0 f)) es (0, []) (λ i j le in_range.
      let starts_rise : start_at es i ≤ start_at es j = grind (arith, rising i j, λ (same : i ≡ j). ap (start_at es) same) in
      grind (arith, nat_tests))

  -- a binary search by first slot ends at the entry, or at the gap for it
  pub searched : (r : Result ℕ ℕ) → IsSearchInRange r (length es) → IsBinarySearchResult (λ e. nat_cmp e.0 f) es r → record { found : IfOk r (IsAt es f); gap : IfErr r (IsGap es f) }
  searched (Ok at) in_range equal = record { found = record { in_range = in_range; begins_there = ranked _ f _ (sym (equal (0, []))) }; gap = tt }
  searched (Err at) in_range parted = record {
    found = tt;
    gap = record {
      in_range = in_range;
      earlier_before = λ j lt. ranked _ f _ (sym ((parted comparisons_rise).0 j (0, []) (omega arith) lt));
      later_after = λ j le lt. ranked _ f _ (sym ((parted comparisons_rise).1 j (0, []) le lt));
    };
  }

  -- no entry before one that begins at the slot begins as late
  earlier : (i : ℕ) → IsAt es f i → (j : ℕ) → j < i → start_at es j < f
  earlier i at j lt = omega (arith, rising j i lt at.in_range, at.begins_there)

  pub lookup_at : (i : ℕ) → IsAt es f i → lookup (is_at (nat_cmp f)) es ≡ Some (get_or es i (0, [])).1
  lookup_at i at = lookup_there f es i at (earlier i at)

  pub put_at : (w : List ℕ) (i : ℕ) → IsAt es f i → set es i (f, w) ≡ insert_entry nat_cmp es f w
  put_at w i at = put_there f w es i at (earlier i at)

  pub take_at : (i : ℕ) → IsAt es f i → remove es i ≡ remove_entry (is_at (nat_cmp f)) es
  take_at i at = take_there f es i at (earlier i at)

  -- the edits keep the order
  pub rising_set : (w : List ℕ) (at : ℕ) → IsAt es f at → IsRising (set es at (f, w))
  rising_set w at is i j lt in_range = grind (arith, common_steps, rising i j, rising i at, rising at j, is.in_range, is.begins_there)

  pub rising_insert : (w : List ℕ) (at : ℕ) → IsGap es f at → IsRising (insert es at (f, w))
  rising_insert w at gap i j lt in_range =
      let new = insert es at (f, w) in
      let key = λ (e : Entry). e.0 in
      let length_new = length-insert es at (f, w) gap.in_range in
      let below : (i : ℕ) → i < at → start_at new i ≡ start_at es i = λ i below. ap key (get_or-insert_below es at (f, w) (0, []) i below gap.in_range) in
      let here : (i : ℕ) → i ≡ at → start_at new i ≡ f = λ i here. rw here (ap key (get_or-insert_at es at (f, w) (0, []) gap.in_range)) in
      let above : (i : ℕ) → at < i → start_at new i ≡ start_at es (i - 1) = λ i above. subst (λ q. start_at new q ≡ start_at es (i - 1)) {x = i - 1 + 1} (omega arith) (ap key (get_or-insert_above es at (f, w) (0, []) (i - 1) (omega arith) gap.in_range)) in
      grind (arith, below i, here i, above i, below j, here j, above j, rising i j, rising i (j - 1), rising (i - 1) (j - 1), gap.earlier_before i, gap.later_after (j - 1))

  pub rising_remove : (at : ℕ) → at < length es → IsRising (remove es at)
  rising_remove at in_es i j lt in_range =
      let new = remove es at in
      let key = λ (e : Entry). e.0 in
      let length_new = length-remove es at in_es in
      let below : (i : ℕ) → i < at → start_at new i ≡ start_at es i = λ i below. ap key (get_or-remove_below es at (0, []) i below in_es) in
      let above : (i : ℕ) → at ≤ i → start_at new i ≡ start_at es (i + 1) = λ i above. ap key (get_or-remove_above es at (0, []) i above in_es) in
      grind (arith, below i, above i, below j, above j, rising i j, rising i (j + 1), rising (i + 1) (j + 1))

  -- no entry that begins later comes before one that does not
  pub parted : IsPartitionedBy (λ e. leb e.0 f) es
  parted = IsPartitionedBy-leb (λ (e : Entry). e.0) es f (IsNonDecreasingBy-from_default (λ e. e.0) es (0, []) (λ i j le in_range.
      grind (arith, rising i j, λ (same : i ≡ j). ap (start_at es) same)))

pub counted : (es : List Entry) (f i : ℕ) → i ≤ length es → IsPartitionPoint (λ e. leb e.0 f ≡ true) (λ e. leb e.0 f ≡ false) es i → IsCount es f i
counted es f i in_range point = record {
  in_range = in_range;
  begun_before = λ j lt. let one = point.0 j (0, []) (omega arith) lt in grind (arith, nat_tests);
  later_after = λ j le lt. let one = point.1 j (0, []) le lt in grind (arith, nat_tests);
}

count_tail : (e : Entry) (es : List Entry) (f i : ℕ) → IsCount (e ∷ es) f (suc i) → IsCount es f i
count_tail e es f i h = record { in_range = omega (arith, h.in_range); begun_before = λ j l. h.begun_before (suc j) (omega arith); later_after = λ j a b. h.later_after (suc j) (omega arith) (omega arith) }

count_rest : (e : Entry) (es : List Entry) (f : ℕ) → IsCount (e ∷ es) f 0 → IsCount es f 0
count_rest e es f h = record { in_range = omega arith; begun_before = λ j l. absurd (omega arith); later_after = λ j a b. h.later_after (suc j) (omega arith) (omega arith) }

leb_true : (a b : ℕ) → a ≤ b → leb a b ≡ true
leb_true a b h = grind (arith, nat_tests)

leb_false : (a b : ℕ) → b < a → leb a b ≡ false
leb_false a b h = grind (arith, nat_tests)

-- the entries that have begun are the first ones
filter_count : (f : ℕ) (es : List Entry) (i : ℕ) → IsCount es f i → filter (λ e. leb e.0 f) es ≡ take i es
filter_count f [] zero count = refl
filter_count f [] (suc i) count = refl
filter_count f (e ∷ es) zero count =
    ap (λ b. cond b (e ∷ filter (λ e. leb e.0 f) es) (filter (λ e. leb e.0 f) es)) (leb_false e.0 f (count.later_after 0 (omega arith) (omega arith))) ∙ filter_count f es 0 (count_rest e es f count)
filter_count f (e ∷ es) (suc i) count =
    ap (λ b. cond b (e ∷ filter (λ e. leb e.0 f) es) (filter (λ e. leb e.0 f) es)) (leb_true e.0 f (count.begun_before 0 (omega arith))) ∙ ap (λ l. e ∷ l) (filter_count f es i (count_tail e es f i count))

last_take : (o : Option Entry) (d : Entry) (es : List Entry) (i : ℕ) → i < length es → last_or o (take (suc i) es) ≡ Some (get_or es i d)
last_take o d [] i l = absurd (omega arith)
last_take o d (e ∷ es) zero l = refl
last_take o d (e ∷ es) (suc i) l = last_take (Some e) d es i (omega arith)

pub force_none : (f : ℕ) (es : List Entry) → IsCount es f 0 → entry_in_force es f ≡ None
force_none f es count = ap (λ l. option_map (λ (e : Entry). e.1) (last_or None l)) (filter_count f es 0 count)

force_some : (f : ℕ) (es : List Entry) (i : ℕ) → IsCount es f (suc i) → entry_in_force es f ≡ Some (get_or es i (0, [])).1
force_some f es i count = ap (λ l. option_map (λ (e : Entry). e.1) (last_or None l)) (filter_count f es (suc i) count) ∙ ap (option_map (λ (e : Entry). e.1)) (last_take None (0, []) es i (omega (arith, count.in_range)))

pub force_last : (f : ℕ) (es : List Entry) (count : ℕ) → 0 < count → IsCount es f count → entry_in_force es f ≡ Some (get_or es (count - 1) (0, [])).1
force_last f es zero some count = absurd (omega arith)
force_last f es (suc i) some count = force_some f es i count ∙ ap (λ n. Some (get_or es n (0, [])).1) (omega arith)

-- the row in force stays while no further entry begins
module _ (es : List Entry) (f u n : ℕ) (count : IsCount es f n) (later : f ≤ u) where
  still_counted : IsRising es → (n < length es → u < start_at es n) → IsCount es u n
  still_counted rising next = record {
    in_range = count.in_range;
    begun_before = λ j lt. let one = count.begun_before j lt in omega (arith, one);
    later_after = λ j le lt. let here = next (omega arith) in grind (arith, here, rising n j, λ (same : n ≡ j). ap (start_at es) same);
  }

pub force_stays : (es : List Entry) (f u n : ℕ) → IsCount es f n → IsCount es u n → entry_in_force es u ≡ entry_in_force es f
force_stays es f u zero one other = force_none u es other ∙ sym (force_none f es one)
force_stays es f u (suc n) one other = force_some u es n other ∙ sym (force_some f es n one)

pub force_until : (es : List Entry) (f u n : ℕ) → IsRising es → IsCount es f n → f ≤ u → (n < length es → u < start_at es n) → entry_in_force es u ≡ entry_in_force es f
force_until es f u n rising count later next = force_stays es f u n count (still_counted es f u n count later rising next)
