-- What stays where limits are written.
use Rattle.std.proofs.Common.{◌≡◌, ◌≢◌, ℕ, ◌+◌, ◌-◌, ◌<◌, ◌≤◌, ◌⊎◌, List, [], ◌∷◌, ◌++◌, length, map, replicate, get_or, slice_set, arith, inl, inr, refl, ap, sym, ◌∙◌, length-append, get_or-set_same, get_or-set_other}
use Rattle.std.proofs.lemmas.List.{length-map, length-replicate, get_or-map, get_or_append_left, get_or-append_right, get_or-replicate}
use Rattle.std.proofs.lemmas.List.Elements.{All-nil, All-push, All-set}
use Rattle.std.proofs.lemmas.Bool.{cases_eq}
use Rattle.std.proofs.Math.ListN.{length-set}
use Rattle.ltm_limits.specs.Limits.{limit_at, list_with_values, with_values, with_limit, with_limits_of_link, row_over, limits_over, never_set, AreWhole}
use Rattle.ltm_limits.specs.Laws.{LimitsAreSet, LimitsAreLengthened, LimitsStayWhole}
use Rattle.ltm_limits.proofs.Rows.{written_before, written_inside, written_behind, length-written}

-- ---- limits that are set
-- the row of the link
row_set : (limits : List (List ℕ)) (link : ℕ) (row : List ℕ) → link < length limits → get_or (slice_set limits link row) link [] ≡ row
row_set limits link row there = get_or-set_same limits link row [] there

set_here : (limits : List (List ℕ)) (link from to limit slot : ℕ) → link < length limits → to ≤ length (get_or limits link []) → from ≤ slot → slot < to → limit_at (with_limit limits link from to limit) link slot ≡ limit
set_here limits link from to limit slot there fits least below =
    let values : List ℕ = replicate (to - from) limit in
    let row : List ℕ = get_or limits link [] in
    let long : length values ≡ to - from = length-replicate (to - from) limit in
    ap (λ (xs : List ℕ). get_or xs slot 0) (row_set limits link (list_with_values from values row) there)
    ∙ written_inside from values row slot (omega arith) least (omega arith)
    ∙ get_or-replicate (to - from) (slot - from) limit 0 (omega arith)

set_elsewhere : (limits : List (List ℕ)) (link from to limit other slot : ℕ) → link < length limits → from ≤ to → to ≤ length (get_or limits link []) → (other ≢ link) ⊎ ((slot < from) ⊎ (to ≤ slot)) → limit_at (with_limit limits link from to limit) other slot ≡ limit_at limits other slot
set_elsewhere limits link from to limit other slot there order fits apart =
    let values : List ℕ = replicate (to - from) limit in
    let row : List ℕ = get_or limits link [] in
    let long : length values ≡ to - from = length-replicate (to - from) limit in
    elim (cases_eq other link) [
      | inr differ ↦ ap (λ (xs : List ℕ). get_or xs slot 0) (get_or-set_other limits link other (list_with_values from values row) [] differ)
      | inl same ↦
          ap (λ l. limit_at (with_limit limits link from to limit) l slot) same
          ∙ ap (λ (xs : List ℕ). get_or xs slot 0) (row_set limits link (list_with_values from values row) there)
          ∙ elim apart [
            | inl differ ↦ absurd (differ same)
            | inr slots ↦ elim slots [
              | inl before ↦ written_before from values row slot (omega arith) before
              | inr behind ↦ written_behind from values row slot (omega arith) (omega arith)
            ]
          ]
          ∙ ap (λ l. limit_at limits l slot) (sym same)
    ]

pub limits_set : LimitsAreSet
limits_set = record { here = set_here; elsewhere = set_elsewhere }

-- ---- a longer horizon
row_longer : (limits : List (List ℕ)) (slots link : ℕ) → link < length limits → get_or (limits_over limits slots) link [] ≡ row_over slots (get_or limits link [])
row_longer limits slots link there = get_or-map (row_over slots) limits link [] [] there

stays_before : (limits : List (List ℕ)) (slots link slot : ℕ) → link < length limits → slot < length (get_or limits link []) → limit_at (limits_over limits slots) link slot ≡ limit_at limits link slot
stays_before limits slots link slot there before =
    let row : List ℕ = get_or limits link [] in
    ap (λ (xs : List ℕ). get_or xs slot 0) (row_longer limits slots link there)
    ∙ get_or_append_left row (replicate (slots - length row) never_set) 0 slot before

none_past : (limits : List (List ℕ)) (slots link slot : ℕ) → link < length limits → length (get_or limits link []) ≤ slot → slot < slots → limit_at (limits_over limits slots) link slot ≡ never_set
none_past limits slots link slot there past within =
    let row : List ℕ = get_or limits link [] in
    ap (λ (xs : List ℕ). get_or xs slot 0) (row_longer limits slots link there)
    ∙ get_or-append_right row (replicate (slots - length row) never_set) (length row) slot 0 refl past
    ∙ get_or-replicate (slots - length row) (slot - length row) never_set 0 (omega (arith, past, within))

pub limits_longer : LimitsAreLengthened
limits_longer = record { here = stays_before; past = none_past }

-- ---- limits for each link and slot
whole_longer : (limits : List (List ℕ)) (links slots more : ℕ) → slots ≤ more → AreWhole limits links slots → AreWhole (limits_over limits more) links more
whole_longer limits links slots more longer whole = record {
  for_each = length-map limits (row_over more) ∙ whole.for_each;
  long = λ k d below.
      let there : k < length limits = omega (arith, below, length-map limits (row_over more)) in
      let row : List ℕ = get_or limits k d in
      let long : length row ≡ slots = whole.long k d there in
      ap length (get_or-map (row_over more) limits k d d there)
      ∙ omega (arith, long, longer, length-append row (replicate (more - length row) never_set), length-replicate (more - length row) never_set);
}

whole_more : (limits : List (List ℕ)) (links slots : ℕ) → AreWhole limits links slots → AreWhole (with_limits_of_link limits slots) (links + 1) slots
whole_more limits links slots whole = record {
  for_each = length-append limits (replicate slots never_set ∷ []) ∙ ap (λ n. n + 1) whole.for_each;
  long = All-push (λ row. length row ≡ slots) limits (replicate slots never_set) whole.long (length-replicate slots never_set);
}

whole_written : (limits : List (List ℕ)) (links slots link from : ℕ) (values : List ℕ) → link < links → from + length values ≤ slots → AreWhole limits links slots → AreWhole (with_values limits link from values) links slots
whole_written limits links slots link from values there fits whole =
    let row : List ℕ = get_or limits link [] in
    let long : length row ≡ slots = whole.long link [] (omega (arith, whole.for_each)) in
    record {
      for_each = length-set limits link (list_with_values from values row) ∙ whole.for_each;
      long = All-set (λ r. length r ≡ slots) limits link (list_with_values from values row) (length-written from values row (omega arith) ∙ long) whole.long;
    }

pub limits_whole : LimitsStayWhole
limits_whole = record { none = λ slots. record { for_each = refl; long = All-nil _ }; more = whole_more; longer = whole_longer; written = whole_written }
