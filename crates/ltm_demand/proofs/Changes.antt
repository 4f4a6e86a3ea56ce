-- A row is set in the rows of its origin.
use Rattle.std.proofs.Common.{◌≡◌, ◌==◌, ◌&&◌, ℕ, ◌+◌, ◌-◌, ◌<◌, ◌≤◌, Bool, true, false, nat_lt, nat_le, List, length, get_or, set, All, arith, refl, ap, sym, subst, ◌∙◌, ◌++◌, inl, inr}
use Rattle.std.proofs.lemmas.Bool.{cases_lt}
use Rattle.std.proofs.lemmas.Bool.Decides.{nat_tests}
use Rattle.std.proofs.lemmas.List.{get_or-set_same, get_or_past}
use Rattle.ltm_demand.specs.declared.row.DemandRow.{DemandRow}
use Rattle.ltm_demand.specs.Rows.{OriginRoom, room_at, row_if_any, edited_rows, own_rows, amount_at, table_destination, with_amount, has_slots, has_place}
use Rattle.ltm_demand.specs.Productions.{seen, IsShifted, IsReached}
use Rattle.ltm_demand.specs.Origins.{OriginData, no_origin, origin_at, rows_of}
use Rattle.ltm_demand.specs.Kept.{IsKept, room_in, room_of}
use Rattle.ltm_demand.specs.Places.{IsAt, IsGap}
use Rattle.ltm_units.specs.Bounds.{most_amount}
use Rattle.ltm_demand.proofs.Ordered.{same_key_is}
use Rattle.ltm_demand.proofs.Edits.{amount_found, edited_nothing}
use Rattle.ltm_demand.proofs.State.{IsWas, was_at, was_gap, length_edited}
use Rattle.ltm_demand.proofs.Joined.{own_joined, set_joined, was_joined, edited_joined, parted_at, front, back}
use Rattle.ltm_demand.proofs.Restoring.{IsDone, is_done, state_of, length_replaced, length_shown}
use Rattle.ltm_demand.proofs.KeptOrigins.{kept_set, each_own, room_is}

place_true : (a b c d e f : ℕ) → a < b → c < d → e ≤ f → (nat_lt a b && (nat_lt c d && nat_le e f)) ≡ true
place_true a b c d e f p q r = grind (arith, nat_tests)

pub has_place_in : (slots most : ℕ) (tabled : Bool) (ys : List OriginData) (row : DemandRow) → ((o : ℕ) → All (λ r. r.origin.0 ≡ o) (origin_at ys o).rows) → length (origin_at ys row.origin.0).rows < (origin_at ys row.origin.0).places → IsReached (origin_at ys row.origin.0).table (seen tabled row) →
    has_place (state_of slots most tabled (rows_of ys) (room_of ys)) row ≡ true
has_place_in slots most tabled ys row own vacant reached =
    let o = row.origin.0 in
    let room : room_at (room_of ys) o ≡ room_in (origin_at ys o) = room_is ys o in
    place_true (length (own_rows (rows_of ys) o)) (room_at (room_of ys) o).rows (table_destination tabled row) (room_at (room_of ys) o).destinations row.to (room_at (room_of ys) o).slots
    (omega (arith, vacant, ap length (own_joined ys own o), ap (λ (r : OriginRoom). r.rows) room)) (omega (arith, reached.destination, ap (λ (r : OriginRoom). r.destinations) room)) (omega (arith, reached.end, ap (λ (r : OriginRoom). r.slots) room))

-- what a place that was found says of the origin
places_of : (a b c d e f : ℕ) → (nat_lt a b && (nat_lt c d && nat_le e f)) ≡ true → record { rows : a < b; destination : c < d; end : e ≤ f }
places_of a b c d e f h = record { rows = grind (arith, nat_tests); destination = grind (arith, nat_tests); end = grind (arith, nat_tests) }

pub record IsVacant (tabled : Bool) (xs : List OriginData) (row : DemandRow) : Type 0 where
  pub rows : length (origin_at xs row.origin.0).rows < (origin_at xs row.origin.0).places
  pub reached : IsReached (origin_at xs row.origin.0).table (seen tabled row)

pub vacant_in : (slots most : ℕ) (tabled : Bool) (count : ℕ) (xs : List OriginData) (row : DemandRow) → IsKept slots most tabled count xs → has_place (state_of slots most tabled (rows_of xs) (room_of xs)) row ≡ true → IsVacant tabled xs row
vacant_in slots most tabled count xs row kept has =
    let o = row.origin.0 in
    let room : room_at (room_of xs) o ≡ room_in (origin_at xs o) = room_is xs o in
    let p = places_of (length (own_rows (rows_of xs) o)) (room_at (room_of xs) o).rows (table_destination tabled row) (room_at (room_of xs) o).destinations row.to (room_at (room_of xs) o).slots has in
    record {
      rows = omega (arith, p.rows, ap length (own_joined xs kept.own o), ap (λ (r : OriginRoom). r.rows) room);
      reached = record { destination = omega (arith, p.destination, ap (λ (r : OriginRoom). r.destinations) room); end = omega (arith, p.end, ap (λ (r : OriginRoom). r.slots) room) };
    }

pub vacant_inside : (tabled : Bool) (xs : List OriginData) (row : DemandRow) → IsVacant tabled xs row → row.origin.0 < length xs
vacant_inside tabled xs row vacant = elim (cases_lt row.origin.0 (length xs)) [
  | inl inside ↦ inside
  | inr past ↦ absurd (let none : (origin_at xs row.origin.0).places ≡ 0 = ap (λ (x : OriginData). x.places) (get_or_past xs row.origin.0 no_origin past) in omega (arith, none, vacant.rows))
]

module _ (slots most : ℕ) (tabled : Bool) (count : ℕ) (xs : List OriginData) (row : DemandRow) (i : ℕ) (kept : IsKept slots most tabled count xs) where
  pub at_own : IsAt (own_rows (rows_of xs) row.origin.0) row i → IsAt (origin_at xs row.origin.0).rows row i
  at_own at = subst (λ rows. IsAt rows row i) (own_joined xs kept.own row.origin.0) at

  pub gap_own : IsGap (own_rows (rows_of xs) row.origin.0) row i → IsGap (origin_at xs row.origin.0).rows row i
  gap_own gap = subst (λ rows. IsGap rows row i) (own_joined xs kept.own row.origin.0) gap

  -- of a row that stands
  module _ (at : IsAt (origin_at xs row.origin.0).rows row i) where
    x_is : get_or (origin_at xs row.origin.0).rows i row ≡ with_amount row (get_or (origin_at xs row.origin.0).rows i row).amount.0
    x_is = same_key_is (get_or (origin_at xs row.origin.0).rows i row) row at.same

    pub stood : IsWas (origin_at xs row.origin.0).rows row (amount_at (origin_at xs row.origin.0).rows row)
    stood = was_at slots (origin_at xs row.origin.0).rows row i (amount_at (origin_at xs row.origin.0).rows row) (each_own slots most tabled count xs row.origin.0 kept) at refl

    pub stood_some : 0 < amount_at (origin_at xs row.origin.0).rows row
    stood_some = omega (arith, amount_found (origin_at xs row.origin.0).rows row i at, (each_own slots most tabled count xs row.origin.0 kept i row at.within).some_units)

    pub stood_reached : IsReached (origin_at xs row.origin.0).table (seen tabled row)
    stood_reached =
        let r = kept.reached row.origin.0 i row at.within in
        record { destination = omega (arith, r.destination, ap (table_destination tabled) x_is); end = omega (arith, r.end, ap (λ (x : DemandRow). x.to) x_is) }

    module _ (was out : ℕ) (x : OriginData) (inside : row.origin.0 < length xs) (within : has_slots slots row ≡ true) (small : row.amount.0 ≤ most_amount) (is : was ≡ amount_at (origin_at xs row.origin.0).rows row)
        (rows : x.rows ≡ edited_rows (origin_at xs row.origin.0).rows row) (shifted : IsShifted (origin_at xs row.origin.0).table x.table (seen tabled row) was) (outs : out + length (row_if_any row) ≡ 1) where
      joined_was : IsWas (rows_of xs) row was
      joined_was = was_joined xs kept.own row was (subst (λ w. IsWas (origin_at xs row.origin.0).rows row w) (sym is) stood)

      some : 0 < was
      some = omega (arith, is, stood_some)

      fewer : length (edited_rows (rows_of xs) row) ≤ most
      fewer = omega (arith, length_replaced (rows_of xs) row was joined_was some, kept.are_rows.few)

      pub replaced_kept : IsKept slots most tabled (count - out) (set xs row.origin.0 x)
      replaced_kept =
          let one : length (row_if_any (with_amount row was)) ≡ 1 = length_shown (with_amount row was) (let e : (was == 0) ≡ false = (let s = some in grind (arith, nat_tests)) in e) in
          kept_set slots most tabled count (count - out) xs row was x kept inside joined_was within small fewer rows shifted stood_reached (omega (arith, length_edited (rows_of xs) row was joined_was, one, kept.counted, outs))

      pub replaced_done : (row.amount.0 ≡ 0 → length x.rows < x.places) → IsDone (state_of slots most tabled (rows_of xs) (room_of xs)) (state_of slots most tabled (rows_of (set xs row.origin.0 x)) (room_of (set xs row.origin.0 x))) row was
      replaced_done vacant =
          let joined = set_joined xs kept.own row x inside rows in
          let here : origin_at (set xs row.origin.0 x) row.origin.0 ≡ x = get_or-set_same xs row.origin.0 x no_origin inside in
          is_done slots most tabled (rows_of xs) (rows_of (set xs row.origin.0 x)) row was (room_of xs) (room_of (set xs row.origin.0 x)) kept.are_rows joined_was within joined (omega (arith, fewer, ap length joined))
          (λ _ none. has_place_in slots most tabled (set xs row.origin.0 x) row replaced_kept.own (subst (λ (y : OriginData). length y.rows < y.places) (sym here) (vacant none))
          (subst (λ (y : OriginData). IsReached y.table (seen tabled row)) (sym here) (record { destination = omega (arith, stood_reached.destination, shifted.destinations); end = omega (arith, stood_reached.end, shifted.slots) })))

  -- of a row that none stands for
  module _ (gap : IsGap (origin_at xs row.origin.0).rows row i) where
    pub none_joined : IsWas (rows_of xs) row 0
    none_joined = was_joined xs kept.own row 0 (was_gap (origin_at xs row.origin.0).rows row i gap)

    module _ (x : OriginData) (inside : row.origin.0 < length xs) (within : has_slots slots row ≡ true) (small : row.amount.0 ≤ most_amount) (one : length (edited_rows (rows_of xs) row) ≡ length (rows_of xs) + 1) (few : length (rows_of xs) < most)
        (rows : x.rows ≡ edited_rows (origin_at xs row.origin.0).rows row) (shifted : IsShifted (origin_at xs row.origin.0).table x.table (seen tabled row) 0) (reached : IsReached (origin_at xs row.origin.0).table (seen tabled row)) where
      pub filled_kept : IsKept slots most tabled (count + 1) (set xs row.origin.0 x)
      filled_kept = kept_set slots most tabled count (count + 1) xs row 0 x kept inside none_joined within small (omega (arith, one, few)) rows shifted reached (omega (arith, one, kept.counted))

      pub filled_done : IsDone (state_of slots most tabled (rows_of xs) (room_of xs)) (state_of slots most tabled (rows_of (set xs row.origin.0 x)) (room_of (set xs row.origin.0 x))) row 0
      filled_done =
          let joined = set_joined xs kept.own row x inside rows in
          is_done slots most tabled (rows_of xs) (rows_of (set xs row.origin.0 x)) row 0 (room_of xs) (room_of (set xs row.origin.0 x)) kept.are_rows none_joined within joined (omega (arith, one, few, ap length joined)) (λ some _. absurd (omega (arith, some)))

    pub left_done : has_slots slots row ≡ true → row.amount.0 ≡ 0 → IsDone (state_of slots most tabled (rows_of xs) (room_of xs)) (state_of slots most tabled (rows_of xs) (room_of xs)) row 0
    left_done within none =
        let same : edited_rows (rows_of xs) row ≡ rows_of xs =
        edited_joined xs kept.own row ∙ ap (λ t. front xs row.origin.0 ++ (t ++ back xs row.origin.0)) (edited_nothing (origin_at xs row.origin.0).rows row i gap none) ∙ sym (parted_at xs row.origin.0) in
        is_done slots most tabled (rows_of xs) (rows_of xs) row 0 (room_of xs) (room_of xs) kept.are_rows none_joined within (sym same) kept.are_rows.few (λ some _. absurd (omega (arith, some)))
