-- A row is set, and what was there can be set again without memory.
use Rattle.std.proofs.Common.{◌≡◌, ℕ, ◌+◌, ◌<◌, ◌≤◌, ◌==◌, ◌||◌, not, Bool, true, false, cond, nat_lt, List, [], ◌∷◌, ◌++◌, length, filter, suc, length-append, sum_by, Ok, Err, IsOk, arith, refl, ap, sym, subst, ◌∙◌}
use Rattle.std.proofs.lemmas.Bool.Decides.{nat_tests}
use Rattle.std.specs.declared.cmp.Ordering.{Ordering}
use Rattle.std.specs.declared.cmp.Ordering.TheVariants.{Less, Equal, Greater}
use Rattle.std.specs.Ordering.{is_lt, is_eq, is_gt}
use Rattle.ltm_demand.specs.declared.row.DemandRow.{DemandRow}
use Rattle.ltm_demand.specs.declared.row.DemandFault.TheVariants.{BadSlots, TooManyRows}
use Rattle.ltm_demand.specs.Rows.{DemandData, OriginRoom, DemandState, row_cmp, before, standing, behind, row_if_any, edited_rows, amount_at, own_rows, with_row, with_amount, has_slots, has_place, takes_no_memory, CanRestore}
use Rattle.ltm_demand.specs.Kept.{AreDemandRows}
use Rattle.ltm_demand.specs.Places.{IsGap}
use Rattle.ltm_demand.proofs.Edits.{amount_absent}
use Rattle.ltm_demand.proofs.State.{IsWas, edited_back, length_edited, standing_edited}
use Rattle.ltm_demand.proofs.Joined.{filter_within}

abbrev pub data_of : ℕ → ℕ → List DemandRow → DemandData
data_of slots most rows = record { slots = slots; most_rows = most; rows = rows }

abbrev pub state_of : ℕ → ℕ → Bool → List DemandRow → List OriginRoom → DemandState
state_of slots most tabled rows room = record { demand = data_of slots most rows; tabled = tabled; room = room }

pub with_row_done : (slots most : ℕ) (rows : List DemandRow) (row : DemandRow) → has_slots slots row ≡ true → length (edited_rows rows row) ≤ most → with_row (data_of slots most rows) row ≡ Ok (data_of slots most (edited_rows rows row))
unfolding with_row
with_row_done slots most rows row in' few =
    let f : nat_lt most (length (edited_rows rows row)) ≡ false = grind (arith, nat_tests) in
    ap (λ b. cond (not b) (Err BadSlots) (cond (nat_lt most (length (edited_rows rows row))) (Err TooManyRows) (Ok (data_of slots most (edited_rows rows row))))) in'
    ∙ ap (λ b. cond b (Err TooManyRows) (Ok (data_of slots most (edited_rows rows row)))) f

pub with_row_bad : (d : DemandData) (row : DemandRow) → has_slots d.slots row ≡ false → with_row d row ≡ Err BadSlots
unfolding with_row
with_row_bad d row out = ap (λ b. cond (not b) (Err BadSlots) (cond (nat_lt d.most_rows (length (edited_rows d.rows row))) (Err TooManyRows) (Ok (data_of d.slots d.most_rows (edited_rows d.rows row))))) out

pub with_row_over : (d : DemandData) (row : DemandRow) → has_slots d.slots row ≡ true → d.most_rows < length (edited_rows d.rows row) → with_row d row ≡ Err TooManyRows
unfolding with_row
with_row_over d row in' many =
    let f : nat_lt d.most_rows (length (edited_rows d.rows row)) ≡ true = grind (arith, nat_tests) in
    ap (λ b. cond (not b) (Err BadSlots) (cond (nat_lt d.most_rows (length (edited_rows d.rows row))) (Err TooManyRows) (Ok (data_of d.slots d.most_rows (edited_rows d.rows row))))) in'
    ∙ ap (λ b. cond b (Err TooManyRows) (Ok (data_of d.slots d.most_rows (edited_rows d.rows row)))) f

pub length_shown : (row : DemandRow) → (row.amount.0 == 0) ≡ false → length (row_if_any row) ≡ 1
length_shown row some = ap (λ b. length (cond b [] (row ∷ []))) some

shown_le : (row : DemandRow) → length (row_if_any row) ≤ 1
shown_le row = elim (row.amount.0 == 0) as (λ b. length (cond b [] (row ∷ [])) ≤ 1) [ true ↦ omega arith | false ↦ omega arith ]

-- writing over a row makes no more rows
pub length_replaced : (rows : List DemandRow) (row : DemandRow) (was : ℕ) → IsWas rows row was → 0 < was → length (edited_rows rows row) ≤ length rows
length_replaced rows row was is some = omega (arith, length_edited rows row was is, length_shown (with_amount row was) (let e : (was == 0) ≡ false = grind (arith, nat_tests) in e), shown_le row)

-- all rows are before, at and behind a row's place
parted_by : (r : DemandRow) (row : DemandRow) (a b c n : ℕ) → a + (b + c) ≡ n →
    cond (is_lt (row_cmp r row)) (suc a) a + (cond (is_eq (row_cmp r row)) (suc b) b + cond (is_gt (row_cmp r row)) (suc c) c) ≡ suc n
parted_by r row a b c n h = elim (row_cmp r row) as (λ (z : Ordering). cond (is_lt z) (suc a) a + (cond (is_eq z) (suc b) b + cond (is_gt z) (suc c) c) ≡ suc n) [ Less ↦ omega (arith, h) | Equal ↦ omega (arith, h) | Greater ↦ omega (arith, h) ]

length_cond : (b : Bool) (r : DemandRow) (rs : List DemandRow) → length (cond b (r ∷ rs) rs) ≡ cond b (suc (length rs)) (length rs)
length_cond true r rs = refl
length_cond false r rs = refl

length_parted : (rows : List DemandRow) (row : DemandRow) → length (before rows row) + (length (standing rows row) + length (behind rows row)) ≡ length rows
unfolding before standing behind
length_parted [] row = refl
length_parted (r ∷ rs) row =
    let p : List DemandRow = filter (λ x. is_lt (row_cmp x row)) rs in
    let e : List DemandRow = filter (λ x. is_eq (row_cmp x row)) rs in
    let q : List DemandRow = filter (λ x. is_gt (row_cmp x row)) rs in
    omega (arith, length_cond (is_lt (row_cmp r row)) r p, length_cond (is_eq (row_cmp r row)) r e, length_cond (is_gt (row_cmp r row)) r q, parted_by r row (length p) (length e) (length q) (length rs) (length_parted rs row))

length_set : (rows : List DemandRow) (row : DemandRow) → length (edited_rows rows row) + length (standing rows row) ≡ length rows + length (row_if_any row)
unfolding edited_rows
length_set rows row = omega (arith, length_parted rows row, length-append (before rows row) (row_if_any row ++ behind rows row), length-append (row_if_any row) (behind rows row))

-- rows with a key are rows of its origin
pub standing_own : (rows : List DemandRow) (row : DemandRow) → standing (own_rows rows row.origin.0) row ≡ standing rows row
unfolding standing
standing_own rows row = filter_within (λ r. is_eq (row_cmp r row)) (λ r. r.origin.0 == row.origin.0) (λ r is. same_origin r row is) rows
  where
    same_origin : (r row : DemandRow) → is_eq (row_cmp r row) ≡ true → (r.origin.0 == row.origin.0) ≡ true
    same_origin r row is = grind (arith, nat_tests)

pub amount_own : (rows : List DemandRow) (row : DemandRow) → amount_at (own_rows rows row.origin.0) row ≡ amount_at rows row
unfolding amount_at
amount_own rows row = ap (sum_by (λ (r : DemandRow). r.amount.0)) (standing_own rows row)

-- where none of its origin's has the key of a row no amount stands at it, and to set it makes one more
pub none_stands : (rows : List DemandRow) (row : DemandRow) (i : ℕ) → IsGap (own_rows rows row.origin.0) row i → amount_at rows row ≡ 0
none_stands rows row i gap = sym (amount_own rows row) ∙ amount_absent (own_rows rows row.origin.0) row i gap

pub length_filled : (rows : List DemandRow) (row : DemandRow) (i : ℕ) → IsGap (own_rows rows row.origin.0) row i → 0 < row.amount.0 → length (edited_rows rows row) ≡ length rows + 1
length_filled rows row i gap some =
    let e : (row.amount.0 == 0) ≡ false = grind (arith, nat_tests) in
    omega (arith, length_set rows row, ap length (sym (standing_own rows row) ∙ gap.standing_is), length_shown row e)

-- once set, the row's amount stands at its key
amount_edited : (rows : List DemandRow) (row : DemandRow) (was : ℕ) → amount_at (edited_rows rows row) (with_amount row was) ≡ row.amount.0
unfolding amount_at standing
amount_edited rows row was =
    ap (sum_by (λ (r : DemandRow). r.amount.0)) (standing_edited rows row)
    ∙ elim (row.amount.0 == 0) as (λ b. (row.amount.0 == 0) ≡ b → sum_by (λ (r : DemandRow). r.amount.0) (cond b [] (row ∷ [])) ≡ row.amount.0) [
      | true ↦ λ none. let e : row.amount.0 ≡ 0 = grind (arith, nat_tests) in sym e
      | false ↦ λ _. omega arith
    ] refl

or_right : (a b : Bool) → b ≡ true → (a || b) ≡ true
or_right true b e = refl
or_right false b e = e

or_left : (a b : Bool) → a ≡ true → (a || b) ≡ true
or_left true b e = refl
or_left false b e = cc

free_was : (slots most : ℕ) (tabled : Bool) (rows : List DemandRow) (row : DemandRow) (was : ℕ) (room' : List OriginRoom) → (0 < was → row.amount.0 ≡ 0 → has_place (state_of slots most tabled (edited_rows rows row) room') row ≡ true) →
    takes_no_memory (state_of slots most tabled (edited_rows rows row) room') (with_amount row was) ≡ true
free_was slots most tabled rows row was room' place =
    let now = amount_edited rows row was in
    let P : Bool = has_place (state_of slots most tabled (edited_rows rows row) room') row in
    elim (was == 0) as (λ b. (was == 0) ≡ b → (b || (not (amount_at (edited_rows rows row) (with_amount row was) == 0) || P)) ≡ true) [
      | true ↦ λ _. refl
      | false ↦ λ stood. elim (row.amount.0 == 0) as (λ b. (row.amount.0 == 0) ≡ b → (not (amount_at (edited_rows rows row) (with_amount row was) == 0) || P) ≡ true) [
        | true ↦ λ none. or_right (not (amount_at (edited_rows rows row) (with_amount row was) == 0)) P (place (grind (arith, nat_tests)) (grind (arith, nat_tests)))
        | false ↦ λ some. or_left (not (amount_at (edited_rows rows row) (with_amount row was) == 0)) P (ap (λ a. not (a == 0)) now ∙ ap not some)
      ] refl
    ] refl

-- the row is set, and what was there can be set again, without memory, and gives the old data back
pub record IsDone (old new : DemandState) (row : DemandRow) (was : ℕ) : Type 0 where
  pub done : with_row old.demand row ≡ Ok new.demand
  pub back : with_row new.demand (with_amount row was) ≡ Ok old.demand
  pub undo : CanRestore new (with_amount row was)

pub is_done : (slots most : ℕ) (tabled : Bool) (rows rows' : List DemandRow) (row : DemandRow) (was : ℕ) (room room' : List OriginRoom) → AreDemandRows slots most rows → IsWas rows row was → has_slots slots row ≡ true → rows' ≡ edited_rows rows row → length rows' ≤ most →
    (0 < was → row.amount.0 ≡ 0 → has_place (state_of slots most tabled rows' room') row ≡ true) → IsDone (state_of slots most tabled rows room) (state_of slots most tabled rows' room') row was
is_done slots most tabled rows rows' row was room room' are is in' set few place =
    let few' : length (edited_rows rows row) ≤ most = omega (arith, ap length set) in
    let back : with_row (data_of slots most (edited_rows rows row)) (with_amount row was) ≡ Ok (data_of slots most rows) =
    with_row_done slots most (edited_rows rows row) (with_amount row was) in' (omega (arith, ap length (edited_back rows row was is), are.few)) ∙ ap (λ r. Ok (data_of slots most r)) (edited_back rows row was is) in
    subst (λ r. IsDone (state_of slots most tabled rows room) (state_of slots most tabled r room') row was) (sym set) (record {
      done = with_row_done slots most rows row in' few';
      back = back;
      undo = record { small = is.small; accepted = subst IsOk (sym back) refl; free = free_was slots most tabled rows row was room' (subst (λ r. 0 < was → row.amount.0 ≡ 0 → has_place (state_of slots most tabled r room') row ≡ true) set place) };
    })

-- what can be restored has slots within the horizon
pub restore_within : (d : DemandState) (row : DemandRow) → CanRestore d row → has_slots d.demand.slots row ≡ true
unfolding with_row
restore_within d row can = within (has_slots d.demand.slots row) can.accepted
  where
    within : (b : Bool) → IsOk (cond (not b) (Err BadSlots) (cond (nat_lt d.demand.most_rows (length (edited_rows d.demand.rows row))) (Err TooManyRows) (Ok (data_of d.demand.slots d.demand.most_rows (edited_rows d.demand.rows row))))) → b ≡ true
    within true h = refl
    within false h = h

-- what can be restored where no row has the key finds room
pub restore_few : (d : DemandState) (row : DemandRow) (i : ℕ) → CanRestore d row → IsGap (own_rows d.demand.rows row.origin.0) row i → 0 < row.amount.0 → length d.demand.rows < d.demand.most_rows
unfolding with_row
restore_few d row i can gap some = fewer (has_slots d.demand.slots row) (nat_lt d.demand.most_rows (length (edited_rows d.demand.rows row))) refl can.accepted
  where
    fewer : (b many : Bool) → nat_lt d.demand.most_rows (length (edited_rows d.demand.rows row)) ≡ many → IsOk (cond (not b) (Err BadSlots) (cond many (Err TooManyRows) (Ok (data_of d.demand.slots d.demand.most_rows (edited_rows d.demand.rows row))))) → length d.demand.rows < d.demand.most_rows
    fewer false many is h = absurd (let e : false ≡ true = h in cc)
    fewer true true is h = absurd (let e : false ≡ true = h in cc)
    fewer true false is h = let filled = length_filled d.demand.rows row i gap some in grind (arith, nat_tests)

pub restore_vacant : (d : DemandState) (row : DemandRow) (i : ℕ) → CanRestore d row → IsGap (own_rows d.demand.rows row.origin.0) row i → 0 < row.amount.0 → has_place d row ≡ true
restore_vacant d row i can gap some = third (row.amount.0 == 0) (amount_at d.demand.rows row == 0) (has_place d row) (grind (arith, nat_tests)) (let none = none_stands d.demand.rows row i gap in grind (arith, nat_tests)) can.free
  where
    third : (a b p : Bool) → a ≡ false → b ≡ true → (a || (not b || p)) ≡ true → p ≡ true
    third true b p x y z = absurd (let e : true ≡ false = x in cc)
    third false true p x y z = z
    third false false p x y z = absurd (let e : false ≡ true = y in cc)
