-- The demand of a case as contracts see it: its rows in the order of their keys, and what a set makes of them.
use Rattle.std.specs.Prelude.{◌≡◌, ℕ, ◌<◌, ◌≤◌, Bool, not, ◌==◌, true, ◌&&◌, ◌||◌, if◌then◌else◌, nat_le, nat_lt, List, [], ◌∷◌, ◌++◌, length, slice_index_or, sum_by, filter, Result, Ok, Err, IsOk}
use Rattle.std.specs.declared.cmp.Ordering.{Ordering}
use Rattle.std.specs.Ordering.{nat_cmp, ordering_then, is_lt, is_eq, is_gt}
use Rattle.ltm_demand.specs.declared.row.DemandRow.{DemandRow}
use Rattle.ltm_demand.specs.declared.row.DemandFault.{DemandFault}
use Rattle.ltm_demand.specs.declared.row.DemandFault.TheVariants.{BadSlots, TooManyRows}
use Rattle.ltm_units.specs.Bounds.{most_amount}

-- the horizon, how many rows there may be, and the rows in the order of their keys
pub record DemandData : Type 0 where
  pub slots : ℕ
  pub most_rows : ℕ
  pub rows : List DemandRow

-- what can be set of an origin without memory: how many rows find a place, and the destinations, as its table has them, and the
-- slots below which
pub record OriginRoom : Type 0 where
  pub rows : ℕ
  pub destinations : ℕ
  pub slots : ℕ

-- the data, whether each origin keeps a table of each destination, and for each origin what can be set without memory
pub record DemandState : Type 0 where
  pub demand : DemandData
  pub tabled : Bool
  pub room : List OriginRoom

-- the room of an origin; of one that never had a row there is none
abbrev pub room_at : List OriginRoom → ℕ → OriginRoom
room_at room origin = slice_index_or room origin (record { rows = 0; destinations = 0; slots = 0 })

-- rows are ordered by origin, then destination, then first slot, then end; where all four are equal the key is one
abbrev pub row_cmp : DemandRow → DemandRow → Ordering
row_cmp a b = ordering_then (nat_cmp a.origin.0 b.origin.0) (ordering_then (nat_cmp a.destination b.destination) (ordering_then (nat_cmp a.from b.from) (nat_cmp a.to b.to)))

-- the rows before the place of a row
unfoldable pub before : List DemandRow → DemandRow → List DemandRow
before rows row = filter (λ r. is_lt (row_cmp r row)) rows

-- the rows with the key of a row: one, or none
unfoldable pub standing : List DemandRow → DemandRow → List DemandRow
standing rows row = filter (λ r. is_eq (row_cmp r row)) rows

-- the rows behind the place of a row
unfoldable pub behind : List DemandRow → DemandRow → List DemandRow
behind rows row = filter (λ r. is_gt (row_cmp r row)) rows

-- a row of amount 0 is no row
abbrev pub row_if_any : DemandRow → List DemandRow
row_if_any row = if row.amount.0 == 0 then [] else row ∷ []

-- the rows once a row is set: it stands in its place, and any other with its key is gone
unfoldable pub edited_rows : List DemandRow → DemandRow → List DemandRow
edited_rows rows row = before rows row ++ (row_if_any row ++ behind rows row)

-- the amount that stands at the key of a row, 0 where none does
unfoldable pub amount_at : List DemandRow → DemandRow → ℕ
amount_at rows row = sum_by (λ r. r.amount.0) (standing rows row)

-- the slots of a row are some, and within the horizon
abbrev pub has_slots : ℕ → DemandRow → Bool
has_slots slots row = nat_lt row.from row.to && nat_le row.to slots

-- the data once a row is set, or why it is refused
unfoldable pub with_row : DemandData → DemandRow → Result DemandData DemandFault
with_row d row =
    if not (has_slots d.slots row) then Err BadSlots
    else if nat_lt d.most_rows (length (edited_rows d.rows row)) then Err TooManyRows
    else Ok (record d { rows = edited_rows d.rows row })

-- the row with another amount
abbrev pub with_amount : DemandRow → ℕ → DemandRow
with_amount row amount = record row { amount = record { 0 = amount } }

-- the rows of an origin
abbrev pub own_rows : List DemandRow → ℕ → List DemandRow
own_rows rows origin = filter (λ r. r.origin.0 == origin) rows

-- the destination that a row has in the table of its origin: its own where there is a column for each, else 0
abbrev pub table_destination : Bool → DemandRow → ℕ
table_destination tabled row = if tabled then row.destination else 0

-- one row more of its origin finds a place
abbrev pub has_place : DemandState → DemandRow → Bool
has_place d row =
    let room = room_at d.room row.origin.0 in
    nat_lt (length (own_rows d.demand.rows row.origin.0)) room.rows && (nat_lt (table_destination d.tabled row) room.destinations && nat_le row.to room.slots)

-- to set the row takes no memory: it takes a row out, or writes over one, or finds a place
abbrev pub takes_no_memory : DemandState → DemandRow → Bool
takes_no_memory d row = (row.amount.0 == 0) || (not (amount_at d.demand.rows row == 0) || has_place d row)

-- the row can be set, and that takes no memory
pub record CanRestore (d : DemandState) (row : DemandRow) : Type 0 where
  pub small : row.amount.0 ≤ most_amount
  pub accepted : IsOk (with_row d.demand row)
  pub free : takes_no_memory d row ≡ true

-- an origin's room is no less than before
pub record IsNoLess (old new : OriginRoom) : Type 0 where
  pub rows : old.rows ≤ new.rows
  pub destinations : old.destinations ≤ new.destinations
  pub slots : old.slots ≤ new.slots

-- the room is no less than before, so what could be restored at the same data still can
abbrev pub KeepsRoom : DemandState → DemandState → Type 0
KeepsRoom old new = (origin : ℕ) → IsNoLess (room_at old.room origin) (room_at new.room origin)

-- what each row of a demand is: some slots within the horizon, and 1 to 1,000,000,000 units
pub record IsDemandRow (slots : ℕ) (row : DemandRow) : Type 0 where
  pub some_slots : row.from < row.to
  pub within : row.to ≤ slots
  pub some_units : 0 < row.amount.0
  pub small : row.amount.0 ≤ most_amount
