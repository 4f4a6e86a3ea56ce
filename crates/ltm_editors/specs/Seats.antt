-- What a seat is and has seen, what a held desk was found with, and which desk each is of.
use Rattle.std.specs.Prelude.{ℕ, ◌+◌, ◌-◌, List, [], ◌∷◌, ◌++◌, Option, Some}
use Rattle.atomic_table.specs.Seated.{TableId}
use Rattle.ltm_editors.specs.declared.recorded.Recorded.{Ghosts}
use Rattle.ltm_editors.specs.declared.desk.Desk.{Desk}
use Rattle.ltm_editors.specs.declared.desk.Seat.{Seat}
use Rattle.ltm_editors.specs.declared.desk.Held.{Held}

-- what a seat is, whatever it has seen
pub record Place (O : Type 0) : Type 0 where
  -- the desk at which it sits
  pub desk : TableId
  pub number : ℕ
  -- its own number, and those of the seats that were joined with it
  pub numbers : List ℕ
  -- the opening of the desk's value
  pub opening : Option O
  -- of the first seat how many numbers were given out, and how many seats were split and not joined
  pub made : ℕ
  pub others : ℕ

module _ {O : Type 0} where
  -- the first seat of a desk
  abbrev pub first_place : TableId → O → Place O
  first_place desk opening = record { desk = desk; number = 0; numbers = 0 ∷ []; opening = Some opening; made = 1; others = 0 }

  -- the first seat once it has split another
  abbrev pub place_after_split : Place O → Place O
  place_after_split p = record p { made = p.made + 1; others = p.others + 1 }

  -- the seat that it has split: the next number
  abbrev pub next_place : Place O → Place O
  next_place p = record p { number = p.made; numbers = p.made ∷ []; made = 0; others = 0 }

  -- the first seat once another was joined with it
  abbrev pub place_after_join : Place O → Place O → Place O
  place_after_join p q = record p { numbers = p.numbers ++ q.numbers; others = p.others - 1 }

module _ {T O E : Type 0} where
  abbrev pub desk_id : Desk T O E → TableId
  desk_id d = d.table.shared.table_id

module _ {T O E : Type 0} {D : Ghosts T O E} where
  abbrev pub seat_place : Seat T O E D → Place O
  seat_place s = record {
    desk = s.seat.table_id;
    number = s.number;
    numbers = s.seat.me.0.numbers;
    opening = s.seat.me.0.opening;
    made = s.made;
    others = s.others;
  }

  -- the history as a seat last saw it
  abbrev pub seat_seen : Seat T O E D → List E
  seat_seen s = s.seat.me.0.seen

  abbrev pub held_place : Held T O E D → Place O
  held_place h = record {
    desk = h.grip.seat.table_id;
    number = h.grip.number;
    numbers = h.grip.seat.me.0.numbers;
    opening = h.grip.seat.me.0.opening;
    made = h.grip.made;
    others = h.grip.others;
  }

  -- the history that was found, and the value now
  abbrev pub held_found : Held T O E D → List E
  held_found h = h.grip.seat.me.0.seen

  abbrev pub held_value : Held T O E D → T
  held_value h = h.value.value
