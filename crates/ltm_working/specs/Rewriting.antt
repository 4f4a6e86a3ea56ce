-- A row of counts is set at a slot's end, and its cell is noted.
use Rattle.std.specs.Prelude.{◌≡◌, ℕ, ◌+◌, ◌&&◌, ◌<◌, ◌^◌, List, length, slice_index, Bool}
use Rattle.ltm_curve.specs.declared.curves.Curves.{Curves}
use Rattle.ltm_curve.specs.declared.changed.Changed.{Changed}
use Rattle.ltm_curve.specs.Table.{groups_of, destinations_of, slots_of, counts_of, SetsRow}
use Rattle.ltm_curve.specs.Cells.{HasCells}
use Rattle.ltm_frontier.specs.Frontier.{is_pair}
use Rattle.ltm_working.specs.declared.step_form.StepForm.{StepForm}
use Rattle.ltm_working.specs.Counted.{counted_number, counted_row}
use Rattle.ltm_working.specs.Waking.{row_differs, PutsCells}

-- the row of a group that numbers make at the end of a slot
abbrev pub row_at_end : StepForm → Curves → ℕ → ℕ → List ℕ → List ℕ
row_at_end given c g t numbers = counted_row given (counts_of c) g t numbers

-- numbers that may be set: one for each destination, which make counts below 2 ^ 31
pub record FitsRow (given : StepForm) (c : Curves) (x : Changed) (g t : ℕ) (numbers : List ℕ) : Type 0 where
  pub group : g < groups_of c
  pub slot : t < slots_of c
  pub count : length numbers ≡ destinations_of c
  pub small : (d : ℕ) → d < length numbers → counted_number given (counts_of c g d t) (slice_index numbers d) < 2 ^ 31
  pub cells : HasCells x (groups_of c) (slots_of c)

-- their row is set, and nothing else; whether some count was another one, and only then the cell is noted
pub record RenewsRow (given : StepForm) (c : Curves) (x : Changed) (g t : ℕ) (numbers : List ℕ) (any : Bool) (d : Curves) (y : Changed) : Type 0 where
  pub value : any ≡ row_differs (destinations_of c) (counts_of c) g (t + 1) (slice_index (row_at_end given c g t numbers))
  pub sets : SetsRow c d g (t + 1) (row_at_end given c g t numbers)
  pub cells : PutsCells x y (λ h k. any && is_pair g (t + 1) h k)
