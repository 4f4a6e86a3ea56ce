-- Of which destinations the first units of a group are.
use Rattle.std.specs.Prelude.{ℕ, zero, suc, ◌+◌, ◌-◌, ◌<◌, ◌≤◌, List, [], ◌∷◌, slice_index, if◌then◌else◌, nat_le, ◌==◌, ◌||◌}
use Rattle.ltm_units.specs.Nested.{nested_split}
use Rattle.ltm_curve.specs.Counts.{total}

-- the first numbers of a function
abbrev pub list_below : ℕ → (ℕ → ℕ) → List ℕ
list_below zero f = []
list_below (suc n) f = f 0 ∷ list_below n (λ k. f (suc k))

-- the greatest boundary not above the last whose count is at most n; 0 where there is none
abbrev pub last_within : (ℕ → ℕ) → ℕ → ℕ → ℕ
last_within counts n zero = 0
last_within counts n (suc last) = if nat_le (counts (suc last)) n then suc last else last_within counts n last

-- the units of each destination that enter in a slot
abbrev pub entries : ℕ → (ℕ → ℕ → ℕ) → ℕ → List ℕ
entries destinations rows k = list_below destinations (λ d. rows d (k + 1) - rows d k)

-- what a destination has of the count at a boundary and of a part of the units that enter after it
abbrev pub mixed : ℕ → (ℕ → ℕ → ℕ) → ℕ → ℕ → ℕ → ℕ
mixed destinations rows k part d = rows d k + slice_index (nested_split part (entries destinations rows k)) d

-- what a destination has of the first n units of a group, among those that entered by a boundary
abbrev pub first_units : ℕ → (ℕ → ℕ → ℕ) → ℕ → ℕ → ℕ → ℕ
first_units destinations rows n last d =
    let k = last_within (total destinations rows) n last in
    let part = n - total destinations rows k in
    if (part == 0) || (k == last) then rows d k else mixed destinations rows k part d

-- no row falls up to a boundary
abbrev pub RowsRise : ℕ → (ℕ → ℕ → ℕ) → ℕ → Type 0
RowsRise destinations rows last = (d k : ℕ) → d < destinations → k < last → rows d k ≤ rows d (k + 1)
