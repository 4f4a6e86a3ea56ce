-- What the numbers in texts are.
use Rattle.std.specs.Prelude.{ℕ, zero, suc, ◌≡◌, ◌+◌, ◌-◌, ◌*◌, ◌^◌, ◌==◌, ◌<◌, ◌&&◌, ◌||◌, Bool, true, false, not, nat_le, nat_lt, List, [], ◌∷◌, length, take, slice_index, Option, Some, None, Result, Ok, Err, if◌then◌else◌}
use Rattle.std.specs.List.{list_all, list_any, before_first, after_first}
use Rattle.ltm_units.specs.declared.numbers.NumberFault.{NumberFault}
use Rattle.ltm_units.specs.declared.numbers.NumberFault.TheVariants.{Empty, BadByte, TooManyDecimals, TooLarge}
use Rattle.ltm_units.specs.declared.quantities.Units.{Units}
use Rattle.ltm_units.specs.Bounds.{most_amount}

abbrev pub is_digit : ℕ → Bool
is_digit b = nat_le 48 b && nat_le b 57

-- the value of decimal digits, by their places
abbrev pub value : List ℕ → ℕ
value [] = 0
value (d ∷ ds) = (d - 48) * 10 ^ length ds + value ds

-- the number that a text tells: one digit or more, no more than so many, with a value of at most so much
abbrev pub number_told : ℕ → ℕ → List ℕ → Option ℕ
number_told most_digits most text =
    if nat_le 1 (length text) && nat_le (length text) most_digits && list_all is_digit text && nat_le (value text) most then Some (value text) else None

-- 1 to 10 digits with a value below 2^32
abbrev pub whole : List ℕ → Option ℕ
whole = number_told 10 4294967295

abbrev pub is_point : ℕ → Bool
is_point b = b == 46

-- no amount has this byte here: it is no digit and no point, or a point at the start, at the end or after another
abbrev pub is_bad_at : List ℕ → ℕ → Bool
is_bad_at text place =
    not (is_digit (slice_index text place))
    && (not (is_point (slice_index text place)) || (place == 0) || (place + 1 == length text) || list_any is_point (take place text))

-- the first byte that no amount has at its place
pub record IsFirstBad (text : List ℕ) (place : ℕ) : Type 0 where
  pub inside : place < length text
  pub bad : is_bad_at text place ≡ true
  pub first : (k : ℕ) → k < place → is_bad_at text k ≡ false

abbrev pub or_else : Option ℕ → Option ℕ → Option ℕ
or_else (Some k) other = Some k
or_else None other = other

-- the least number below n that passes a test
abbrev pub first_below : (ℕ → Bool) → ℕ → Option ℕ
first_below test zero = None
first_below test (suc n) = or_else (first_below test n) (if test n then Some n else None)

abbrev pub bad_place : List ℕ → Option ℕ
bad_place text = first_below (is_bad_at text) (length text)

-- thousandths of a vehicle, from the digits before and behind the point
abbrev pub units_of : List ℕ → List ℕ → ℕ
units_of front back = value front * 1000 + value back * 10 ^ (3 - length back)

abbrev pub sized : List ℕ → List ℕ → Result Units NumberFault
sized front back = if nat_lt 3 (length back) then Err TooManyDecimals else if nat_lt most_amount (units_of front back) then Err TooLarge else Ok (record { 0 = units_of front back })

abbrev pub checked : List ℕ → Option ℕ → Result Units NumberFault
checked text (Some place) = Err (BadByte place)
checked text None = sized (before_first is_point text) (after_first is_point text)

-- the amount that a text tells, or the first fault
abbrev pub vehicles : List ℕ → Result Units NumberFault
vehicles text = if length text == 0 then Err Empty else checked text (bad_place text)
