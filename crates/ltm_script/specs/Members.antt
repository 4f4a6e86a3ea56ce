-- What the members of a JSON value are.
use Rattle.std.specs.Prelude.{ℕ, ◌^◌, nat_lt, List, Option, Some, None, Result, Ok, Err, option_and_then, if◌then◌else◌}
use Rattle.serde_json.specs.Data.{Data}
use Rattle.serde_json.specs.Find.{get, as_number, as_str, as_u64}
use Rattle.ltm_units.specs.Words.{is_name}
use Rattle.ltm_units.specs.Numbers.{vehicles}
use Rattle.ltm_units.specs.declared.quantities.Units.{Units}
use Rattle.ltm_units.specs.declared.numbers.NumberFault.{NumberFault}

-- what an option holds goes on
infixl 10 ◌>>=◌
abbrev pub ◌>>=◌ : {A B : Type 0} → Option A → (A → Option B) → Option B
None >>= f = None
(Some x) >>= f = f x

-- a text
abbrev pub text_in : List ℕ → Data → Option (List ℕ)
text_in key d = option_and_then as_str (get key d)

-- a text that is a name
abbrev pub name_of : List ℕ → Option (List ℕ)
name_of text = if is_name text then Some text else None

abbrev pub name_in : List ℕ → Data → Option (List ℕ)
name_in key d = option_and_then name_of (text_in key d)

-- a number that is told without a sign, a point or an exponent, below 2^32
abbrev pub small : ℕ → Option ℕ
small n = if nat_lt n (2 ^ 32) then Some n else None

abbrev pub whole_of : Data → Option ℕ
whole_of d = option_and_then small (option_and_then as_u64 (as_number d))

abbrev pub whole_in : List ℕ → Data → Option ℕ
whole_in key d = option_and_then whole_of (get key d)

-- a text that tells an amount of vehicles
abbrev pub told : Result Units NumberFault → Option Units
told (Ok x) = Some x
told (Err e) = None

abbrev pub amount_in : List ℕ → Data → Option Units
amount_in key d = option_and_then (λ text. told (vehicles text)) (text_in key d)
