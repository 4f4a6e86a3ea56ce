-- The fields of a record, each of its kind, or nothing where a field is not of its kind.
use Rattle.std.specs.Prelude.{ℕ, ◌==◌, Bool, List, [], slice_index_or, Option, Some, None, Result, Ok, Err, if◌then◌else◌}
use Rattle.std.specs.Cmp.Lexicographic.{pointwise}
use Rattle.ltm_units.specs.Words.{is_name}
use Rattle.ltm_units.specs.Numbers.{whole, vehicles}
use Rattle.ltm_units.specs.declared.quantities.Units.{Units}
use Rattle.ltm_units.specs.declared.numbers.NumberFault.{NumberFault}
use Rattle.ltm_units.specs.declared.names.Name.{Name}

-- a record, as its fields
abbrev pub Fields : Type 0
Fields = List (List ℕ)

-- the field at a place, or no bytes where the record is shorter
abbrev pub field : Fields → ℕ → List ℕ
field fields k = slice_index_or fields k []

-- two texts are equal
abbrev pub same : List ℕ → List ℕ → Bool
same a b = pointwise ◌==◌ a b

-- the field at a place is this text
abbrev pub has : Fields → ℕ → List ℕ → Bool
has fields k text = same (field fields k) text

abbrev pub name_of : List ℕ → Option Name
name_of text = if is_name text then Some text else None

abbrev pub ok_part : {A : Type 0} → Result A NumberFault → Option A
ok_part (Ok x) = Some x
ok_part (Err e) = None

abbrev pub name_at : Fields → ℕ → Option Name
name_at fields k = name_of (field fields k)

abbrev pub whole_at : Fields → ℕ → Option ℕ
whole_at fields k = whole (field fields k)

abbrev pub vehicles_at : Fields → ℕ → Option Units
vehicles_at fields k = ok_part (vehicles (field fields k))
