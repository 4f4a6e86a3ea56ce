-- What a table says.
use Rattle.std.proofs.Common.{◌≡◌, ◌≢◌, ◌==◌, ℕ, ◌+◌, ◌-◌, ◌*◌, ◌<◌, ◌≤◌, min, nat_le, true, false, cond, length, slice_index, take, drop, arith, refl, ap, sym, ◌∙◌, inl, inr}
use Rattle.std.proofs.lemmas.Bool.{cases_lt}
use Rattle.std.proofs.lemmas.Bool.Decides.{nat_tests}
use Rattle.std.proofs.lemmas.List.{get_or-take, get_or-drop, get_or_past, length-take}
use Rattle.ltm_demand.specs.declared.row.DemandRow.{DemandRow}
use Rattle.ltm_demand.specs.Rows.{with_amount}
use Rattle.ltm_demand.specs.Produced.{produced, part, joins, origin_part}
use Rattle.ltm_demand.specs.Productions.{ProductionData, told, IsOneOf, IsShifted}
use Rattle.ltm_demand.proofs.Parts.{produced_after}

-- the number of a column that the table has
pub told_in : (t : ProductionData) (column slot : ℕ) → column ≤ t.destinations → told t column slot ≡ slice_index t.units (min slot (t.slots - 1) * (t.destinations + 1) + column)
unfolding told
told_in t column slot below =
    let e : nat_le column t.destinations ≡ true = grind (arith, nat_tests) in
    ap (λ b. cond b (slice_index t.units (min slot (t.slots - 1) * (t.destinations + 1) + column)) 0) e

pub told_out : (t : ProductionData) (column slot : ℕ) → t.destinations < column → told t column slot ≡ 0
unfolding told
told_out t column slot past =
    let e : nat_le column t.destinations ≡ false = grind (arith, nat_tests) in
    ap (λ b. cond b (slice_index t.units (min slot (t.slots - 1) * (t.destinations + 1) + column)) 0) e

pub told_empty : (t : ProductionData) (column slot : ℕ) → length t.units ≡ 0 → told t column slot ≡ 0
told_empty t column slot none = elim (cases_lt t.destinations column) [
  | inl past ↦ told_out t column slot past
  | inr below ↦ told_in t column slot below ∙ get_or_past t.units _ 0 (omega arith)
]

pub told_at : (t : ProductionData) (column slot : ℕ) → column ≤ t.destinations → slot < t.slots → told t column slot ≡ slice_index t.units (slot * (t.destinations + 1) + column)
told_at t column slot below inside = let here : min slot (t.slots - 1) ≡ slot = omega arith in told_in t column slot below ∙ ap (λ n. slice_index t.units (n * (t.destinations + 1) + column)) here

pub told_last : (t : ProductionData) (column slot : ℕ) → t.slots ≤ slot → 0 < t.slots → told t column slot ≡ told t column (t.slots - 1)
told_last t column slot past some = elim (cases_lt t.destinations column) [
  | inl out ↦ told_out t column slot out ∙ sym (told_out t column (t.slots - 1) out)
  | inr below ↦
      let here : min slot (t.slots - 1) ≡ min (t.slots - 1) (t.slots - 1) = omega arith in
      told_in t column slot below ∙ ap (λ n. slice_index t.units (n * (t.destinations + 1) + column)) here ∙ sym (told_in t column (t.slots - 1) below)
]

-- the numbers of a slot
pub row_told : (t : ProductionData) (start slot column : ℕ) → start ≡ min slot (t.slots - 1) * (t.destinations + 1) → slice_index (take (start + (t.destinations + 1) - start) (drop start t.units)) column ≡ told t column slot
row_told t start slot column is = elim (cases_lt t.destinations column) [
  | inl past ↦
      get_or_past (take (start + (t.destinations + 1) - start) (drop start t.units)) column 0 (omega (arith, length-take (start + (t.destinations + 1) - start) (drop start t.units)))
      ∙ sym (told_out t column slot past)
  | inr below ↦
      get_or-take (start + (t.destinations + 1) - start) (drop start t.units) column 0 (omega arith) ∙ get_or-drop start t.units column 0
      ∙ ap (λ n. slice_index t.units (n + column)) is ∙ sym (told_in t column slot below)
]

-- the numbers spread over more destinations and slots say the same
past_last : (old : ProductionData) (c s t : ℕ) → length old.units ≡ old.slots * (old.destinations + 1) → old.slots ≤ s + 1 → s ≤ t → told old c s ≡ told old c t
past_last old c s t full near later = elim (cases_lt 0 old.slots) [
  | inl any ↦ elim (cases_lt s old.slots) [
    | inl same ↦ elim (cases_lt t old.slots) [
      | inl also ↦ let e : s ≡ t = omega arith in ap (told old c) e
      | inr beyond ↦ let e : s ≡ old.slots - 1 = omega arith in ap (told old c) e ∙ sym (told_last old c t beyond any)
    ]
    | inr more ↦ told_last old c s more any ∙ sym (told_last old c t (omega arith) any)
  ]
  | inr none ↦
      let zero : old.slots ≡ 0 = omega arith in
      let empty : length old.units ≡ 0 = omega (arith, full, ap (λ n. n * (old.destinations + 1)) zero) in
      told_empty old c s empty ∙ sym (told_empty old c t empty)
]

pub told_spread : (old new : ProductionData) → old.destinations ≤ new.destinations → old.slots ≤ new.slots → length new.units ≡ new.slots * (new.destinations + 1) → length old.units ≡ old.slots * (old.destinations + 1) →
    ((c t : ℕ) → c ≤ new.destinations → t < new.slots → slice_index new.units (t * (new.destinations + 1) + c) ≡ told old c t) → (c t : ℕ) → told new c t ≡ told old c t
told_spread old new wide long size full is c t = elim (cases_lt new.destinations c) [
  | inl out ↦ told_out new c t out ∙ sym (told_out old c t (omega arith))
  | inr below ↦ elim (cases_lt t new.slots) [
    | inl inside ↦ told_at new c t below inside ∙ is c t below inside
    | inr past ↦ elim (cases_lt 0 new.slots) [
      | inl some ↦ told_last new c t past some ∙ (told_at new c (new.slots - 1) below (omega arith) ∙ (is c (new.slots - 1) below (omega arith) ∙ past_last old c (new.slots - 1) t full (omega arith) (omega arith)))
      | inr none ↦
          let zero : new.slots ≡ 0 = omega arith in
          let no_old : old.slots ≡ 0 = omega arith in
          told_empty new c t (omega (arith, size, ap (λ n. n * (new.destinations + 1)) zero)) ∙ sym (told_empty old c t (omega (arith, full, ap (λ n. n * (old.destinations + 1)) no_old)))
    ]
  ]
]

-- what a row has of another destination, of its own and of all
part_other : (o d t : ℕ) (row : DemandRow) → joins o d row ≡ false → part o d t row ≡ 0
unfolding part
part_other o d t row apart = ap (λ b. cond b (produced row.from row.to row.amount.0 t) 0) apart

part_here : (o d t : ℕ) (row : DemandRow) → joins o d row ≡ true → part o d t row ≡ produced row.from row.to row.amount.0 t
unfolding part
part_here o d t row here = ap (λ b. cond b (produced row.from row.to row.amount.0 t) 0) here

own_origin : (t : ℕ) (row : DemandRow) → origin_part row.origin.0 t row ≡ produced row.from row.to row.amount.0 t
unfolding origin_part
own_origin t row = let e : (row.origin.0 == row.origin.0) ≡ true = grind (arith, nat_tests) in ap (λ b. cond b (produced row.from row.to row.amount.0 t) 0) e

-- what holds of a column in each slot of the table holds in every slot
module _ (old new : ProductionData) (wide : new.destinations ≡ old.destinations) (long : new.slots ≡ old.slots) where
  column_shifted : (column from to was now : ℕ) → column ≤ old.destinations → from < to → to ≤ old.slots →
      ((t : ℕ) → t < old.slots → slice_index new.units (t * (old.destinations + 1) + column) + produced from to was t ≡ slice_index old.units (t * (old.destinations + 1) + column) + produced from to now t) →
      (t : ℕ) → told new column t + produced from to was t ≡ told old column t + produced from to now t
  column_shifted column from to was now below some reaches is t = elim (cases_lt t old.slots) [
    | inl inside ↦ in_slot t inside
    | inr past ↦
        let last = old.slots - 1 in
        let ends : told new column t ≡ told new column last = told_last new column t (omega arith) (omega arith) ∙ ap (λ n. told new column (n - 1)) long in
        omega (arith, in_slot last (omega arith), ends, told_last old column t past (omega arith), produced_after from to was t (omega arith) (omega arith), produced_after from to now t (omega arith) (omega arith), produced_after from to was last (omega arith) (omega arith), produced_after from to now last (omega arith) (omega arith))
  ]
    where
      at_new : (t : ℕ) → t < old.slots → told new column t ≡ slice_index new.units (t * (old.destinations + 1) + column)
      at_new t inside = told_at new column t (omega arith) (omega arith) ∙ ap (λ n. slice_index new.units (t * (n + 1) + column)) wide

      in_slot : (t : ℕ) → t < old.slots → told new column t + produced from to was t ≡ told old column t + produced from to now t
      in_slot t inside = omega (arith, is t inside, at_new t inside, told_at old column t below inside)

  column_same : (column t : ℕ) → (column ≤ old.destinations → (s : ℕ) → slice_index new.units (s * (old.destinations + 1) + column) ≡ slice_index old.units (s * (old.destinations + 1) + column)) → told new column t ≡ told old column t
  column_same c t is = elim (cases_lt old.destinations c) [
    | inl out ↦ told_out new c t (omega arith) ∙ sym (told_out old c t out)
    | inr below ↦
        told_in new c t (omega arith) ∙ ap (λ n. slice_index new.units (min t (n - 1) * (new.destinations + 1) + c)) long ∙ ap (λ n. slice_index new.units (min t (old.slots - 1) * (n + 1) + c)) wide
        ∙ is below (min t (old.slots - 1)) ∙ sym (told_in old c t below)
  ]

  -- the columns of a row's destination and of all destinations are shifted, and no other
  pub row_shifted : (row : DemandRow) (was : ℕ) → row.destination < old.destinations → row.from < row.to → row.to ≤ old.slots →
      ((c t : ℕ) → IsOneOf (row.destination + 1) c → t < old.slots → slice_index new.units (t * (old.destinations + 1) + c) + produced row.from row.to was t ≡ slice_index old.units (t * (old.destinations + 1) + c) + produced row.from row.to row.amount.0 t) →
      ((c t : ℕ) → c < old.destinations + 1 → c ≢ 0 → c ≢ row.destination + 1 → slice_index new.units (t * (old.destinations + 1) + c) ≡ slice_index old.units (t * (old.destinations + 1) + c)) → IsShifted old new row was
  row_shifted row was there some reaches both rest = record {
    each = λ d t. elim (joins row.origin.0 d row) as (λ b. joins row.origin.0 d row ≡ b → told new (d + 1) t + part row.origin.0 d t (with_amount row was) ≡ told old (d + 1) t + part row.origin.0 d t row) [
      | true ↦ λ here.
          let to : d + 1 ≡ row.destination + 1 = grind (arith, nat_tests) in
          omega (
            arith,
            column_shifted (d + 1) row.from row.to was row.amount.0 (omega (arith, to, there)) some reaches (λ s inside. both (d + 1) s (inr to) inside) t,
            part_here row.origin.0 d t row here,
            part_here row.origin.0 d t (with_amount row was) here,
          )
      | false ↦ λ apart.
          let away : d ≢ row.destination = grind (arith, nat_tests) in
          omega (arith, column_same (d + 1) t (λ below s. rest (d + 1) s (omega (arith, below)) (omega arith) (omega arith)), part_other row.origin.0 d t row apart, part_other row.origin.0 d t (with_amount row was) apart)
    ] refl;
    all = λ t. omega (arith, column_shifted 0 row.from row.to was row.amount.0 (omega arith) some reaches (λ s inside. both 0 s (inl refl) inside) t, own_origin t row, own_origin t (with_amount row was));
    destinations = wide;
    slots = long;
  }
