-- The rows to a destination: where they begin, and what they have produced.
use Rattle.std.proofs.Common.{◌≡◌, ◌≢◌, ◌==◌, ℕ, ◌+◌, ◌-◌, ◌<◌, ◌≤◌, zero, suc, true, false, cond, nat_lt, List, [], ◌∷◌, length, get_or, take, drop, sum_by, arith, refl, ap, sym, ◌∙◌}
use Rattle.std.specs.List.Sorted.{IsPartitionedBy, IsPartitionPoint}
use Rattle.std.proofs.lemmas.Bool.Decides.{nat_tests}
use Rattle.std.proofs.lemmas.List.{get_or_default, get_or-take, get_or-drop, length-take, length-drop}
use Rattle.std.proofs.lemmas.List.Sums.{sum_by-cons, sum_by-take-drop, sum_by-le-sum_by}
use Rattle.ltm_demand.specs.declared.row.DemandRow.{DemandRow}
use Rattle.ltm_demand.specs.Produced.{produced, part_to, by_end_to, total}
use Rattle.ltm_demand.specs.Places.{NeverFall, IsBegin}
use Rattle.ltm_demand.proofs.Parts.{produced_le}

abbrev pub no_row : DemandRow
no_row = record { origin = record { 0 = 0 }; destination = 0; from = 0; to = 0; amount = record { 0 = 0 } }

-- what a row has produced to its own destination, and to another
pub to_own : (d t : ℕ) (row : DemandRow) → row.destination ≡ d → part_to d t row ≡ produced row.from row.to row.amount.0 t
unfolding part_to
to_own d t row own = let e : (row.destination == d) ≡ true = grind (arith, nat_tests) in ap (λ b. cond b (produced row.from row.to row.amount.0 t) 0) e

pub to_other : (d t : ℕ) (row : DemandRow) → row.destination ≢ d → part_to d t row ≡ 0
unfolding part_to
to_other d t row other = let e : (row.destination == d) ≡ false = grind (arith, nat_tests) in ap (λ b. cond b (produced row.from row.to row.amount.0 t) 0) e

to_le : (d t : ℕ) (row : DemandRow) → part_to d t row ≤ row.amount.0
unfolding part_to
to_le d t row = elim (row.destination == d) as (λ b. cond b (produced row.from row.to row.amount.0 t) 0 ≤ row.amount.0) [
  | true ↦ produced_le row.from row.to row.amount.0 t
  | false ↦ omega arith
]

pub by_end_to_le : (rows : List DemandRow) (d t : ℕ) → by_end_to rows d t ≤ total rows
by_end_to_le rows d t = sum_by-le-sum_by (part_to d t) (λ r. r.amount.0) rows (to_le d t)

-- rows none of which is to the destination have produced nothing to it
none_to : (d t : ℕ) (rows : List DemandRow) → ((k : ℕ) (e : DemandRow) → k < length rows → (get_or rows k e).destination ≢ d) → by_end_to rows d t ≡ 0
none_to d t [] other = refl
none_to d t (r ∷ rs) other = omega (arith, sum_by-cons (part_to d t) r rs, to_other d t r (other zero r (omega arith)), none_to d t rs (λ k e less. other (suc k) e (omega arith)))

module _ (rows : List DemandRow) (d t begin : ℕ) (begins : IsBegin rows d begin) where
  -- all that was produced is that of the rows from the begin on
  pub from_begin : by_end_to (drop begin rows) d t ≡ by_end_to rows d t
  from_begin =
      let front : by_end_to (take begin rows) d t ≡ 0 = none_to d t (take begin rows) (λ k e less same.
      let below : k < begin = omega (arith, less, length-take begin rows) in
      let low : (get_or rows k e).destination < d = begins.before k e below in
      omega (arith, low, same, ap (λ (r : DemandRow). r.destination) (get_or-take begin rows k e below))) in
      omega (arith, front, sum_by-take-drop (part_to d t) rows begin)

  -- none of it is that of the rows from a row to another destination on
  pub none_behind : (place : ℕ) → NeverFall rows → begin ≤ place → (place < length rows → (get_or rows place no_row).destination ≢ d) → by_end_to (drop place rows) d t ≡ 0
  none_behind place rise later other = none_to d t (drop place rows) (λ k e less same.
      let inside : place + k < length rows = omega (arith, less, length-drop place rows) in
      let high : (get_or rows place e).destination ≤ (get_or rows (place + k) e).destination = rise place (place + k) e (omega arith) inside in
      let from : d ≤ (get_or rows place e).destination = begins.from place e later (omega arith) in
      let is : (get_or rows (place + k) e).destination ≡ d = sym (ap (λ (r : DemandRow). r.destination) (get_or-drop place rows k e)) ∙ same in
      other (omega arith) (omega (arith, high, from, is, ap (λ (r : DemandRow). r.destination) (get_or_default rows place no_row e (omega arith)))))

-- a place before which all rows are to lower destinations, and behind which none is
pub begins_at : (rows : List DemandRow) (d place : ℕ) → NeverFall rows → place ≤ length rows → (0 < place → (get_or rows (place - 1) no_row).destination < d) → (place < length rows → d ≤ (get_or rows place no_row).destination) → IsBegin rows d place
begins_at rows d place rise within low high = record {
  within = within;
  before = λ k e less. let under = low (omega arith) in let le = rise k (place - 1) e (omega arith) (omega arith) in omega (arith, under, le, ap (λ (r : DemandRow). r.destination) (get_or_default rows (place - 1) no_row e (omega arith)));
  from = λ k e more inside. let over = high (omega arith) in let le = rise place k e more inside in omega (arith, over, le, ap (λ (r : DemandRow). r.destination) (get_or_default rows place no_row e (omega arith)));
}

-- what a search finds
pub parted : (rows : List DemandRow) (d : ℕ) → NeverFall rows → IsPartitionedBy (λ r. nat_lt r.destination d) rows
parted rows d rise i j e le inside is = let l = rise i j e le inside in grind (arith, nat_tests)

pub searched : (rows : List DemandRow) (d place : ℕ) → place ≤ length rows → IsPartitionPoint (λ y. nat_lt y.destination d ≡ true) (λ y. nat_lt y.destination d ≡ false) rows place → IsBegin rows d place
searched rows d place within point = record {
  within = within;
  before = λ k e less. let l : nat_lt (get_or rows k e).destination d ≡ true = point.0 k e (omega arith) less in grind (arith, nat_tests);
  from = λ k e more inside. let l : nat_lt (get_or rows k e).destination d ≡ false = point.1 k e more inside in grind (arith, nat_tests);
}
