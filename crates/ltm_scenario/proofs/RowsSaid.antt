-- What the check of the rows that an edit says tells of them.
use Rattle.std.proofs.Common.{◌≡◌, ℕ, ◌<◌, zero, suc, ◌==◌, not, true, List, [], ◌∷◌, length, sum, All, Option, Some, None, Ok, Err, is_none, refl, ap, arith}
use Rattle.std.specs.Prelude.{slice_get}
use Rattle.std.specs.Option.{option_map}
use Rattle.std.specs.List.{list_all}
use Rattle.std.proofs.lemmas.Bool.Decides.{nat_tests}
use Rattle.std.proofs.lemmas.List.Elements.{All-nil, All-cons, All-map}
use Rattle.ltm_units.specs.Results.{refuse}
use Rattle.ltm_units.proofs.Results.{not_refused, both_ok}
use Rattle.ltm_splits.specs.Table.{Entry}
use Rattle.ltm_splits.specs.Entries.{start_at, IsRising}
use Rattle.ltm_scenario.specs.declared.edit.EditCause.TheVariants.{UnknownName, BadSlots, OpenSplit, ZeroWeight}
use Rattle.ltm_scenario.specs.Weights.{NamedWeight, NamedRow}
use Rattle.ltm_scenario.specs.Data.{ScenarioData}
use Rattle.ltm_scenario.specs.Valid.{all_lead_on}
use Rattle.ltm_scenario.specs.Edits.{weights_at, is_out_link, entries_said, may_begin, row_checked, rows_checked}
use Rattle.ltm_scenario.proofs.Keeps.{not_true}

module _ (s : ScenarioData) (n d : ℕ) where
  row_leads : (weights : List NamedWeight) → row_checked s n d weights ≡ Ok tt → all_lead_on s n d (weights_at s n weights) ≡ true
  unfolding row_checked
  row_leads weights is =
      let one = both_ok (refuse (not (list_all (λ w. is_out_link s n w.0) weights)) UnknownName) _ tt is in
      let two = both_ok (refuse (sum (weights_at s n weights) == 0) ZeroWeight) _ tt one.1 in
      not_true (all_lead_on s n d (weights_at s n weights)) (not_refused (not (all_lead_on s n d (weights_at s n weights))) OpenSplit two.1)

  -- of rows that come behind one that begins at that slot, if one does
  pub record AreChecked (before : Option ℕ) (rows : List NamedRow) : Type 0 where
    pub some : before ≡ None → 0 < length rows
    pub first : before ≡ None → option_map (λ row. row.0) (slice_get rows 0) ≡ Some 0
    pub later : (slot j : ℕ) → before ≡ Some slot → j < length rows → slot < start_at (entries_said s n rows) j
    pub rising : IsRising (entries_said s n rows)
    pub within : All (λ row. row.0 < s.setup.slots) rows
    pub closed : All (λ row. all_lead_on s n d (weights_at s n row.1) ≡ true) rows

  none_left : (before : Option ℕ) → refuse (is_none before) BadSlots ≡ Ok tt → AreChecked before []
  none_left None is = absurd (let no : Err BadSlots ≡ Ok tt = is in cc)
  none_left (Some slot) is = record {
    some = λ e. cc;
    first = λ e. cc;
    later = λ slot' j e less. absurd (omega arith);
    rising = λ i j less inside. absurd (omega arith);
    within = All-nil (λ row. row.0 < s.setup.slots);
    closed = All-nil (λ row. all_lead_on s n d (weights_at s n row.1) ≡ true);
  }

  begins_first : (before : Option ℕ) (from : ℕ) → may_begin s.setup.slots before from ≡ true → before ≡ None → from ≡ 0
  begins_first None from is e = grind (is, arith, nat_tests)
  begins_first (Some slot) from is e = cc

  begins_later : (before : Option ℕ) (slot from : ℕ) → may_begin s.setup.slots before from ≡ true → before ≡ Some slot → slot < from
  begins_later None slot from is e = cc
  begins_later (Some other) slot from is e = let same : other ≡ slot = cc in let less : other < from = grind (is, arith, nat_tests) in omega (arith, same, less)

  begins_within : (before : Option ℕ) (from : ℕ) → may_begin s.setup.slots before from ≡ true → from < s.setup.slots
  begins_within None from is = grind (is, arith, nat_tests)
  begins_within (Some slot) from is = grind (is, arith, nat_tests)

  rising_more : (e : Entry) (es : List Entry) → ((j : ℕ) → j < length es → e.0 < start_at es j) → IsRising es → IsRising (e ∷ es)
  rising_more e es later rising zero zero less inside = absurd (omega arith)
  rising_more e es later rising zero (suc j) less inside = later j (omega arith)
  rising_more e es later rising (suc i) zero less inside = absurd (omega arith)
  rising_more e es later rising (suc i) (suc j) less inside = rising i j (omega arith) (omega arith)

  later_more : (e : Entry) (es : List Entry) (slot : ℕ) → slot < e.0 → ((j : ℕ) → j < length es → e.0 < start_at es j) → (j : ℕ) → j < length (e ∷ es) → slot < start_at (e ∷ es) j
  later_more e es slot above later zero less = above
  later_more e es slot above later (suc j) less = omega (arith, above, later j (omega arith))

  said_length : (rows : List NamedRow) → length (entries_said s n rows) ≡ length rows
  said_length [] = refl
  said_length (row ∷ rows) = let rest = said_length rows in omega arith

  pub are_checked : (before : Option ℕ) (rows : List NamedRow) → rows_checked s n d before rows ≡ Ok tt → AreChecked before rows
  are_checked before [] is = none_left before is
  are_checked before (row ∷ rows) is =
      let one = both_ok (refuse (not (may_begin s.setup.slots before row.0)) BadSlots) _ tt is in
      let two = both_ok (row_checked s n d row.1) (rows_checked s n d (Some row.0) rows) tt one.1 in
      let begins : may_begin s.setup.slots before row.0 ≡ true = not_true _ (not_refused (not (may_begin s.setup.slots before row.0)) BadSlots one.0) in
      let rest = are_checked (Some row.0) rows two.1 in
      let e : Entry = (row.0, weights_at s n row.1) in
      let es : List Entry = entries_said s n rows in
      let after : (j : ℕ) → j < length es → e.0 < start_at es j = λ j less. rest.later row.0 j refl (omega (arith, less, said_length rows)) in
      record {
        some = λ _. omega arith;
        first = λ none. ap (λ k. Some k) (begins_first before row.0 begins none);
        later = λ slot j is_slot less. later_more e es slot (begins_later before slot row.0 begins is_slot) after j (omega (arith, less, said_length rows));
        rising = rising_more e es after rest.rising;
        within = All-cons (λ r. r.0 < s.setup.slots) row rows (begins_within before row.0 begins) rest.within;
        closed = All-cons (λ r. all_lead_on s n d (weights_at s n r.1) ≡ true) row rows (row_leads row.1 two.0) rest.closed;
      }

-- what is said of the rows holds of the entries that they are
pub said_first : (s : ScenarioData) (n : ℕ) (rows : List NamedRow) → option_map (λ row. row.0) (slice_get rows 0) ≡ Some 0 → option_map (λ e. e.0) (slice_get (entries_said s n rows) 0) ≡ Some 0
said_first s n [] h = cc
said_first s n (row ∷ rows) h = h

pub said_closed : (s : ScenarioData) (n d : ℕ) (rows : List NamedRow) → All (λ row. all_lead_on s n d (weights_at s n row.1) ≡ true) rows → All (λ e. all_lead_on s n d e.1 ≡ true) (entries_said s n rows)
said_closed s n d rows all = All-map (λ (e : Entry). all_lead_on s n d e.1 ≡ true) (λ (row : NamedRow). (row.0, weights_at s n row.1)) rows all
