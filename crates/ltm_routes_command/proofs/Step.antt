-- A record of route splits sets the split row that it was written from.
use Rattle.std.proofs.Common.{ℕ, ◌≡◌, ◌+◌, ◌==◌, true, false, cond, List, [], ◌∷◌, map, sum, Some, Result, Ok, Err, refl, ap, sym, ◌∙◌, nat_lt}
use Rattle.std.specs.Prelude.{codes, All, slice_index, unwrap_or, nat_le}
use Rattle.std.specs.Option.{option_map_or}
use Rattle.std.specs.List.{list_all}
use Rattle.std.proofs.lemmas.List.Elements.{All-head, All-tail}
use Rattle.ltm_units.specs.Words.{is_name}
use Rattle.ltm_units.specs.Numbers.{whole}
use Rattle.ltm_units.specs.Results.{refuse}
use Rattle.ltm_network.specs.Network.{NetworkData, find_node, find_link, link_name, node_name, tail_of, out_links}
use Rattle.ltm_splits.specs.declared.keys.SplitKey.{SplitKey}
use Rattle.ltm_splits.specs.declared.keys.SplitFault.{SplitFault}
use Rattle.ltm_splits.specs.declared.keys.SplitFault.TheVariants.{BadSlots, ZeroWeight, TooManyRows}
use Rattle.ltm_splits.specs.Rows.{SplitRow, SplitsData, key_of, is_over, with_row, with_rows, put_in}
use Rattle.ltm_scenario.specs.Data.{ScenarioData, splits_of}
use Rattle.ltm_scenario.specs.Reads.{destination_of, destination_node, destination_name}
use Rattle.ltm_scenario.specs.Build.{with_split, with_destination, with_destination_at, ◌>>=◌}
use Rattle.ltm_scenario.specs.Edits.{weight_of, weights_at}
use Rattle.ltm_scenario.specs.Weights.{NamedWeight, are_weights}
use Rattle.ltm_records.specs.Fields.{Fields}
use Rattle.ltm_records.specs.Weights.{weights_of}
use Rattle.ltm_casefile.specs.declared.faults.CaseCause.{CaseCause}
use Rattle.ltm_casefile.specs.declared.faults.CaseCause.TheVariants as cause
use Rattle.ltm_casefile.specs.declared.faults.File.TheVariants as file
use Rattle.ltm_casefile.specs.declared.splits.SplitRecord.{SplitRecord}
use Rattle.ltm_casefile.specs.Causes.{taken}
use Rattle.ltm_casefile.specs.Demand.{place_of}
use Rattle.ltm_casefile.specs.Splits.{split_record, split_ends, with_split_record, split_added}
use Rattle.ltm_casefile.specs.Rows.{at_row, rows_from}
use Rattle.ltm_routes.specs.Split.{with_splits}
use Rattle.ltm_report.specs.Routes.{entries}
use Rattle.ltm_routes_command.specs.Lines.{names_over}
use Rattle.ltm_routes_command.proofs.Row.{fields_of_row}
use Rattle.ltm_routes_command.proofs.Weights.{ones}

abbrev pub record_with : List ℕ → List ℕ → List (List ℕ) → SplitRecord
record_with node destination links = record { node = node; destination = destination; from = 0; weights = ones links }

-- the fields are of their kinds
pub record_read : (node destination : List ℕ) (links : List (List ℕ)) → is_name node ≡ true → is_name destination ≡ true
    → weights_of (entries links) ≡ Some (ones links) → are_weights (ones links) ≡ true
    → split_record (fields_of_row node destination links) ≡ Ok (record_with node destination links)
unfolding split_record
record_read node destination links named end told some = rw (named, end, told, some) refl

-- what a row is read back by: its names are found, and give back its weights
pub record IsReadable (d : NetworkData) (destinations : List ℕ) (slots : ℕ) (row : SplitRow) : Type 0 where
  pub first : row.0.from ≡ 0
  pub slot : nat_lt 0 slots ≡ true
  pub is_record : (sum row.1 == 0) ≡ false → split_record (fields_of_row (node_name d row.0.node.0) (node_name d (slice_index destinations row.0.destination)) (names_over d row))
      ≡ Ok (record_with (node_name d row.0.node.0) (node_name d (slice_index destinations row.0.destination)) (names_over d row))
  pub node_found : find_node d (node_name d row.0.node.0) ≡ Some row.0.node.0
  pub end_found : find_node d (node_name d (slice_index destinations row.0.destination)) ≡ Some (slice_index destinations row.0.destination)
  pub end_placed : destination_of destinations (slice_index destinations row.0.destination) ≡ Some row.0.destination
  pub differ : (row.0.node.0 == slice_index destinations row.0.destination) ≡ false
  pub leave : list_all (λ (w : NamedWeight). option_map_or (λ link. tail_of d link == row.0.node.0) (find_link d w.0) false) (ones (names_over d row)) ≡ true
  pub weights : map (λ link. weight_of (ones (names_over d row)) (link_name d link)) (out_links d row.0.node.0) ≡ row.1

-- the fields of a row's record
abbrev pub fields_at : ScenarioData → SplitRow → Fields
fields_at s row = fields_of_row (node_name s.network row.0.node.0) (destination_name s row.0.destination) (names_over s.network row)

ends_read : (s : ScenarioData) (row : SplitRow) → IsReadable s.network s.destinations s.setup.slots row
    → split_ends s (record_with (node_name s.network row.0.node.0) (destination_name s row.0.destination) (names_over s.network row)) ≡ Ok (row.0.node.0, destination_node s row.0.destination)
unfolding split_ends
ends_read s row is =
    let node = is.node_found in let end = is.end_found in let differ = is.differ in let slot = is.slot in let leave = is.leave in
    rw (node, end, differ, slot, leave) refl

destination_stays : (s : ScenarioData) (row : SplitRow) → IsReadable s.network s.destinations s.setup.slots row → with_destination s (destination_node s row.0.destination) ≡ Ok s
destination_stays s row is = ap (λ o. with_destination_at s.setup.most_destinations s.destinations (destination_node s row.0.destination) o >>= λ destinations. Ok (record s { destinations = destinations })) is.end_placed

-- a row that is set has a weight
some_weight : (d next : SplitsData) (key : SplitKey) (w : List ℕ) → with_row d key w ≡ Ok next → (sum w == 0) ≡ false
some_weight d next key w set =
    elim (nat_le d.slots key.from) as (λ b. cond b (Err BadSlots) (cond (sum w == 0) (Err ZeroWeight) (cond (is_over d key) (Err TooManyRows) (Ok (with_rows d (put_in d.rows key w))))) ≡ Ok next → (sum w == 0) ≡ false) [
      | true ↦ λ e. cc
      | false ↦ elim (sum w == 0) as (λ b. cond b (Err ZeroWeight) (cond (is_over d key) (Err TooManyRows) (Ok (with_rows d (put_in d.rows key w)))) ≡ Ok next → b ≡ false) [
        | true ↦ λ e. cc
        | false ↦ λ e. refl
      ]
    ] set

abbrev last_step : ScenarioData → SplitRow → ScenarioData → ℕ → List ℕ → Result ScenarioData CaseCause
last_step s row next from w = taken (with_split next (key_of row.0.node.0 (place_of next (destination_node s row.0.destination)) from) w) cause.TooManyRows

pub row_added : (s : ScenarioData) (next : SplitsData) (row : SplitRow) → IsReadable s.network s.destinations s.setup.slots row → with_row (splits_of s) row.0 row.1 ≡ Ok next
    → split_added s (fields_at s row) ≡ Ok (record s { splits = next.rows })
row_added s next row is set =
    let r : SplitRecord = record_with (node_name s.network row.0.node.0) (destination_name s row.0.destination) (names_over s.network row) in
    let some : (sum row.1 == 0) ≡ false = some_weight (splits_of s) next row.0 row.1 set in
    let weights : weights_at s row.0.node.0 r.weights ≡ row.1 = is.weights in
    let keyed : key_of row.0.node.0 row.0.destination 0 ≡ row.0 = ap (key_of row.0.node.0 row.0.destination) (sym is.first) in
    ap (λ (x : Result SplitRecord CaseCause). x >>= λ r. with_split_record s r) (is.is_record some)
    ∙ ap (λ (x : Result (ℕ × ℕ) CaseCause). x >>= λ ends.
    refuse (sum (weights_at s ends.0 r.weights) == 0) cause.ZeroWeight >>= λ _.
    taken (with_destination s ends.1) cause.TooManyDestinations >>= λ n.
    taken (with_split n (key_of ends.0 (place_of n ends.1) r.from) (weights_at s ends.0 r.weights)) cause.TooManyRows) (ends_read s row is)
    ∙ ap (λ w. refuse (sum w == 0) cause.ZeroWeight >>= λ _.
    taken (with_destination s (destination_node s row.0.destination)) cause.TooManyDestinations >>= λ n. last_step s row n 0 w) weights
    ∙ ap (λ b. refuse b cause.ZeroWeight >>= λ _.
    taken (with_destination s (destination_node s row.0.destination)) cause.TooManyDestinations >>= λ n. last_step s row n 0 row.1) some
    ∙ ap (λ x. taken x cause.TooManyDestinations >>= λ n. last_step s row n 0 row.1) (destination_stays s row is)
    ∙ ap (λ o. taken (with_split s (key_of row.0.node.0 (unwrap_or o 0) 0) row.1) cause.TooManyRows) is.end_placed
    ∙ ap (λ k. taken (with_split s k row.1) cause.TooManyRows) keyed
    ∙ ap (λ x. taken (x >>= λ (n : SplitsData). Ok (record s { splits = n.rows })) cause.TooManyRows) set

-- the rows of a file are set one after the other, as they were
pub rows_added : (s split : ScenarioData) (row : ℕ) (rows : List SplitRow) → All (IsReadable s.network s.destinations s.setup.slots) rows → with_splits s rows ≡ Ok split
    → rows_from file.Splits split_added row s (map (fields_at s) rows) ≡ Ok split
rows_added s split row [] all set = let same : s ≡ split = cc in ap Ok same
rows_added s split row (first ∷ rows) all set =
    go (λ n more. rows_added (record s { splits = n.rows }) split (row + 1) rows (All-tail (IsReadable s.network s.destinations s.setup.slots) first rows all) more) (with_row (splits_of s) first.0 first.1) refl set
  where
    go : ((n : SplitsData) → with_splits (record s { splits = n.rows }) rows ≡ Ok split → rows_from file.Splits split_added (row + 1) (record s { splits = n.rows }) (map (fields_at s) rows) ≡ Ok split)
        → (r : Result SplitsData SplitFault) → with_row (splits_of s) first.0 first.1 ≡ r → ((r >>= λ (n : SplitsData). Ok (record s { splits = n.rows })) >>= λ (next : ScenarioData). with_splits next rows) ≡ Ok split
        → rows_from file.Splits split_added row s (map (fields_at s) (first ∷ rows)) ≡ Ok split
    go later (Err fault) is h = cc
    go later (Ok n) is h =
        let step : split_added s (fields_at s first) ≡ Ok (record s { splits = n.rows }) =
        row_added s n first (All-head (IsReadable s.network s.destinations s.setup.slots) first rows all) is in
        ap (λ x. at_row file.Splits row x >>= λ (next : ScenarioData). rows_from file.Splits split_added (row + 1) next (map (fields_at s) rows)) step
        ∙ later n h
