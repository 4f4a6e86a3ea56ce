-- The text of route splits is read back as they were set.
use Rattle.std.proofs.Common.{ℕ, zero, suc, ◌≡◌, ◌*◌, ◌≤◌, true, List, [], ◌∷◌, ◌++◌, length, map, Ok, refl, ap, sym, subst, arith, ◌∙◌, length-append, append-nil}
use Rattle.std.specs.Prelude.{All, codes}
use Rattle.std.specs.List.{flat_map}
use Rattle.std.proofs.lemmas.Bool.Decides.{nat_tests}
use Rattle.std.proofs.lemmas.List.{map-append, length-map}
use Rattle.std.proofs.lemmas.List.Elements.{All-head, All-tail}
use Rattle.csv.specs.Writing.{default_writer, row_text, read_back}
use Rattle.csv.proofs.RoundTrip.{rows_text}
use Rattle.ltm_units.specs.Words.{is_name}
use Rattle.ltm_network.specs.Network.{node_name, out_links, link_name}
use Rattle.ltm_network.specs.IsNetwork.{IsNetwork, NamesAreFound}
use Rattle.ltm_network.specs.Places.{LinksAtTheirPlaces}
use Rattle.ltm_splits.specs.Rows.{SplitRow}
use Rattle.ltm_scenario.specs.Data.{ScenarioData}
use Rattle.ltm_scenario.specs.Reads.{destination_name}
use Rattle.ltm_scenario.specs.IsScenario.{IsScenario}
use Rattle.ltm_records.specs.Fields.{Fields}
use Rattle.ltm_records.specs.Left.{records_of}
use Rattle.ltm_casefile.specs.declared.faults.File.TheVariants as file
use Rattle.ltm_casefile.specs.declared.tables.Table.TheVariants as table
use Rattle.ltm_casefile.specs.Splits.{split_added}
use Rattle.ltm_casefile.specs.Rows.{rows_from}
use Rattle.ltm_casefile.specs.Tables.{table_added}
use Rattle.ltm_casefile.specs.Tables.{with_file}
use Rattle.ltm_report.specs.Routes.{splits_header_line, entry_piece, further_entries, entries, key_piece, route_row_line}
use Rattle.ltm_routes.specs.Split.{RoutesData, rows_to, routes_to, lists_below, route_splits, with_splits}
use Rattle.ltm_routes_command.specs.declared.lines.RouteLines.TheVariants as lines
use Rattle.ltm_routes_command.specs.Lines.{sent_over, names_over, record_of, line_of, lines_to, routes_text}
use Rattle.ltm_routes_command.specs.File.{IsNamed}
use Rattle.ltm_routes_command.proofs.Plain.{AllNames}
use Rattle.ltm_routes_command.proofs.Row.{header_fields, row_line, file_read, texts_append}
use Rattle.ltm_routes_command.proofs.Apart.{sent_few}
use Rattle.ltm_routes_command.proofs.Step.{fields_at, rows_added}
use Rattle.ltm_routes_command.proofs.Cases.{all_left, all_right}
use Rattle.ltm_routes_command.proofs.Facts.{IsPlaced, all_placed, all_readable}

abbrev Named : ScenarioData → SplitRow → Type 0
Named s row = IsNamed s.network s.destinations row

-- ---- the text is that of the rows' records
line_text : (s : ScenarioData) (row : SplitRow) → Named s row → record_of s row ≡ row_text default_writer (fields_at s row)
line_text s row named = sym (row_line (node_name s.network row.0.node.0) (destination_name s row.0.destination) (names_over s.network row) named.node named.destination named.links)

lines_text : (s : ScenarioData) (routes : RoutesData) (rows : List SplitRow) → All (Named s) rows → flat_map (line_of lines.Splits s routes) rows ≡ rows_text (map (fields_at s) rows)
unfolding rows_text
lines_text s routes [] named = refl
lines_text s routes (row ∷ rows) named =
    ap (λ t. t ++ flat_map (line_of lines.Splits s routes) rows) (line_text s row (All-head (Named s) row rows named))
    ∙ ap (λ t. row_text default_writer (fields_at s row) ++ t) (lines_text s routes rows (All-tail (Named s) row rows named))

abbrev rows_at : ScenarioData → List RoutesData → ℕ → List SplitRow
rows_at s all destination = rows_to s destination (routes_to all destination)

below_text : (s : ScenarioData) (all : List RoutesData) (n : ℕ) → All (Named s) (lists_below n (rows_at s all))
    → lists_below n (λ destination. lines_to lines.Splits s (routes_to all destination) destination) ≡ rows_text (map (fields_at s) (lists_below n (rows_at s all)))
unfolding rows_text
below_text s all zero named = refl
below_text s all (suc n) named =
    let before : List SplitRow = lists_below n (rows_at s all) in
    let here : List SplitRow = rows_at s all n in
    ap (λ t. t ++ lines_to lines.Splits s (routes_to all n) n) (below_text s all n (all_left (Named s) before here named))
    ∙ ap (λ t. rows_text (map (fields_at s) before) ++ t) (lines_text s (routes_to all n) here (all_right (Named s) before here named))
    ∙ sym (ap rows_text (map-append (fields_at s) before here) ∙ texts_append (map (fields_at s) before) (map (fields_at s) here))

whole_text : (s : ScenarioData) (all : List RoutesData) → All (Named s) (route_splits s all) → routes_text lines.Splits s all ≡ splits_header_line ++ rows_text (map (fields_at s) (route_splits s all))
unfolding routes_text
whole_text s all named = ap (λ t. splits_header_line ++ t) (below_text s all (length s.destinations) named)

-- ---- it is read back
same_back : (s : ScenarioData) (rows : List SplitRow) → map read_back (map (fields_at s) rows) ≡ map (fields_at s) rows
same_back s [] = refl
same_back s (row ∷ rows) = ap (λ t. fields_at s row ∷ t) (same_back s rows)

table_is : (s : ScenarioData) (rows : List Fields) → table_added table.Splits s (header_fields ∷ rows) ≡ rows_from file.Splits split_added 2 s rows
unfolding table_added
table_is s rows = refl

-- a text without records says nothing
pub header_back : (s : ScenarioData) → with_file table.Splits s splits_header_line ≡ Ok s
unfolding rows_text
header_back s =
    ap (λ t. table_added table.Splits s (records_of t)) (sym (append-nil splits_header_line))
    ∙ ap (table_added table.Splits s) (file_read [])
    ∙ table_is s []

pub text_back : (s split : ScenarioData) (all : List RoutesData) → IsScenario s → NamesAreFound → LinksAtTheirPlaces → All (Named s) (route_splits s all) → with_splits s (route_splits s all) ≡ Ok split
    → with_file table.Splits s (routes_text lines.Splits s all) ≡ Ok split
text_back s split all scenario found places named set =
    let rows : List SplitRow = route_splits s all in
    ap (λ t. table_added table.Splits s (records_of t)) (whole_text s all named)
    ∙ ap (table_added table.Splits s) (file_read (map (fields_at s) rows))
    ∙ ap (λ fields. table_added table.Splits s (header_fields ∷ fields)) (same_back s rows)
    ∙ table_is s (map (fields_at s) rows)
    ∙ rows_added s split 2 rows (all_readable s all scenario found places named) set
