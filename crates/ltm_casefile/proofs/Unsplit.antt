-- Neither links nor demand set a split row.
use Rattle.std.proofs.Common.{◌≡◌, ℕ, ◌+◌, List, [], ◌∷◌, Bool, Option, Some, None, Result, Ok, Err, refl, ap, ◌∙◌}
use Rattle.ltm_units.specs.Results.{refuse}
use Rattle.ltm_network.specs.Network as network
use Rattle.ltm_network.specs.Network.{NetworkData}
use Rattle.ltm_diagram.specs.declared.diagram.Diagram.{Diagram}
use Rattle.ltm_diagram.specs.Limits.{limits_of}
use Rattle.ltm_demand.specs.declared.row.DemandRow.{DemandRow}
use Rattle.ltm_demand.specs.Rows as demand
use Rattle.ltm_demand.specs.Rows.{DemandData}
use Rattle.ltm_scenario.specs.Data.{ScenarioData, demand_of}
use Rattle.ltm_scenario.specs.Reads.{destination_of}
use Rattle.ltm_scenario.specs.Build.{◌>>=◌, with_link, of_network, of_diagram, with_destination, with_destination_at, with_demand}
use Rattle.ltm_scenario.specs.declared.faults.LinkFault.{LinkFault}
use Rattle.ltm_records.specs.Fields.{Fields}
use Rattle.ltm_records.specs.Left.{records_of}
use Rattle.ltm_casefile.specs.declared.faults.CaseCause.{CaseCause}
use Rattle.ltm_casefile.specs.declared.faults.CaseFault.{CaseFault}
use Rattle.ltm_casefile.specs.declared.faults.File.{File}
use Rattle.ltm_casefile.specs.declared.tables.Table.TheVariants as table
use Rattle.ltm_casefile.specs.Causes.{taken}
use Rattle.ltm_casefile.specs.Rows.{at_row, rows_from, below_header}
use Rattle.ltm_casefile.specs.Links.{link_record, with_link_record, link_added}
use Rattle.ltm_casefile.specs.Links as links
use Rattle.ltm_casefile.specs.Demand.{demand_record, pair_ends, demand_ends, demand_row, with_demand_record, demand_added}
use Rattle.ltm_casefile.specs.declared.profile.Slice.{Slice}
use Rattle.ltm_casefile.specs.declared.faults.File.TheVariants as file
use Rattle.ltm_casefile.specs.Profile.{ProfileData, profile_of}
use Rattle.ltm_casefile.specs.Matrix.{is_matrix_header, matrix_record, slice_row, slices_set, whole_row, with_matrix_record, matrix_row_added, matrix_added}
use Rattle.ltm_casefile.specs.Tables.{table_added, rows_added, row_added, heads, file_of, with_file}
use Rattle.ltm_casefile.specs.Roads.{RoadTexts, with_demand_file, roads_filled}

-- a step that ends well, ends with these split rows
abbrev Keeps : {F : Type 0} → ScenarioData → Result ScenarioData F → Type 0
Keeps s (Ok next) = next.splits ≡ s.splits
Keeps s (Err fault) = Unit {0}

then_keeps : {A F : Type 0} (s : ScenarioData) (r : Result A F) (next : A → Result ScenarioData F) → ((x : A) → Keeps s (next x)) → Keeps s (r >>= next)
then_keeps s (Ok x) next keeps = keeps x
then_keeps s (Err fault) next keeps = tt

keeps_on : {F : Type 0} (s : ScenarioData) (r : Result ScenarioData F) (next : ScenarioData → Result ScenarioData F) → Keeps s r → ((x : ScenarioData) → Keeps x (next x)) → Keeps s (r >>= next)
keeps_on {F = F} s (Ok x) next kept keeps = join (next x) (keeps x)
  where
    join : (r : Result ScenarioData F) → Keeps x r → Keeps s r
    join (Ok y) is = is ∙ kept
    join (Err fault) is = tt
keeps_on s (Err fault) next kept keeps = tt

with_link_keeps : (s : ScenarioData) (name tail head : List ℕ) (d : Diagram) → Keeps s (with_link s name tail head d)
unfolding with_link
with_link_keeps s name tail head d =
    then_keeps s (of_network (network.with_link s.network name tail head)) _ (λ next. then_keeps s (of_diagram (limits_of d s.setup.step.0 s.setup.carry)) _ (λ limits. refl))

linked_keeps : (s : ScenarioData) (r : Result ScenarioData LinkFault) → Keeps s r → Keeps s (links.linked r)
linked_keeps s (Ok next) keeps = keeps
linked_keeps s (Err fault) keeps = tt

link_keeps : (s : ScenarioData) (fields : Fields) → Keeps s (link_added s fields)
link_keeps s fields = then_keeps s (link_record fields) (λ r. with_link_record s r) (λ r. linked_keeps s (with_link s r.name r.tail r.head r.diagram) (with_link_keeps s r.name r.tail r.head r.diagram))

taken_keeps : {F : Type 0} (s : ScenarioData) (r : Result ScenarioData F) (cause : CaseCause) → Keeps s r → Keeps s (taken r cause)
taken_keeps s (Ok next) cause keeps = keeps
taken_keeps s (Err fault) cause keeps = tt

destination_keeps : (s : ScenarioData) (node : ℕ) → Keeps s (with_destination s node)
destination_keeps s node = then_keeps s (with_destination_at s.setup.most_destinations s.destinations node (destination_of s.destinations node)) _ (λ destinations. refl)

demand_set_keeps : (s : ScenarioData) (row : DemandRow) → Keeps s (with_demand s row)
demand_set_keeps s row = then_keeps s (demand.with_row (demand_of s) row) _ (λ next. refl)

demand_keeps : (s : ScenarioData) (fields : Fields) → Keeps s (demand_added s fields)
demand_keeps s fields = then_keeps s (demand_record fields) (λ r. with_demand_record s r) (λ r.
    then_keeps s (demand_ends s r) _ (λ ends.
    keeps_on s (taken (with_destination s ends.1) _) _ (taken_keeps s (with_destination s ends.1) _ (destination_keeps s ends.1)) (λ next.
    taken_keeps next (with_demand next (demand_row next r ends)) _ (demand_set_keeps next (demand_row next r ends)))))

rows_keep : (f : File) (step : ScenarioData → Fields → Result ScenarioData CaseCause) → ((s : ScenarioData) (fields : Fields) → Keeps s (step s fields)) → (row : ℕ) (s : ScenarioData) (rows : List Fields) → Keeps s (rows_from f step row s rows)
rows_keep f step keeps row s [] = refl
rows_keep f step keeps row s (fields ∷ rest) = keeps_on s (at_row f row (step s fields)) _ (at_keeps (step s fields) (keeps s fields)) (λ next. rows_keep f step keeps (row + 1) next rest)
  where
    at_keeps : (r : Result ScenarioData CaseCause) → Keeps s r → Keeps s (at_row f row r)
    at_keeps (Ok next) is = is
    at_keeps (Err cause) is = tt

header_keeps : (s : ScenarioData) (f : File) (is_header : Fields → Bool) (more : Fields → List Fields → Result ScenarioData CaseFault) → ((header : Fields) (rows : List Fields) → Keeps s (more header rows)) → (rows : List Fields) → Keeps s (below_header f is_header more rows)
header_keeps s f is_header more keeps [] = tt
header_keeps s f is_header more keeps (header ∷ rows) = then_keeps s (at_row f 1 (refuse _ _)) _ (λ _. keeps header rows)

links_keep : (s : ScenarioData) (rows : List Fields) → Keeps s (table_added table.Links s rows)
unfolding table_added
links_keep s rows = header_keeps s (file_of table.Links) (heads table.Links) (λ _. rows_added table.Links 2 s) (λ header rest. rows_keep (file_of table.Links) (row_added table.Links) link_keeps 2 s rest) rows

slices_keep : (total : ℕ) (row : DemandRow) (s : ScenarioData) (slices : List Slice) → Keeps s (slices_set total row s slices)
slices_keep total row s [] = refl
slices_keep total row s (slice ∷ slices) = keeps_on s (with_demand s (slice_row total row slice)) _ (demand_set_keeps s (slice_row total row slice)) (λ next. slices_keep total row next slices)

matrix_row_keeps : (p : ProfileData) (s : ScenarioData) (fields : Fields) → Keeps s (matrix_row_added p s fields)
matrix_row_keeps p s fields = then_keeps s (matrix_record fields) (λ r. with_matrix_record p s r) (λ r.
    then_keeps s (pair_ends s r.origin r.destination) _ (λ ends.
    keeps_on s (taken (with_destination s ends.1) _) _ (taken_keeps s (with_destination s ends.1) _ (destination_keeps s ends.1)) (λ next.
    taken_keeps next (slices_set p.total (whole_row next r ends) next p.slices) _ (slices_keep p.total (whole_row next r ends) next p.slices))))

matrix_keeps : (p : ProfileData) (s : ScenarioData) (rows : List Fields) → Keeps s (matrix_added p s rows)
unfolding matrix_added
matrix_keeps p s rows = header_keeps s file.Demand is_matrix_header (λ _ rest. rows_from file.Demand (matrix_row_added p) 2 s rest) (λ header rest. rows_keep file.Demand (matrix_row_added p) (matrix_row_keeps p) 2 s rest) rows

demands_keep : (s : ScenarioData) (rows : List Fields) → Keeps s (table_added table.Demand s rows)
unfolding table_added
demands_keep s rows = header_keeps s (file_of table.Demand) (heads table.Demand) (λ _. rows_added table.Demand 2 s) (λ header rest. rows_keep (file_of table.Demand) (row_added table.Demand) demand_keeps 2 s rest) rows

demand_file_keeps : (s : ScenarioData) (profile : Option (List ℕ)) (demand : List ℕ) → Keeps s (with_demand_file s profile demand)
demand_file_keeps s None demand = demands_keep s (records_of demand)
demand_file_keeps s (Some profile) demand = then_keeps s (profile_of s.setup.slots (records_of profile)) _ (λ p. matrix_keeps p s (records_of demand))

roads_keep : (s : ScenarioData) (texts : RoadTexts) → Keeps s (roads_filled s texts)
unfolding roads_filled
roads_keep s texts = keeps_on s (with_file table.Links s texts.links) _ (links_keep s (records_of texts.links)) (λ next. demand_file_keeps next texts.profile texts.demand)

-- so a scenario without them stays without them
pub unsplit : (s next : ScenarioData) (texts : RoadTexts) → roads_filled s texts ≡ Ok next → s.splits ≡ [] → next.splits ≡ []
unsplit s next texts is none = go (roads_filled s texts) (roads_keep s texts) is ∙ none
  where
    go : (r : Result ScenarioData CaseFault) → Keeps s r → r ≡ Ok next → next.splits ≡ s.splits
    go (Ok x) keeps e = let same : next ≡ x = cc in ap (λ (z : ScenarioData). z.splits) same ∙ keeps
    go (Err fault) keeps e = cc
