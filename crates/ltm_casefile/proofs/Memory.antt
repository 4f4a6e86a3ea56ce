-- What the definitions of a case tell is never the network's want of memory.
use Rattle.std.proofs.Common.{◌≡◌, ℕ, ◌+◌, ◌==◌, List, [], ◌∷◌, Bool, true, false, Result, Ok, Err, Option, Some, None, refl, ap, subst}
use Rattle.std.specs.Prelude.{option_and_then, IfErr, if◌then◌else◌, is_some, not, nat_le, nat_lt, length, sum}
use Rattle.std.specs.List.{list_all}
use Rattle.ltm_units.specs.Results.{refuse, found}
use Rattle.ltm_io.specs.Folder.{Files}
use Rattle.ltm_network.specs.Network as network
use Rattle.ltm_network.specs.Network.{NetworkData, find_node, find_link}
use Rattle.ltm_network.specs.Names.{same}
use Rattle.ltm_network.specs.declared.network.NetworkFault.{NetworkFault}
use Rattle.ltm_network.specs.declared.network.NetworkFault.TheVariants as refusal
use Rattle.ltm_diagram.specs.declared.diagram.Diagram.{Diagram}
use Rattle.ltm_diagram.specs.declared.diagram.DiagramFault.{DiagramFault}
use Rattle.ltm_diagram.specs.Limits.{limits_of}
use Rattle.ltm_scenario.specs.Data.{ScenarioData}
use Rattle.ltm_scenario.specs.Build.{◌>>=◌, with_link, of_network, of_diagram, are_slots, with_destination, with_demand, with_split, with_limit_set}
use Rattle.ltm_scenario.specs.Reads.{has_no_out_link}
use Rattle.ltm_scenario.specs.Edits.{is_out_link, weights_at}
use Rattle.ltm_splits.specs.Rows.{key_of}
use Rattle.ltm_scenario.specs.Check.{Checked, checked}
use Rattle.ltm_units.specs.Bounds.{longest_file, default_demand_rows, default_split_rows, default_links, default_destinations}
use Rattle.ltm_scenario.specs.Setup.{setup_checked, default_cells}
use Rattle.ltm_scenario.specs.declared.side.Side.{Side}
use Rattle.ltm_scenario.specs.declared.side.Side.TheVariants as side
use Rattle.ltm_scenario.specs.declared.faults.LinkFault.{LinkFault}
use Rattle.ltm_scenario.specs.declared.setup.SetupFault.{SetupFault}
use Rattle.ltm_scenario.specs.declared.setup.SetupFault.TheVariants as setup_fault
use Rattle.ltm_scenario.specs.declared.faults.ScenarioFault.TheVariants as broken
use Rattle.ltm_records.specs.Fields.{Fields}
use Rattle.ltm_records.specs.Left.{records_of}
use Rattle.ltm_casefile.specs.declared.faults.CaseCause.{CaseCause}
use Rattle.ltm_casefile.specs.declared.faults.CaseCause.TheVariants as cause
use Rattle.ltm_casefile.specs.declared.faults.CaseFault.{CaseFault}
use Rattle.ltm_casefile.specs.declared.faults.CaseFault.TheVariants.{Folder, TooLong, Bad, NoHistory, NoMemory}
use Rattle.ltm_casefile.specs.declared.faults.File.{File}
use Rattle.ltm_casefile.specs.declared.faults.File.TheVariants as file
use Rattle.ltm_casefile.specs.declared.tables.Table.{Table}
use Rattle.ltm_casefile.specs.declared.tables.Table.TheVariants as table
use Rattle.ltm_casefile.specs.declared.columns.Columns.{Columns}
use Rattle.ltm_casefile.specs.declared.setup.Asked.{Asked}
use Rattle.ltm_casefile.specs.declared.setup.SetupRecord.{SetupRecord}
use Rattle.ltm_casefile.specs.declared.demand.DemandRecord.{DemandRecord}
use Rattle.ltm_casefile.specs.declared.splits.SplitRecord.{SplitRecord}
use Rattle.ltm_casefile.specs.Causes.{taken}
use Rattle.ltm_casefile.specs.Rows.{at_row, rows_from, below_header}
use Rattle.ltm_casefile.specs.Fields.{has_width, name_in, number_in, amount_in, weights_in}
use Rattle.ltm_casefile.specs.Setup.{number_if, setup_record, flags_checked, rules_checked, in_range, opened, setup_read, only_row, setup_of, asks_for_many, longest_beside}
use Rattle.ltm_casefile.specs.Columns.{limits_field, cells_field, rows_field, links_field, destinations_field, moves_field, carry_field, history_field, routes_field, width_of, columns_of, is_setup_header}
use Rattle.ltm_casefile.specs.Links.{link_record, cause_of_link, link_added}
use Rattle.ltm_casefile.specs.Links as links
use Rattle.ltm_casefile.specs.Demand.{demand_record, pair_ends, demand_ends, demand_row, place_of, with_demand_record, demand_added}
use Rattle.ltm_casefile.specs.Splits.{split_record, split_ends, with_split_record, split_added}
use Rattle.ltm_casefile.specs.SideLimits.{limit_record, with_limit_record, limit_added}
use Rattle.ltm_casefile.specs.Profile.{ProfileData, no_slices, is_profile_header, slice_record, is_next, is_share, slice_added, slices_of, profile_of}
use Rattle.ltm_casefile.specs.Matrix.{is_matrix_header, is_matrix, matrix_record, whole_row, slices_set, with_matrix_record, matrix_row_added, matrix_added}
use Rattle.ltm_casefile.specs.Folder.{sized, doc_of, text_of, text_within, text_if, longest_large_file}
use Rattle.ltm_casefile.specs.declared.setup.Opened.{Opened}
use Rattle.ltm_casefile.specs.Tables.{table_added, rows_added, row_added, heads, file_of, with_file, with_file_if}
use Rattle.ltm_casefile.specs.Case.{texts_of, limit_texts_of, limited, filled, sound, whole, CaseTexts, LimitTexts, CaseParts, parts_of, built, case_of}
use Rattle.ltm_routes.specs.Missing.{with_routes}
use Rattle.ltm_casefile.specs.Routed.{routed_if}
use Rattle.ltm_casefile.specs.Roads.{RoadTexts, road_texts_of, with_demand_file, roads_filled, roads_in, unsplit_case_of}
use Rattle.ltm_casefile.specs.Faults.{Says, IsNoWant, HidesNoMemory}

-- each fault that may be told is one of these
abbrev Told : {A E : Type 0} → (E → Type 0) → Result A E → Type 0
Told {E = E} P r = (e : E) → r ≡ Err e → P e

fine : {A E : Type 0} (P : E → Type 0) (x : A) → Told P (Ok x)
fine P x e is = cc

wrong : {A E : Type 0} (P : E → Type 0) (fault : E) → P fault → Told {A = A} P (Err fault)
wrong P fault holds e is = subst P (let same : fault ≡ e = cc in same) holds

then_told : {A B E : Type 0} (P : E → Type 0) (r : Result A E) (next : A → Result B E) → Told P r → ((x : A) → Told P (next x)) → Told P (r >>= next)
then_told P (Ok x) next first second = second x
then_told P (Err fault) next first second = wrong P fault (first fault refl)

told : {A E : Type 0} (P : E → Type 0) (r : Result A E) → Told P r → IfErr r P
told P (Ok x) is = tt
told P (Err fault) is = is fault refl

-- ---- causes
abbrev Clean : {A : Type 0} → Result A CaseCause → Type 0
Clean r = Told IsNoWant r

refused : (test : Bool) (c : CaseCause) → IsNoWant c → Clean (refuse test c)
refused true c is = wrong IsNoWant c is
refused false c is = fine IsNoWant tt

looked : {A : Type 0} (o : Option A) (c : CaseCause) → IsNoWant c → Clean (found o c)
looked None c is = wrong IsNoWant c is
looked (Some x) c is = fine IsNoWant x

kept : {A F : Type 0} (r : Result A F) (c : CaseCause) → IsNoWant c → Clean (taken r c)
kept (Ok x) c is = fine IsNoWant x
kept (Err fault) c is = wrong IsNoWant c is

then_clean : {A B : Type 0} (r : Result A CaseCause) (next : A → Result B CaseCause) → Clean r → ((x : A) → Clean (next x)) → Clean (r >>= next)
then_clean r next first second = then_told IsNoWant r next first second

-- ---- links
abbrev OfNetwork : NetworkFault → Type 0
OfNetwork fault = IsNoWant (cause.Network fault)

abbrev OfLink : LinkFault → Type 0
OfLink fault = IsNoWant (cause_of_link fault)

-- a fault where the test holds, and else what is next
abbrev tested : {A : Type 0} → Result (Unit {0}) NetworkFault → Result A NetworkFault → Result A NetworkFault
tested (Ok x) next = next
tested (Err fault) next = Err fault

abbrev stop : Bool → NetworkFault → Result (Unit {0}) NetworkFault
stop test fault = if test then Err fault else Ok tt

stop_told : (test : Bool) (fault : NetworkFault) → OfNetwork fault → Told OfNetwork (stop test fault)
stop_told true fault is = wrong OfNetwork fault is
stop_told false fault is = fine OfNetwork tt

tested_told : {A : Type 0} (r : Result (Unit {0}) NetworkFault) (next : Result A NetworkFault) → Told OfNetwork r → Told OfNetwork next → Told OfNetwork (tested r next)
tested_told (Ok x) next first second = second
tested_told (Err fault) next first second = wrong OfNetwork fault (first fault refl)

checked_told : (d : NetworkData) (name tail head : List ℕ) → Told OfNetwork (network.checked d name tail head)
unfolding network.checked
checked_told d name tail head =
    tested_told (stop (is_some (network.find_link d name)) refusal.TwiceNamed) _ (stop_told (is_some (network.find_link d name)) refusal.TwiceNamed tt)
    (tested_told (stop (same tail head) refusal.SelfLoop) _ (stop_told (same tail head) refusal.SelfLoop tt)
    (tested_told (stop (nat_le d.most_links (length d.links)) refusal.TooManyLinks) _ (stop_told (nat_le d.most_links (length d.links)) refusal.TooManyLinks tt)
    (tested_told (stop (nat_le 4 (network.out_degree d tail)) refusal.TooManyOut) _ (stop_told (nat_le 4 (network.out_degree d tail)) refusal.TooManyOut tt)
    (stop_told (nat_le 4 (network.in_degree d head)) refusal.TooManyIn tt))))

network_told : (d : NetworkData) (name tail head : List ℕ) → Told OfNetwork (network.with_link d name tail head)
unfolding network.with_link
network_told d name tail head = tested_told (network.checked d name tail head) (Ok (network.network_linked d name tail head)) (checked_told d name tail head) (fine OfNetwork (network.network_linked d name tail head))

of_network_told : {A : Type 0} (r : Result A NetworkFault) → Told OfNetwork r → Told OfLink (of_network r)
of_network_told (Ok x) is = fine OfLink x
of_network_told (Err fault) is = wrong OfLink _ (is fault refl)

of_diagram_told : {A : Type 0} (r : Result A DiagramFault) → Told OfLink (of_diagram r)
of_diagram_told (Ok x) = fine OfLink x
of_diagram_told (Err fault) = wrong OfLink _ tt

with_link_told : (s : ScenarioData) (name tail head : List ℕ) (d : Diagram) → Told OfLink (with_link s name tail head d)
unfolding with_link
with_link_told s name tail head d =
    then_told OfLink (of_network (network.with_link s.network name tail head)) _ (of_network_told _ (network_told s.network name tail head))
    (λ next. then_told OfLink (of_diagram (limits_of d s.setup.step.0 s.setup.carry)) _ (of_diagram_told (limits_of d s.setup.step.0 s.setup.carry)) (λ limits. fine _ _))

linked_clean : (r : Result ScenarioData LinkFault) → Told OfLink r → Clean (links.linked r)
linked_clean (Ok next) is = fine IsNoWant next
linked_clean (Err fault) is = wrong IsNoWant _ (is fault refl)

link_record_clean : (fields : Fields) → Clean (link_record fields)
unfolding link_record
link_record_clean fields =
    then_clean (has_width fields 7) _ (refused _ cause.Width tt) (λ _.
    then_clean (name_in fields 1) _ (looked _ (cause.Field 1) tt) (λ name.
    then_clean (name_in fields 2) _ (looked _ (cause.Field 2) tt) (λ tail.
    then_clean (name_in fields 3) _ (looked _ (cause.Field 3) tt) (λ head.
    then_clean (number_in fields 4) _ (looked _ (cause.Field 4) tt) (λ length_m.
    then_clean (number_in fields 5) _ (looked _ (cause.Field 5) tt) (λ free_kmh.
    then_clean (number_in fields 6) _ (looked _ (cause.Field 6) tt) (λ wave_kmh.
    then_clean (number_in fields 7) _ (looked _ (cause.Field 7) tt) (λ jam_per_km. fine _ _))))))))

link_clean : (s : ScenarioData) (fields : Fields) → Clean (link_added s fields)
link_clean s fields = then_clean (link_record fields) _ (link_record_clean fields) (λ r. linked_clean _ (with_link_told s r.name r.tail r.head r.diagram))

-- ---- demand
demand_record_clean : (fields : Fields) → Clean (demand_record fields)
unfolding demand_record
demand_record_clean fields =
    then_clean (has_width fields 5) _ (refused _ cause.Width tt) (λ _.
    then_clean (name_in fields 1) _ (looked _ (cause.Field 1) tt) (λ origin.
    then_clean (name_in fields 2) _ (looked _ (cause.Field 2) tt) (λ destination.
    then_clean (number_in fields 3) _ (looked _ (cause.Field 3) tt) (λ from.
    then_clean (number_in fields 4) _ (looked _ (cause.Field 4) tt) (λ to.
    then_clean (amount_in fields 5) _ (looked _ (cause.Field 5) tt) (λ amount. fine _ _))))))

pair_ends_clean : (s : ScenarioData) (from to : List ℕ) → Clean (pair_ends s from to)
unfolding pair_ends
pair_ends_clean s from to =
    then_clean (found (find_node s.network from) (cause.Unknown 1)) _ (looked (find_node s.network from) (cause.Unknown 1) tt) (λ origin.
    then_clean (found (find_node s.network to) (cause.Unknown 2)) _ (looked (find_node s.network to) (cause.Unknown 2) tt) (λ end.
    then_clean (refuse (has_no_out_link s origin) cause.NoOrigin) _ (refused (has_no_out_link s origin) cause.NoOrigin tt) (λ _.
    then_clean (refuse (origin == end) cause.SameEnds) _ (refused (origin == end) cause.SameEnds tt) (λ _. fine IsNoWant (origin, end)))))

demand_ends_clean : (s : ScenarioData) (r : DemandRecord) → Clean (demand_ends s r)
demand_ends_clean s r =
    then_clean (pair_ends s r.origin r.destination) _ (pair_ends_clean s r.origin r.destination) (λ ends.
    then_clean (refuse (not (are_slots s r.from r.to)) cause.BadSlots) _ (refused (not (are_slots s r.from r.to)) cause.BadSlots tt) (λ _. fine IsNoWant ends))

demand_clean : (s : ScenarioData) (fields : Fields) → Clean (demand_added s fields)
demand_clean s fields =
    then_clean (demand_record fields) (λ r. with_demand_record s r) (demand_record_clean fields) (λ r.
    then_clean (demand_ends s r) _ (demand_ends_clean s r) (λ ends.
    then_clean (taken (with_destination s ends.1) cause.TooManyDestinations) _ (kept (with_destination s ends.1) cause.TooManyDestinations tt) (λ next.
    kept (with_demand next (demand_row next r ends)) cause.TooManyRows tt)))

-- ---- a profile, and a matrix
slice_record_clean : (fields : Fields) → Clean (slice_record fields)
unfolding slice_record
slice_record_clean fields =
    then_clean (has_width fields 3) _ (refused _ cause.Width tt) (λ _.
    then_clean (number_in fields 1) _ (looked _ (cause.Field 1) tt) (λ from.
    then_clean (number_in fields 2) _ (looked _ (cause.Field 2) tt) (λ to.
    then_clean (number_in fields 3) _ (looked _ (cause.Field 3) tt) (λ share. fine _ _))))

slice_clean : (slots : ℕ) (p : ProfileData) (fields : Fields) → Clean (slice_added slots p fields)
slice_clean slots p fields =
    then_clean (slice_record fields) _ (slice_record_clean fields) (λ r.
    then_clean (refuse (not (is_next slots p r)) cause.BadSlots) _ (refused (not (is_next slots p r)) cause.BadSlots tt) (λ _.
    then_clean (refuse (not (is_share r.share)) (cause.Range 3)) _ (refused (not (is_share r.share)) (cause.Range 3) tt) (λ _. fine _ _)))

matrix_record_clean : (fields : Fields) → Clean (matrix_record fields)
unfolding matrix_record
matrix_record_clean fields =
    then_clean (has_width fields 3) _ (refused _ cause.Width tt) (λ _.
    then_clean (name_in fields 1) _ (looked _ (cause.Field 1) tt) (λ origin.
    then_clean (name_in fields 2) _ (looked _ (cause.Field 2) tt) (λ destination.
    then_clean (amount_in fields 3) _ (looked _ (cause.Field 3) tt) (λ amount. fine _ _))))

matrix_clean : (p : ProfileData) (s : ScenarioData) (fields : Fields) → Clean (matrix_row_added p s fields)
matrix_clean p s fields =
    then_clean (matrix_record fields) (λ r. with_matrix_record p s r) (matrix_record_clean fields) (λ r.
    then_clean (pair_ends s r.origin r.destination) _ (pair_ends_clean s r.origin r.destination) (λ ends.
    then_clean (taken (with_destination s ends.1) cause.TooManyDestinations) _ (kept (with_destination s ends.1) cause.TooManyDestinations tt) (λ next.
    kept (slices_set p.total (whole_row next r ends) next p.slices) cause.TooManyRows tt)))

-- ---- splits
split_record_clean : (fields : Fields) → Clean (split_record fields)
unfolding split_record
split_record_clean fields =
    then_clean (has_width fields 4) _ (refused _ cause.Width tt) (λ _.
    then_clean (name_in fields 1) _ (looked _ (cause.Field 1) tt) (λ node.
    then_clean (name_in fields 2) _ (looked _ (cause.Field 2) tt) (λ destination.
    then_clean (number_in fields 3) _ (looked _ (cause.Field 3) tt) (λ from.
    then_clean (weights_in fields 4) _ (looked _ (cause.Field 4) tt) (λ weights. fine _ _)))))

split_ends_clean : (s : ScenarioData) (r : SplitRecord) → Clean (split_ends s r)
unfolding split_ends
split_ends_clean s r =
    then_clean (found (find_node s.network r.node) (cause.Unknown 1)) _ (looked (find_node s.network r.node) (cause.Unknown 1) tt) (λ node.
    then_clean (found (find_node s.network r.destination) (cause.Unknown 2)) _ (looked (find_node s.network r.destination) (cause.Unknown 2) tt) (λ end.
    then_clean (refuse (node == end) cause.SameEnds) _ (refused (node == end) cause.SameEnds tt) (λ _.
    then_clean (refuse (not (nat_lt r.from s.setup.slots)) cause.BadSlots) _ (refused (not (nat_lt r.from s.setup.slots)) cause.BadSlots tt) (λ _.
    then_clean (refuse (not (list_all (λ w. is_out_link s node w.0) r.weights)) (cause.Unknown 4)) _ (refused (not (list_all (λ w. is_out_link s node w.0) r.weights)) (cause.Unknown 4) tt) (λ _. fine IsNoWant (node, end))))))

split_clean : (s : ScenarioData) (fields : Fields) → Clean (split_added s fields)
split_clean s fields =
    then_clean (split_record fields) (λ r. with_split_record s r) (split_record_clean fields) (λ r.
    then_clean (split_ends s r) _ (split_ends_clean s r) (λ ends.
    then_clean (refuse (sum (weights_at s ends.0 r.weights) == 0) cause.ZeroWeight) _ (refused (sum (weights_at s ends.0 r.weights) == 0) cause.ZeroWeight tt) (λ _.
    then_clean (taken (with_destination s ends.1) cause.TooManyDestinations) _ (kept (with_destination s ends.1) cause.TooManyDestinations tt) (λ next.
    kept (with_split next (key_of ends.0 (place_of next ends.1) r.from) (weights_at s ends.0 r.weights)) cause.TooManyRows tt))))

-- ---- signals and entry limits
limit_record_clean : (fields : Fields) → Clean (limit_record fields)
unfolding limit_record
limit_record_clean fields =
    then_clean (has_width fields 4) _ (refused _ cause.Width tt) (λ _.
    then_clean (name_in fields 1) _ (looked _ (cause.Field 1) tt) (λ link.
    then_clean (number_in fields 2) _ (looked _ (cause.Field 2) tt) (λ from.
    then_clean (number_in fields 3) _ (looked _ (cause.Field 3) tt) (λ to.
    then_clean (amount_in fields 4) _ (looked _ (cause.Field 4) tt) (λ amount. fine _ _)))))

limit_clean : (side : Side) (s : ScenarioData) (fields : Fields) → Clean (limit_added side s fields)
limit_clean side s fields =
    then_clean (limit_record fields) (λ r. with_limit_record side s r) (limit_record_clean fields) (λ r.
    then_clean (found (find_link s.network r.link) (cause.Unknown 1)) _ (looked (find_link s.network r.link) (cause.Unknown 1) tt) (λ link.
    kept (with_limit_set s side link r.from r.to r.amount.0) cause.BadSlots tt))

-- ---- the setup
number_clean : (there : Bool) (absent : ℕ) (fields : Fields) (field : ℕ) → Clean (number_if there absent fields field)
number_clean true absent fields field = looked _ (cause.Field field) tt
number_clean false absent fields field = fine IsNoWant absent

setup_record_clean : (columns : Columns) (fields : Fields) → Clean (setup_record columns fields)
unfolding setup_record
setup_record_clean columns fields =
    then_clean (has_width fields (width_of columns)) _ (refused _ cause.Width tt) (λ _.
    then_clean (number_in fields 1) _ (looked _ (cause.Field 1) tt) (λ step.
    then_clean (number_in fields 2) _ (looked _ (cause.Field 2) tt) (λ slots.
    then_clean (amount_in fields 3) _ (looked _ (cause.Field 3) tt) (λ capacity.
    then_clean (number_if columns.signals 0 fields 4) _ (number_clean columns.signals 0 fields 4) (λ signals.
    then_clean (number_if columns.limits 0 fields (limits_field columns)) _ (number_clean columns.limits 0 fields (limits_field columns)) (λ limits.
    then_clean (number_if columns.cells default_cells fields (cells_field columns)) _ (number_clean columns.cells default_cells fields (cells_field columns)) (λ cells.
    then_clean (number_if columns.rows default_demand_rows fields (rows_field columns)) _ (number_clean columns.rows default_demand_rows fields (rows_field columns)) (λ demand_rows.
    then_clean (number_if columns.rows default_split_rows fields (rows_field columns)) _ (number_clean columns.rows default_split_rows fields (rows_field columns)) (λ split_rows.
    then_clean (number_if columns.links default_links fields (links_field columns)) _ (number_clean columns.links default_links fields (links_field columns)) (λ links.
    then_clean (number_if columns.destinations default_destinations fields (destinations_field columns)) _ (number_clean columns.destinations default_destinations fields (destinations_field columns)) (λ destinations.
    then_clean (number_if columns.moves 0 fields (moves_field columns)) _ (number_clean columns.moves 0 fields (moves_field columns)) (λ moves.
    then_clean (number_if columns.carry 0 fields (carry_field columns)) _ (number_clean columns.carry 0 fields (carry_field columns)) (λ carry.
    then_clean (number_if columns.history 1 fields (history_field columns)) _ (number_clean columns.history 1 fields (history_field columns)) (λ history.
    then_clean (number_if columns.routes 0 fields (routes_field columns)) _ (number_clean columns.routes 0 fields (routes_field columns)) (λ routes. fine _ _)))))))))))))))

flags_clean : (columns : Columns) (r : SetupRecord) → Clean (flags_checked columns r)
flags_clean columns r =
    then_clean (refuse (nat_lt 1 r.signals) (cause.Range 4)) _ (refused (nat_lt 1 r.signals) (cause.Range 4) tt) (λ _.
    refused (nat_lt 1 r.limits) (cause.Range (limits_field columns)) tt)

rules_clean : (columns : Columns) (r : SetupRecord) → Clean (rules_checked columns r)
rules_clean columns r =
    then_clean (refuse (nat_lt 1 r.moves) (cause.Range (moves_field columns))) _ (refused (nat_lt 1 r.moves) (cause.Range (moves_field columns)) tt) (λ _.
    then_clean (refuse (nat_lt 1 r.carry) (cause.Range (carry_field columns))) _ (refused (nat_lt 1 r.carry) (cause.Range (carry_field columns)) tt) (λ _.
    then_clean (refuse (nat_lt 1 r.history) (cause.Range (history_field columns))) _ (refused (nat_lt 1 r.history) (cause.Range (history_field columns)) tt) (λ _.
    refused (nat_lt 1 r.routes) (cause.Range (routes_field columns)) tt)))

in_range_clean : (columns : Columns) (r : SetupRecord) (checked : Result (Unit {0}) SetupFault) → Clean (in_range columns r checked)
in_range_clean columns r (Ok x) = then_clean (flags_checked columns r) _ (flags_clean columns r) (λ _. rules_clean columns r)
in_range_clean columns r (Err (setup_fault.Range field)) = wrong IsNoWant _ tt
in_range_clean columns r (Err setup_fault.MostCells) = then_clean (flags_checked columns r) _ (flags_clean columns r) (λ _. wrong IsNoWant _ tt)
in_range_clean columns r (Err setup_fault.MostRows) = then_clean (flags_checked columns r) _ (flags_clean columns r) (λ _. wrong IsNoWant _ tt)
in_range_clean columns r (Err setup_fault.MostLinks) = then_clean (flags_checked columns r) _ (flags_clean columns r) (λ _. wrong IsNoWant _ tt)
in_range_clean columns r (Err setup_fault.MostDestinations) = then_clean (flags_checked columns r) _ (flags_clean columns r) (λ _. wrong IsNoWant _ tt)

opened_clean : (columns : Columns) (r : SetupRecord) → Clean (opened columns r)
opened_clean columns r = then_clean (in_range columns r (setup_checked r.setup)) _ (in_range_clean columns r (setup_checked r.setup)) (λ _. fine _ _)

-- ---- faults
abbrev Hides : {A : Type 0} → Result A CaseFault → Type 0
Hides r = Told HidesNoMemory r

then_hides : {A B : Type 0} (r : Result A CaseFault) (next : A → Result B CaseFault) → Hides r → ((x : A) → Hides (next x)) → Hides (r >>= next)
then_hides r next first second = then_told HidesNoMemory r next first second

at_hides : {A : Type 0} (f : File) (row : ℕ) (r : Result A CaseCause) → Clean r → Hides (at_row f row r)
at_hides f row (Ok x) is = fine HidesNoMemory x
at_hides f row (Err c) is = wrong HidesNoMemory _ (is c refl)

rows_hide : {S : Type 0} (f : File) (step : S → Fields → Result S CaseCause) → ((s : S) (fields : Fields) → Clean (step s fields)) → (row : ℕ) (s : S) (rows : List Fields) → Hides (rows_from f step row s rows)
rows_hide f step clean row s [] = fine HidesNoMemory s
rows_hide f step clean row s (fields ∷ rest) = then_hides (at_row f row (step s fields)) _ (at_hides f row (step s fields) (clean s fields)) (λ next. rows_hide f step clean (row + 1) next rest)

header_hides : {A : Type 0} (f : File) (is_header : Fields → Bool) (more : Fields → List Fields → Result A CaseFault) → ((header : Fields) (rows : List Fields) → Hides (more header rows)) → (rows : List Fields) → Hides (below_header f is_header more rows)
header_hides f is_header more hides [] = wrong HidesNoMemory _ tt
header_hides f is_header more hides (header ∷ rows) = then_hides (at_row f 1 (refuse _ cause.Header)) _ (at_hides f 1 (refuse _ cause.Header) (refused _ cause.Header tt)) (λ _. hides header rows)

row_clean : (t : Table) (s : ScenarioData) (fields : Fields) → Clean (row_added t s fields)
row_clean table.Links s fields = link_clean s fields
row_clean table.Demand s fields = demand_clean s fields
row_clean table.Splits s fields = split_clean s fields
row_clean table.Signals s fields = limit_clean side.Exit s fields
row_clean table.Limits s fields = limit_clean side.Entry s fields

table_hides : (t : Table) (s : ScenarioData) (rows : List Fields) → Hides (table_added t s rows)
unfolding table_added
table_hides t s rows = header_hides (file_of t) (heads t) (λ _. rows_added t 2 s) (λ header rest. rows_hide (file_of t) (row_added t) (row_clean t) 2 s rest) rows

profile_hides : (slots : ℕ) (rows : List Fields) → Hides (profile_of slots rows)
unfolding profile_of
profile_hides slots rows = header_hides file.Profile is_profile_header (λ _ rest. slices_of slots rest) (λ header rest.
    then_hides (rows_from file.Profile (slice_added slots) 2 no_slices rest) _ (rows_hide file.Profile (slice_added slots) (slice_clean slots) 2 no_slices rest) (λ p.
    then_hides (at_row file.Profile 2 (refuse (p.total == 0) cause.Rows)) _ (at_hides file.Profile 2 (refuse (p.total == 0) cause.Rows) (refused (p.total == 0) cause.Rows tt)) (λ _. fine _ _))) rows

matrix_hides : (p : ProfileData) (s : ScenarioData) (rows : List Fields) → Hides (matrix_added p s rows)
unfolding matrix_added
matrix_hides p s rows = header_hides file.Demand is_matrix_header (λ _ rest. rows_from file.Demand (matrix_row_added p) 2 s rest) (λ header rest. rows_hide file.Demand (matrix_row_added p) (matrix_clean p) 2 s rest) rows

demand_hides : (s : ScenarioData) (profile : Option (List ℕ)) (demand : List ℕ) → Hides (with_demand_file s profile demand)
demand_hides s None demand = table_hides table.Demand s (records_of demand)
demand_hides s (Some profile) demand =
    then_hides (profile_of s.setup.slots (records_of profile)) _ (profile_hides s.setup.slots (records_of profile)) (λ p. matrix_hides p s (records_of demand))

only_row_hides : (columns : Columns) (rows : List Fields) → Hides (only_row columns rows)
only_row_hides columns [] = wrong HidesNoMemory _ tt
only_row_hides columns (row ∷ rows) =
    then_hides (at_row file.Setup 2 (setup_read columns row)) _ (at_hides file.Setup 2 (setup_read columns row) (then_clean (setup_record columns row) _ (setup_record_clean columns row) (opened_clean columns))) (λ o.
    then_hides (at_row file.Setup 3 (refuse _ cause.Rows)) _ (at_hides file.Setup 3 (refuse _ cause.Rows) (refused _ cause.Rows tt)) (λ _. fine _ _))

setup_hides : (rows : List Fields) → Hides (setup_of rows)
unfolding setup_of
setup_hides rows = header_hides file.Setup is_setup_header _ (λ header rest. only_row_hides (columns_of header) rest) rows

-- ---- the files
sized_hides : (most : ℕ) (f : File) (o : Option (List ℕ)) → Hides (sized most f o)
sized_hides most f None = wrong HidesNoMemory _ tt
sized_hides most f (Some bytes) = chosen _
  where
    chosen : (b : Bool) → Told {A = List ℕ} HidesNoMemory (if b then Ok bytes else Err (TooLong f))
    chosen true = fine HidesNoMemory bytes
    chosen false = wrong HidesNoMemory _ tt

within_hides : (most : ℕ) (files : Files) (f : File) → Hides (text_within most files f)
within_hides most files f = sized_hides most f (option_and_then files (doc_of f))

text_hides : (files : Files) (f : File) → Hides (text_of files f)
text_hides files f = within_hides longest_file files f

text_if_hides : (asked : Bool) (files : Files) (f : File) → Hides (text_if asked files f)
text_if_hides true files f = then_hides (text_of files f) _ (text_hides files f) (λ bytes. fine _ _)
text_if_hides false files f = fine HidesNoMemory None

road_texts_hide : (files : Files) → Hides (road_texts_of files)
unfolding road_texts_of
road_texts_hide files =
    then_hides (text_of files file.Setup) _ (text_hides files file.Setup) (λ setup.
    then_hides (text_of files file.Links) _ (text_hides files file.Links) (λ links.
    then_hides (text_within (longest_beside setup) files file.Demand) _ (within_hides (longest_beside setup) files file.Demand) (λ demand.
    then_hides (text_if (is_matrix demand) files file.Profile) _ (text_if_hides (is_matrix demand) files file.Profile) (λ profile. fine _ _))))

texts_hide : (files : Files) → Hides (texts_of files)
unfolding texts_of
texts_hide files =
    then_hides (road_texts_of files) _ (road_texts_hide files) (λ roads.
    then_hides (text_within (longest_beside roads.setup) files file.Splits) _ (within_hides (longest_beside roads.setup) files file.Splits) (λ splits. fine HidesNoMemory (record { roads = roads; splits = splits })))

limit_texts_hide : (files : Files) (asked : Asked) → Hides (limit_texts_of files asked)
unfolding limit_texts_of
limit_texts_hide files asked =
    then_hides (text_if asked.signals files file.Signals) _ (text_if_hides asked.signals files file.Signals) (λ signals.
    then_hides (text_if asked.limits files file.Limits) _ (text_if_hides asked.limits files file.Limits) (λ limits. fine _ _))

parts_hide : (files : Files) → Hides (parts_of files)
unfolding parts_of
parts_hide files =
    then_hides (texts_of files) _ (texts_hide files) (λ texts.
    then_hides (setup_of (records_of texts.roads.setup)) _ (setup_hides (records_of texts.roads.setup)) (λ opened.
    then_hides (limit_texts_of files opened.asked) _ (limit_texts_hide files opened.asked) (λ limits. fine _ _)))

file_if_hides : (t : Table) (s : ScenarioData) (text : Option (List ℕ)) → Hides (with_file_if t s text)
file_if_hides t s None = fine HidesNoMemory s
file_if_hides t s (Some bytes) = table_hides t s (records_of bytes)

limited_hides : (s : ScenarioData) (texts : LimitTexts) → Hides (limited s texts)
limited_hides s texts =
    then_hides (with_file_if table.Signals s texts.signals) _ (file_if_hides table.Signals s texts.signals) (λ signalled.
    file_if_hides table.Limits signalled texts.limits)

roads_filled_hides : (s : ScenarioData) (texts : RoadTexts) → Hides (roads_filled s texts)
unfolding roads_filled
roads_filled_hides s texts =
    then_hides (with_file table.Links s texts.links) _ (table_hides table.Links s (records_of texts.links)) (λ linked.
    demand_hides linked texts.profile texts.demand)

routed_hides : (asked : Bool) (s : ScenarioData) → Hides (routed_if asked s)
routed_hides true s = at_hides file.Whole 0 (taken (with_routes s) cause.TooManyRows) (kept (with_routes s) cause.TooManyRows tt)
routed_hides false s = fine HidesNoMemory s

filled_hides : (s : ScenarioData) (routes : Bool) (texts : CaseTexts) (limits : LimitTexts) → Hides (filled s routes texts limits)
unfolding filled
filled_hides s routes texts limits =
    then_hides (roads_filled s texts.roads) _ (roads_filled_hides s texts.roads) (λ demanded.
    then_hides (with_file table.Splits demanded texts.splits) _ (table_hides table.Splits demanded (records_of texts.splits)) (λ split.
    then_hides (routed_if routes split) _ (routed_hides routes split) (λ routed. limited_hides routed limits)))

sound_hides : (s : ScenarioData) (c : Checked) → Hides (sound s c)
sound_hides s (Ok x) = fine HidesNoMemory s
sound_hides s (Err (broken.NoSplit node destination)) = wrong HidesNoMemory _ tt
sound_hides s (Err (broken.CellsOver cells)) = wrong HidesNoMemory _ tt

built_hides : (parts : CaseParts) → Hides (built parts)
built_hides parts = then_hides (filled parts.scenario parts.routes parts.texts parts.limits) (λ s. whole s) (filled_hides parts.scenario parts.routes parts.texts parts.limits) (λ s. sound_hides s (checked s))

pub case_hides : (files : Files) → IfErr (case_of files) HidesNoMemory
case_hides files = told HidesNoMemory (case_of files) (then_hides (parts_of files) (λ parts. built parts) (parts_hide files) built_hides)

-- ---- the roads
roads_in_hides : (texts : RoadTexts) → Hides (roads_in texts)
unfolding roads_in
roads_in_hides texts = then_hides (setup_of (records_of texts.setup)) _ (setup_hides (records_of texts.setup)) (λ opened. roads_filled_hides opened.scenario texts)

pub roads_hide : (files : Files) → IfErr (unsplit_case_of files) HidesNoMemory
roads_hide files = told HidesNoMemory (unsplit_case_of files) (then_hides (road_texts_of files) (λ texts. roads_in texts) (road_texts_hide files) roads_in_hides)

-- ---- what a call says
said : {A : Type 0} (r : Result A CaseFault) (e : CaseFault) → Hides r → Says r e → HidesNoMemory e
said r (Folder f) hides says = absurd says
said r (TooLong f) hides says = absurd says
said r (Bad f row c) hides says = hides (Bad f row c) says
said r NoHistory hides says = hides NoHistory says
said r NoMemory hides says = tt

pub setup_said : (rows : List Fields) (e : CaseFault) → Says (setup_of rows) e → HidesNoMemory e
setup_said rows e says = said (setup_of rows) e (setup_hides rows) says

-- a setup that is none asks for no more bytes
pub beside_bad : (setup : List ℕ) (e : CaseFault) → Says (setup_of (records_of setup)) e → (e ≡ NoMemory → ⊥) → longest_beside setup ≡ longest_file
unfolding longest_beside
beside_bad setup (Folder f) says some = absurd says
beside_bad setup (TooLong f) says some = absurd says
beside_bad setup (Bad f row c) says some = ap (λ (r : Result Opened CaseFault). if asks_for_many r then longest_large_file else longest_file) says
beside_bad setup NoHistory says some = ap (λ (r : Result Opened CaseFault). if asks_for_many r then longest_large_file else longest_file) says
beside_bad setup NoMemory says some = absurd (some refl)

pub built_said : (parts : CaseParts) (e : CaseFault) → Says (built parts) e → HidesNoMemory e
built_said parts e says = said (built parts) e (built_hides parts) says

pub roads_said : (texts : RoadTexts) (e : CaseFault) → Says (roads_in texts) e → HidesNoMemory e
roads_said texts e says = said (roads_in texts) e (roads_in_hides texts) says
