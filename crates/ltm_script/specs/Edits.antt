-- The edits that JSON values are.
use Rattle.std.specs.Prelude.{ℕ, ◌+◌, List, [], ◌∷◌, codes, Option, Some, None, Result, Ok, Err, if◌then◌else◌}
use Rattle.serde_json.specs.Data.{Data, Items, no_items, item}
use Rattle.ltm_scenario.specs.Names.{same}
use Rattle.ltm_scenario.specs.declared.edit.Edit.{Edit}
use Rattle.ltm_scenario.specs.declared.edit.Edit.TheVariants.{Demand, Limit, Split, Splits, Diagram as NewDiagram, Exit, Horizon}
use Rattle.ltm_script.specs.declared.command.CommandFault.{CommandFault}
use Rattle.ltm_script.specs.declared.command.CommandFault.TheVariants.{NotCommand}
use Rattle.ltm_script.specs.Members.{◌>>=◌, text_in, name_in, whole_in, amount_in}
use Rattle.ltm_script.specs.Weights.{weights_in}
use Rattle.ltm_script.specs.Rows.{rows_in}

unfoldable pub demand_of : Data → Option Edit
demand_of d = do
  origin ← name_in (codes "origin") d
  destination ← name_in (codes "destination") d
  from ← whole_in (codes "from") d
  to ← whole_in (codes "to") d
  amount ← amount_in (codes "vehicles") d
  Some (Demand origin destination from to amount)

unfoldable pub limit_of : Data → Option Edit
limit_of d = do
  link ← name_in (codes "link") d
  from ← whole_in (codes "from") d
  to ← whole_in (codes "to") d
  amount ← amount_in (codes "vehicles") d
  Some (Limit link from to amount)

unfoldable pub exit_of : Data → Option Edit
exit_of d = do
  link ← name_in (codes "link") d
  from ← whole_in (codes "from") d
  to ← whole_in (codes "to") d
  amount ← amount_in (codes "vehicles") d
  Some (Exit link from to amount)

unfoldable pub split_of : Data → Option Edit
split_of d = do
  node ← name_in (codes "node") d
  destination ← name_in (codes "destination") d
  from ← whole_in (codes "from") d
  weights ← weights_in d
  Some (Split node destination from weights)

unfoldable pub splits_of : Data → Option Edit
splits_of d = do
  node ← name_in (codes "node") d
  destination ← name_in (codes "destination") d
  rows ← rows_in d
  Some (Splits node destination rows)

unfoldable pub diagram_of : Data → Option Edit
diagram_of d = do
  link ← name_in (codes "link") d
  length_m ← whole_in (codes "length_m") d
  free_kmh ← whole_in (codes "free_kmh") d
  wave_kmh ← whole_in (codes "wave_kmh") d
  jam_per_km ← whole_in (codes "jam_per_km") d
  Some (NewDiagram link (record { length_m = length_m; free_kmh = free_kmh; wave_kmh = wave_kmh; jam_per_km = jam_per_km }))

unfoldable pub horizon_of : Data → Option Edit
horizon_of d = do
  slots ← whole_in (codes "slots") d
  Some (Horizon slots)

-- an edit by the word for its kind
abbrev pub edit_by : List ℕ → Data → Option Edit
edit_by kind d =
    if same kind (codes "demand") then demand_of d
    else if same kind (codes "limit") then limit_of d
    else if same kind (codes "split") then split_of d
    else if same kind (codes "splits") then splits_of d
    else if same kind (codes "diagram") then diagram_of d
    else if same kind (codes "exit") then exit_of d
    else if same kind (codes "horizon") then horizon_of d
    else None

abbrev pub edit_of : Data → Option Edit
edit_of d = text_in (codes "kind") d >>= λ kind. edit_by kind d

-- an edit before others, where it is one
abbrev pub before : Option Edit → ℕ → Result (List Edit) CommandFault → Result (List Edit) CommandFault
before None place more = Err (NotCommand place)
before (Some e) place (Ok es) = Ok (e ∷ es)
before (Some e) place (Err fault) = Err fault

-- the edits, or the place of the first that is none, counted on from this place
unfoldable pub edits_from : ℕ → Items → Result (List Edit) CommandFault
edits_from place no_items = Ok []
edits_from place (item d ds) = before (edit_of d) place (edits_from (place + 1) ds)
