-- What an accepted edit makes of a scenario.
use Rattle.std.proofs.Common.{◌≡◌, ℕ, ◌<◌, ◌≤◌, ◌==◌, not, nat_lt, if◌then◌else◌, List, Bool, true, false, Some, None, Option, Ok, Err, Result, sum, arith, refl, sym, ap, subst, ◌∙◌}
use Rattle.std.specs.List.{list_all}
use Rattle.std.specs.Result.{is_ok}
use Rattle.std.proofs.lemmas.Bool.Decides.{nat_tests}
use Rattle.ltm_units.specs.Results.{refuse, found}
use Rattle.ltm_units.proofs.Results.{not_refused}
use Rattle.ltm_diagram.specs.Limits.{limits_of}
use Rattle.ltm_network.specs.Network.{find_node, find_link}
use Rattle.ltm_demand.specs.declared.row.DemandRow.{DemandRow}
use Rattle.ltm_demand.specs.Rows as demand_rows
use Rattle.ltm_demand.specs.Rows.{DemandData, edited_rows}
use Rattle.ltm_splits.specs.declared.keys.SplitKey.{SplitKey}
use Rattle.ltm_splits.specs.Rows as split_rows
use Rattle.ltm_splits.specs.Table.{Entry}
use Rattle.ltm_splits.specs.Replaced as of_pair
use Rattle.ltm_splits.specs.Replaced.{replaced}
use Rattle.ltm_splits.specs.Rows.{SplitRow, SplitsData, put_in, key_of}
use Rattle.ltm_scenario.specs.declared.edit.Edit.TheVariants.{Demand, Limit, Split, Splits, Diagram as NewDiagram, Exit, Horizon}
use Rattle.ltm_scenario.specs.declared.edit.EditCause.{EditCause}
use Rattle.ltm_scenario.specs.declared.edit.EditCause.TheVariants.{UnknownName, UnknownDestination, NoOrigin, SameEnds, BadSlots, OpenSplit, ZeroWeight, Diagram as BadDiagram}
use Rattle.ltm_scenario.specs.declared.side.Side.TheVariants.{Entry as AtEntry, Exit as AtExit}
use Rattle.ltm_scenario.specs.Weights.{NamedWeight}
use Rattle.ltm_scenario.specs.Data.{ScenarioData, demand_of, splits_of}
use Rattle.ltm_scenario.specs.Reads.{destination_of, has_no_out_link, has_split}
use Rattle.ltm_scenario.specs.Build.{with_demand, with_split, with_pair, with_limit_at, are_slots, ◌>>=◌}
use Rattle.ltm_scenario.specs.Edits.{or_edit_cause, cause_of_demand, cause_of_split, cause_of_horizon, demand_row, limited_link, named_pair, split_key, split_row, rows_checked, entries_said, weights_at, is_open, is_out_link, diagram_edited, with_diagram}
use Rattle.ltm_scenario.specs.declared.faults.HorizonFault.{HorizonFault}
use Rattle.ltm_scenario.specs.declared.faults.HorizonFault.TheVariants.{BadSlots as HorizonSlots, CellsOver}
use Rattle.ltm_scenario.specs.Cells.{cells_with, has_room}
use Rattle.ltm_scenario.specs.Horizon.{with_slots, with_horizon, is_longer}
use Rattle.ltm_scenario.specs.Makes.{IsNamed, IsRowSaid, IsLinkSaid, IsSplitSaid, IsHorizonSaid, Makes, EditsMake, demand, entry, split, splits, diagram, exit, horizon}
use Rattle.ltm_scenario.proofs.Kept.{with_row_rows, with_split_row_rows}
use Rattle.ltm_scenario.proofs.Pairs.{with_pair_rows}
use Rattle.ltm_scenario.proofs.RowsSaid.{are_checked}
use Rattle.ltm_scenario.proofs.Horizons.{longer_cells}

-- a chain that ends well went well at each step
pub bound : {A B F : Type 0} (r : Result A F) (next : A → Result B F) (y : B) → (r >>= next) ≡ Ok y → (x : A) × (r ≡ Ok x) × (next x ≡ Ok y)
bound (Ok x) next y is = (x, refl, is)
bound (Err fault) next y is = cc

uncaused : {A F : Type 0} (cause : F → EditCause) (r : Result A F) (x : A) → or_edit_cause cause r ≡ Ok x → r ≡ Ok x
uncaused cause (Ok y) x is = cc
uncaused cause (Err fault) x is = cc

was_found : {A : Type 0} (o : Option A) (cause : EditCause) (x : A) → found o cause ≡ Ok x → o ≡ Some x
was_found None cause x is = cc
was_found (Some y) cause x is = cc

not_true : (b : Bool) → not b ≡ false → b ≡ true
not_true true e = refl
not_true false e = cc

slots_are : (s : ScenarioData) (from to : ℕ) → not (are_slots s from to) ≡ false → (from < to) × (to ≤ s.setup.slots)
slots_are s from to are = (grind (are, arith, nat_tests), grind (are, arith, nat_tests))

-- ---- demand
row_said : (s : ScenarioData) (origin destination : List ℕ) (from to amount : ℕ) (row : DemandRow) → demand_row s origin destination from to amount ≡ Ok row → IsRowSaid s origin destination from to amount row
unfolding demand_row
row_said s origin destination from to amount row is =
    let o = bound (found (find_node s.network origin) UnknownName) _ row is in
    let e = bound (found (find_node s.network destination) UnknownName) _ row o.2 in
    let d = bound (found (destination_of s.destinations e.0) UnknownDestination) _ row e.2 in
    let a = bound (refuse (has_no_out_link s o.0) NoOrigin) _ row d.2 in
    let b = bound (refuse (o.0 == e.0) SameEnds) _ row a.2 in
    let c = bound (refuse (not (are_slots s from to)) BadSlots) _ row b.2 in
    let f = bound (refuse (not (has_split s.splits o.0 d.0)) OpenSplit) _ row c.2 in
    let made : DemandRow = record { origin = record { 0 = o.0 }; destination = d.0; from = from; to = to; amount = record { 0 = amount } } in
    let same : made ≡ row = cc (f.2) in
    let slots = slots_are s from to (not_refused (not (are_slots s from to)) BadSlots c.1) in
    let said : IsRowSaid s origin destination from to amount made = record {
      starts_at = was_found (find_node s.network origin) UnknownName o.0 o.1;
      leads_to = (e.0, was_found (find_node s.network destination) UnknownName e.0 e.1, was_found (destination_of s.destinations e.0) UnknownDestination d.0 d.1);
      begins = refl;
      ends = refl;
      units = refl;
      some_slots = slots.0;
      within = slots.1;
      is_split = not_true (has_split s.splits o.0 d.0) (not_refused (not (has_split s.splits o.0 d.0)) OpenSplit f.1);
    } in
    subst (IsRowSaid s origin destination from to amount) same said

with_demand_is : (s next : ScenarioData) (row : DemandRow) → with_demand s row ≡ Ok next → next ≡ record s { demand = edited_rows s.demand row }
with_demand_is s next row is =
    let d = bound (demand_rows.with_row (demand_of s) row) (λ (n : DemandData). Ok (record s { demand = n.rows })) next is in
    let same : record s { demand = (d.0).rows } ≡ next = cc (d.2) in
    sym same ∙ ap (λ (n : DemandData). record s { demand = n.rows }) (with_row_rows (demand_of s) d.0 row d.1)

-- ---- limits
link_said : (s : ScenarioData) (name : List ℕ) (from to link : ℕ) → limited_link s name from to ≡ Ok link → IsLinkSaid s name from to link
unfolding limited_link
link_said s name from to link is =
    let l = bound (found (find_link s.network name) UnknownName) _ link is in
    let b = bound (refuse (not (are_slots s from to)) BadSlots) _ link l.2 in
    let same : l.0 ≡ link = cc (b.2) in
    let slots = slots_are s from to (not_refused (not (are_slots s from to)) BadSlots b.1) in
    record { named = was_found (find_link s.network name) UnknownName l.0 l.1 ∙ ap (λ z. Some z) same; some_slots = slots.0; within = slots.1 }

-- ---- splits
key_within : (from slots : ℕ) → not (nat_lt from slots) ≡ false → from < slots
key_within from slots is = grind (is, arith, nat_tests)

row_is_closed : (s : ScenarioData) (key : SplitKey) (weights : List ℕ) (row : SplitRow) → split_row s key weights ≡ Ok row → (row ≡ (key, weights)) × (is_open s key.node.0 key.destination key.from weights ≡ false)
unfolding split_row
row_is_closed s key weights row is =
    let a = bound (refuse (sum weights == 0) ZeroWeight) _ row is in
    let b = bound (refuse (is_open s key.node.0 key.destination key.from weights) OpenSplit) _ row a.2 in
    let made : SplitRow = (key, weights) in
    (let same : row ≡ made = cc (b.2) in same, not_refused _ OpenSplit b.1)

pair_named : (s : ScenarioData) (node destination : List ℕ) (pair : ℕ × ℕ) → named_pair s node destination ≡ Ok pair → (find_node s.network node ≡ Some pair.0) × IsNamed s destination pair.1
unfolding named_pair
pair_named s node destination pair is =
    let n = bound (found (find_node s.network node) UnknownName) _ pair is in
    let e = bound (found (find_node s.network destination) UnknownName) _ pair n.2 in
    let d = bound (found (destination_of s.destinations e.0) UnknownDestination) _ pair e.2 in
    let a = bound (refuse (n.0 == e.0) SameEnds) _ pair d.2 in
    let made : ℕ × ℕ = (n.0, d.0) in
    let same : made ≡ pair = cc (a.2) in (
      was_found (find_node s.network node) UnknownName n.0 n.1 ∙ ap (λ (p : ℕ × ℕ). Some p.0) same,
      (e.0, was_found (find_node s.network destination) UnknownName e.0 e.1, was_found (destination_of s.destinations e.0) UnknownDestination d.0 d.1 ∙ ap (λ (p : ℕ × ℕ). Some p.1) same),
    )

key_said : (s : ScenarioData) (node destination : List ℕ) (from : ℕ) (weights : List NamedWeight) (key : SplitKey) → split_key s node destination from weights ≡ Ok key → is_open s key.node.0 key.destination key.from (weights_at s key.node.0 weights) ≡ false → IsSplitSaid s node destination from weights key
unfolding split_key
key_said s node destination from weights key is closed =
    let pair = bound (named_pair s node destination) _ key is in
    let named = pair_named s node destination pair.0 pair.1 in
    let b = bound (refuse (not (nat_lt from s.setup.slots)) BadSlots) _ key pair.2 in
    let c = bound (refuse (not (list_all (λ w. is_out_link s (pair.0).0 w.0) weights)) UnknownName) _ key b.2 in
    let same : key_of (pair.0).0 (pair.0).1 from ≡ key = cc (c.2) in
    record {
      stands_at = named.0 ∙ ap (λ (k : SplitKey). Some k.node.0) same;
      leads_to = subst (IsNamed s destination) (ap (λ (k : SplitKey). k.destination) same) named.1;
      begins = sym (ap (λ (k : SplitKey). k.from) same);
      within = key_within from s.setup.slots (not_refused (not (nat_lt from s.setup.slots)) BadSlots b.1);
      closed = closed;
    }

with_split_is : (s next : ScenarioData) (key : SplitKey) (weights : List ℕ) → with_split s key weights ≡ Ok next → next ≡ record s { splits = put_in s.splits key weights }
with_split_is s next key weights is =
    let d = bound (split_rows.with_row (splits_of s) key weights) (λ (n : SplitsData). Ok (record s { splits = n.rows })) next is in
    let same : record s { splits = (d.0).rows } ≡ next = cc (d.2) in
    sym same ∙ ap (λ (n : SplitsData). record s { splits = n.rows }) (with_split_row_rows (splits_of s) d.0 key weights d.1)

-- ---- all splits of a node and a destination
with_pair_is : (s next : ScenarioData) (n d : ℕ) (entries : List Entry) → with_pair s n d entries ≡ Ok next → next ≡ record s { splits = replaced s.splits n d entries }
with_pair_is s next n d entries is =
    let p = bound (of_pair.with_pair (splits_of s) n d entries) (λ (z : SplitsData). Ok (record s { splits = z.rows })) next is in
    let same : record s { splits = (p.0).rows } ≡ next = cc (p.2) in
    sym same ∙ ap (λ (z : SplitsData). record s { splits = z.rows }) (with_pair_rows (splits_of s) p.0 n d entries p.1)

-- ---- the horizon
-- a chosen answer is none of the faults
chosen : {A : Type 0} (b : Bool) (r : Result A HorizonFault) (fault : HorizonFault) (x : A) → (if b then r else Err fault) ≡ Ok x → (b ≡ true) × (r ≡ Ok x)
chosen true r fault x is = (refl, is)
chosen false r fault x is = cc

horizon_said : (s next : ScenarioData) (slots : ℕ) → with_horizon s slots ≡ Ok next → IsHorizonSaid s slots × (with_slots s slots ≡ next)
unfolding with_horizon
horizon_said s next slots is =
    let a = chosen (is_longer s slots) (if has_room s (cells_with s slots) then Ok (with_slots s slots) else Err (CellsOver (cells_with s slots))) HorizonSlots next is in
    let b = chosen (has_room s (cells_with s slots)) (Ok (with_slots s slots)) (CellsOver (cells_with s slots)) next a.1 in
    let same : with_slots s slots ≡ next = cc (b.1) in
    let longer = a.0 in
    (record { longer = grind (longer, arith, nat_tests); within = grind (longer, arith, nat_tests); small = ap (has_room s) (longer_cells s slots) ∙ b.0 }, same)

-- ---- each kind
pub makes : EditsMake
unfolding diagram_edited
makes s next (Demand origin destination from to amount) is =
    let r = bound (demand_row s origin destination from to amount.0) (λ row. or_edit_cause cause_of_demand (with_demand s row)) next is in
    let same : next ≡ record s { demand = edited_rows s.demand r.0 } = with_demand_is s next r.0 (uncaused cause_of_demand (with_demand s r.0) next r.2) in
    subst (λ (z : ScenarioData). Makes s z (Demand origin destination from to amount)) (sym same) (demand origin destination from to amount r.0 (row_said s origin destination from to amount.0 r.0 r.1))
makes s next (Limit name from to amount) is =
    let l = bound (limited_link s name from to) (λ link. Ok (with_limit_at s AtEntry link from to amount.0)) next is in
    let same : with_limit_at s AtEntry l.0 from to amount.0 ≡ next = cc (l.2) in
    subst (λ (z : ScenarioData). Makes s z (Limit name from to amount)) same (entry name from to amount l.0 (link_said s name from to l.0 l.1))
makes s next (Split node destination from weights) is =
    let k = bound (split_key s node destination from weights) (λ key. split_row s key (weights_at s key.node.0 weights) >>= λ row. or_edit_cause cause_of_split (with_split s row.0 row.1)) next is in
    let ws : List ℕ = weights_at s (k.0).node.0 weights in
    let r = bound (split_row s k.0 ws) (λ row. or_edit_cause cause_of_split (with_split s row.0 row.1)) next k.2 in
    let closed = row_is_closed s k.0 ws r.0 r.1 in
    let done : with_split s k.0 ws ≡ Ok next = ap (λ (row : SplitRow). with_split s row.0 row.1) (sym closed.0) ∙ uncaused cause_of_split (with_split s (r.0).0 (r.0).1) next r.2 in
    let same : next ≡ record s { splits = put_in s.splits k.0 ws } = with_split_is s next k.0 ws done in
    subst (λ (z : ScenarioData). Makes s z (Split node destination from weights)) (sym same) (split node destination from weights k.0 (key_said s node destination from weights k.0 k.1 closed.1))
makes s next (Splits node destination rows) is =
    let pair = bound (named_pair s node destination) (λ pair. rows_checked s pair.0 pair.1 None rows >>= λ _. or_edit_cause cause_of_split (with_pair s pair.0 pair.1 (entries_said s pair.0 rows))) next is in
    let n : ℕ = (pair.0).0 in
    let d : ℕ = (pair.0).1 in
    let named = pair_named s node destination pair.0 pair.1 in
    let checked = bound (rows_checked s n d None rows) (λ _. or_edit_cause cause_of_split (with_pair s n d (entries_said s n rows))) next pair.2 in
    let said = are_checked s n d None rows (checked.1 ∙ ap (λ (u : Unit {0}). Ok u) refl) in
    let same : next ≡ record s { splits = replaced s.splits n d (entries_said s n rows) } = with_pair_is s next n d (entries_said s n rows) (uncaused cause_of_split (with_pair s n d (entries_said s n rows)) next checked.2) in
    subst (λ (z : ScenarioData). Makes s z (Splits node destination rows)) (sym same)
    (splits node destination rows n d (record { stand_at = named.0; lead_to = named.1; first = said.first refl; rising = said.rising; within = said.within; closed = said.closed }))
makes s next (NewDiagram name new) is =
    let l = bound (found (find_link s.network name) UnknownName) (λ link. or_edit_cause BadDiagram (limits_of new s.setup.step.0 s.setup.carry) >>= λ _. Ok (with_diagram s link new)) next is in
    let d = bound (or_edit_cause BadDiagram (limits_of new s.setup.step.0 s.setup.carry)) (λ _. Ok (with_diagram s l.0 new)) next l.2 in
    let same : with_diagram s l.0 new ≡ next = cc (d.2) in
    subst (λ (z : ScenarioData). Makes s z (NewDiagram name new)) same
    (diagram name new l.0 (was_found (find_link s.network name) UnknownName l.0 l.1) (ap is_ok (uncaused BadDiagram (limits_of new s.setup.step.0 s.setup.carry) d.0 d.1)))
makes s next (Exit name from to amount) is =
    let l = bound (limited_link s name from to) (λ link. Ok (with_limit_at s AtExit link from to amount.0)) next is in
    let same : with_limit_at s AtExit l.0 from to amount.0 ≡ next = cc (l.2) in
    subst (λ (z : ScenarioData). Makes s z (Exit name from to amount)) same (exit name from to amount l.0 (link_said s name from to l.0 l.1))
makes s next (Horizon slots) is =
    let said = horizon_said s next slots (uncaused cause_of_horizon (with_horizon s slots) next is) in
    subst (λ (z : ScenarioData). Makes s z (Horizon slots)) said.1 (horizon slots said.0)
