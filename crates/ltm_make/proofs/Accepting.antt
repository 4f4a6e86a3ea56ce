-- The batch of a made case is accepted.
use Rattle.std.proofs.Common.{◌≡◌, ℕ, ◌-◌, ◌<◌, ◌==◌, ◌&&◌, not, Bool, true, false, cond, nat_lt, nat_le, List, [], ◌∷◌, length, Option, Some, Result, Ok, IsOk, refl, sym, ap, subst, ◌∙◌, arith}
use Rattle.std.specs.List.{position_from}
use Rattle.ltm_network.specs.Network.{find_link, link_name, out_links}
use Rattle.ltm_network.specs.IsNetwork.{IsNetwork}
use Rattle.ltm_network.proofs.Apart.{names_found}
use Rattle.ltm_demand.specs.declared.row.DemandRow.{DemandRow}
use Rattle.ltm_demand.specs.Rows.{edited_rows}
use Rattle.ltm_scenario.specs.declared.edit.EditCause.{EditCause}
use Rattle.ltm_scenario.specs.declared.edit.EditCause.TheVariants.{UnknownName, BadSlots}
use Rattle.ltm_units.specs.Bounds.{default_demand_rows}
use Rattle.ltm_scenario.specs.declared.setup.Setup.{Setup}
use Rattle.ltm_scenario.specs.Data.{ScenarioData}
use Rattle.ltm_scenario.specs.Reads.{destination_of, has_no_out_link, has_split}
use Rattle.ltm_scenario.specs.IsScenario.{IsScenario}
use Rattle.ltm_scenario.specs.Build.{with_demand, with_limit_at, are_slots, ◌>>=◌}
use Rattle.ltm_units.specs.Results.{refuse, found}
use Rattle.ltm_scenario.specs.declared.side.Side.TheVariants.{Entry}
use Rattle.ltm_scenario.specs.Edits.{cause_of_demand, or_edit_cause, demand_row, demand_edited, limited_link, limit_edited, at_place, edited_all}
use Rattle.ltm_make.specs.Names.{name_of_node, name_of_link}
use Rattle.ltm_make.specs.Branches.{number}
use Rattle.ltm_make.specs.Splits.{IsGrid, IsLaid}
use Rattle.ltm_make.specs.MadeCase.{made_from, two_edits}
use Rattle.ltm_make.proofs.Counting.{is_same, is_other}
use Rattle.ltm_make.proofs.Roading.{node_found, numbers_apart}
use Rattle.ltm_make.proofs.Demanded.{row_is_set, goes_out}
use Rattle.ltm_make.proofs.CaseMade.{made_laid, made_home, made_few}

-- the link is found by its number, and its slots lie within the horizon
limited : (s : ScenarioData) (nodes width j : ℕ) → IsLaid nodes width s → IsNetwork s.network → j < length s.network.links → limited_link s (name_of_link j) 5 15 ≡ Ok j
unfolding limited_link
limited s nodes width j h net l =
    let name : link_name s.network j ≡ name_of_link j = h.along.names j (omega (arith, h.along.long)) in
    let at : find_link s.network (name_of_link j) ≡ Some j = ap (find_link s.network) (sym name) ∙ names_found.link_found s.network j net l in
    ap (λ (o : Option ℕ). found o UnknownName >>= λ link. refuse (not (nat_lt 5 15 && nat_le 15 s.setup.slots)) BadSlots >>= λ _. Ok link) at
    ∙ ap (λ (n : ℕ). refuse (not (nat_lt 5 15 && nat_le 15 n)) BadSlots >>= λ _. Ok j) (ap (λ (z : Setup). z.slots) h.setup)

-- the row of the last node's demand for the first
abbrev last_row : ℕ → DemandRow
last_row u = record { origin = record { 0 = u }; destination = 0; from = 0; to = 10; amount = record { 0 = 30000 } }

row_found : (s : ScenarioData) (nodes width last : ℕ) → IsLaid nodes width s → last < nodes → 0 < last → has_split s.splits (number s.network last) 0 ≡ true →
    demand_row s (name_of_node last) (name_of_node 0) 0 10 30000 ≡ Ok (last_row (number s.network last))
unfolding demand_row
row_found s nodes width last h l pos has =
    let origin = node_found s.network nodes width last h.grid h.along l in
    let end = node_found s.network nodes width 0 h.grid h.along (omega arith) in
    let is_end : destination_of s.destinations (number s.network 0) ≡ Some 0 =
    ap (λ (list : List ℕ). destination_of list (number s.network 0)) h.ends ∙ ap (λ (b : Bool). cond {A = Option ℕ} b (Some 0) (position_from (λ d. d == number s.network 0) 1 (number s.network (width - 1) ∷ []))) (is_same (number s.network 0) (number s.network 0) refl) in
    let out : has_no_out_link s (number s.network last) ≡ false = is_other (length (out_links s.network (number s.network last))) 0 (λ e. absurd (omega (arith, e, goes_out s nodes width last h l))) in
    let apart : (number s.network last == number s.network 0) ≡ false = numbers_apart s.network last 0 origin end (omega (arith, h.grid.few)) (omega arith) (omega arith) in
    let slots : are_slots s 0 10 ≡ true = ap (λ (n : ℕ). nat_lt 0 10 && nat_le 10 n) (ap (λ (z : Setup). z.slots) h.setup) in
    rw (origin, end, is_end, out, apart, slots, has) refl

-- both edits are made
pub batch_accepted : (s : ScenarioData) (nodes width j last : ℕ) → IsLaid nodes width s → IsNetwork s.network → j < length s.network.links → last < nodes → 0 < last →
    has_split s.splits (number s.network last) 0 ≡ true → length s.demand < default_demand_rows → IsOk (edited_all s (two_edits j last))
batch_accepted s nodes width j last h net l in_grid pos has few =
    let first : ScenarioData = with_limit_at s Entry j 5 15 1000 in
    let laid : IsLaid nodes width (with_limit_at s Entry j 5 15 1000) = record { grid = h.grid; setup = h.setup; along = h.along; ends = h.ends } in
    let limit : limit_edited s Entry (name_of_link j) 5 15 1000 ≡ Ok (with_limit_at s Entry j 5 15 1000) =
    ap (λ (r : Result ℕ EditCause). r >>= λ link. Ok (with_limit_at s Entry link 5 15 1000)) (limited s nodes width j h net l) in
    let row = row_found (with_limit_at s Entry j 5 15 1000) nodes width last laid in_grid pos has in
    let set = row_is_set (with_limit_at s Entry j 5 15 1000) (last_row (number s.network last)) (ap (λ (n : ℕ). nat_lt 0 10 && nat_le 10 n) (ap (λ (z : Setup). z.slots) h.setup)) (omega (arith, few, ap (λ (z : Setup). z.most_demand_rows) h.setup)) in
    let demand : demand_edited (with_limit_at s Entry j 5 15 1000) (name_of_node last) (name_of_node 0) 0 10 30000 ≡ Ok (record (with_limit_at s Entry j 5 15 1000) { demand = edited_rows s.demand (last_row (number s.network last)) }) =
    ap (λ (r : Result DemandRow EditCause). r >>= λ x. or_edit_cause cause_of_demand (with_demand (with_limit_at s Entry j 5 15 1000) x)) row
    ∙ ap (or_edit_cause cause_of_demand) set in
    let whole : edited_all s (two_edits j last) ≡ Ok (record (with_limit_at s Entry j 5 15 1000) { demand = edited_rows s.demand (last_row (number s.network last)) }) =
    ap (λ (r : Result ScenarioData EditCause). at_place 1 r >>= λ next. at_place 2 (demand_edited next (name_of_node last) (name_of_node 0) 0 10 30000) >>= λ end. Ok end) limit
    ∙ ap (λ (r : Result ScenarioData EditCause). at_place 2 r >>= λ end. Ok end) demand in
    subst IsOk (sym whole) refl

-- the batch of the made case
pub made_accepted : (start nodes width j : ℕ) → IsGrid nodes width → IsScenario (made_from start nodes width).scenario → j < length (made_from start nodes width).scenario.network.links →
    IsOk (edited_all (made_from start nodes width).scenario (two_edits j (nodes - 1)))
made_accepted start nodes width j g is l =
    batch_accepted (made_from start nodes width).scenario nodes width j (nodes - 1) (made_laid start nodes width g) is.network l (omega (arith, g.some)) (omega (arith, g.some))
    (made_home start nodes width (nodes - 1) (omega (arith, g.some)) (λ e. absurd (omega (arith, g.some, e))))
    (omega (arith, made_few start nodes width, g.few))
