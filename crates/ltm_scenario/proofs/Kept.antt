-- Rows and limits keep a scenario one.
use Rattle.std.proofs.Common.{◌≡◌, ℕ, ◌==◌, List, [], ◌∷◌, ◌++◌, length, true, false, cond, not, Ok, Err, All, nat_le, nat_lt, sum, refl, sym, ap, subst}
use Rattle.std.proofs.lemmas.List.Elements.{All-nil, All-cons, All-head, All-tail, All-append, All-filter}
use Rattle.std.specs.declared.cmp.Ordering.{Ordering}
use Rattle.std.specs.declared.cmp.Ordering.TheVariants.{Less, Equal, Greater}
use Rattle.std.specs.Ordering.{match_ordering, ordering_then, is_lt, is_gt}
use Rattle.std.specs.BTreeMap.{insert_entry}
use Rattle.std.proofs.lemmas.Map.Lookups.{exact_unsigned}
use Rattle.ltm_demand.specs.declared.row.DemandRow.{DemandRow}
use Rattle.ltm_demand.specs.declared.row.DemandFault.TheVariants.{BadSlots, TooManyRows}
use Rattle.ltm_demand.specs.Rows as demand
use Rattle.ltm_demand.specs.Rows.{DemandData, row_cmp, before, behind, row_if_any, edited_rows, has_slots}
use Rattle.ltm_demand.specs.Kept.{AreDemandRows}
use Rattle.ltm_splits.specs.declared.keys.SplitKey.{SplitKey}
use Rattle.ltm_splits.specs.declared.keys.SplitFault.TheVariants.{BadSlots as SplitSlots, ZeroWeight, TooManyRows as SplitRows}
use Rattle.ltm_splits.specs.Rows as splits
use Rattle.ltm_splits.specs.Rows.{SplitRow, SplitsData, HaveWeights, split_cmp, is_over, put_in}
use Rattle.ltm_scenario.specs.Data.{ScenarioData, demand_of, splits_of}
use Rattle.ltm_scenario.specs.IsScenario.{IsScenario, IsDemandOf, IsSplitOf}

-- a row that is set stands among rows that stood before
pub All-edited : (P : DemandRow → Type 0) (rows : List DemandRow) (row : DemandRow) → All P rows → P row → All P (edited_rows rows row)
unfolding edited_rows before behind
All-edited P rows row all here =
    All-append P (before rows row) (row_if_any row ++ behind rows row) (All-filter (λ r. is_lt (row_cmp r row)) P rows all)
    (All-append P (row_if_any row) (behind rows row)
    (elim (row.amount.0 == 0) as (λ b. All P (cond b [] (row ∷ []))) [ true ↦ All-nil P | false ↦ All-cons P row [] here (All-nil P) ])
    (All-filter (λ r. is_gt (row_cmp r row)) P rows all))

-- the data once a row is set
pub with_row_rows : (d next : DemandData) (row : DemandRow) → demand.with_row d row ≡ Ok next → next ≡ record d { rows = edited_rows d.rows row }
unfolding demand.with_row
with_row_rows d next row is =
    elim (not (has_slots d.slots row)) as (λ b. cond b (Err BadSlots) (cond (nat_lt d.most_rows (length (edited_rows d.rows row))) (Err TooManyRows) (Ok (record d { rows = edited_rows d.rows row }))) ≡ Ok next → next ≡ record d { rows = edited_rows d.rows row }) [
      | true ↦ λ e. cc
      | false ↦ λ e. elim (nat_lt d.most_rows (length (edited_rows d.rows row))) as (λ b. cond b (Err TooManyRows) (Ok (record d { rows = edited_rows d.rows row })) ≡ Ok next → next ≡ record d { rows = edited_rows d.rows row }) [
        | true ↦ λ e. cc
        | false ↦ λ e. cc
      ] e
    ] is

with_demand_rows : (s : ScenarioData) (rows : List DemandRow) → IsScenario s → All (IsDemandOf s) rows → AreDemandRows s.setup.slots s.setup.most_demand_rows rows → IsScenario (record s { demand = rows })
with_demand_rows s rows is all kept = record {
  setup = is.setup;
  network = is.network;
  most_links = is.most_links;
  diagram_for_each = is.diagram_for_each;
  limits = is.limits;
  entry = is.entry;
  exit = is.exit;
  few_destinations = is.few_destinations;
  destinations_are_nodes = is.destinations_are_nodes;
  destinations_apart = is.destinations_apart;
  demand = λ k d below. let r = all k d below in record { origin_is_node = r.origin_is_node; origin_has_out_link = r.origin_has_out_link; destination_is_one = r.destination_is_one; ends_differ = r.ends_differ };
  demand_rows = kept;
  splits = λ k d below. let r = is.splits k d below in record { node_is_node = r.node_is_node; destination_is_one = r.destination_is_one; ends_differ = r.ends_differ; weight_for_each = r.weight_for_each };
  weights = is.weights;
}

pub demand_is_scenario : (s : ScenarioData) (row : DemandRow) (next : DemandData) → IsScenario s → IsDemandOf s row → demand.with_row (demand_of s) row ≡ Ok next → AreDemandRows next.slots next.most_rows next.rows → IsScenario (record s { demand = next.rows })
demand_is_scenario s row next is here done kept =
    let rows : next ≡ record (demand_of s) { rows = edited_rows s.demand row } = with_row_rows (demand_of s) next row done in
    subst (λ (rs : List DemandRow). IsScenario (record s { demand = rs })) (sym (ap (λ (d : DemandData). d.rows) rows)) (with_demand_rows s (edited_rows s.demand row) is (All-edited (IsDemandOf s) s.demand row is.demand here) (subst (λ (d : DemandData). AreDemandRows d.slots d.most_rows d.rows) rows kept))

-- ---- splits
both_equal : (a b : Ordering) → ordering_then a b ≡ Equal → (a ≡ Equal) × (b ≡ Equal)
both_equal Less b e = cc
both_equal Equal b e = (refl, e)
both_equal Greater b e = cc

pub split_exact : (x y : SplitKey) → split_cmp x y ≡ Equal → x ≡ y
split_exact x y e =
    let a = both_equal _ _ e in
    let b = both_equal _ _ a.1 in
    let n = exact_unsigned _ _ a.0 in
    let d = exact_unsigned _ _ b.0 in
    let f = exact_unsigned _ _ b.1 in
    λ i. record { node = record { 0 = n i }; destination = d i; from = f i }

pub All-put_in : (P : SplitRow → Type 0) (rows : List SplitRow) (key : SplitKey) (weights : List ℕ) → All P rows → P (key, weights) → All P (put_in rows key weights)
All-put_in P [] key weights all here = All-cons P (key, weights) [] here (All-nil P)
All-put_in P (e ∷ es) key weights all here =
    elim (split_cmp key e.0) as (λ r. split_cmp key e.0 ≡ r → All P (match_ordering r ((key, weights) ∷ e ∷ es) ((e.0, weights) ∷ es) (e ∷ insert_entry split_cmp es key weights))) [
      | Less ↦ λ _. All-cons P (key, weights) (e ∷ es) here all
      | Equal ↦ λ is. All-cons P (e.0, weights) es (subst (λ k. P (k, weights)) (split_exact key e.0 is) here) (All-tail P e es all)
      | Greater ↦ λ _. All-cons P e (insert_entry split_cmp es key weights) (All-head P e es all) (All-put_in P es key weights (All-tail P e es all) here)
    ] refl

pub with_split_rows : (s : ScenarioData) (rows : List SplitRow) → IsScenario s → All (IsSplitOf s) rows → HaveWeights rows → IsScenario (record s { splits = rows })
with_split_rows s rows is all weights = record {
  setup = is.setup;
  network = is.network;
  most_links = is.most_links;
  diagram_for_each = is.diagram_for_each;
  limits = is.limits;
  entry = is.entry;
  exit = is.exit;
  few_destinations = is.few_destinations;
  destinations_are_nodes = is.destinations_are_nodes;
  destinations_apart = is.destinations_apart;
  demand = λ k d below. let r = is.demand k d below in record { origin_is_node = r.origin_is_node; origin_has_out_link = r.origin_has_out_link; destination_is_one = r.destination_is_one; ends_differ = r.ends_differ };
  demand_rows = is.demand_rows;
  splits = λ k d below. let r = all k d below in record { node_is_node = r.node_is_node; destination_is_one = r.destination_is_one; ends_differ = r.ends_differ; weight_for_each = r.weight_for_each };
  weights = weights;
}

-- the data once a split row is set
pub with_split_row_rows : (d next : SplitsData) (key : SplitKey) (weights : List ℕ) → splits.with_row d key weights ≡ Ok next → next ≡ splits.with_rows d (put_in d.rows key weights)
with_split_row_rows d next key weights is =
    elim (nat_le d.slots key.from) as (λ b. cond b (Err SplitSlots) (cond (sum weights == 0) (Err ZeroWeight) (cond (is_over d key) (Err SplitRows) (Ok (splits.with_rows d (put_in d.rows key weights))))) ≡ Ok next → next ≡ splits.with_rows d (put_in d.rows key weights)) [
      | true ↦ λ e. cc
      | false ↦ λ e. elim (sum weights == 0) as (λ b. cond b (Err ZeroWeight) (cond (is_over d key) (Err SplitRows) (Ok (splits.with_rows d (put_in d.rows key weights)))) ≡ Ok next → next ≡ splits.with_rows d (put_in d.rows key weights)) [
        | true ↦ λ e. cc
        | false ↦ λ e. elim (is_over d key) as (λ b. cond b (Err SplitRows) (Ok (splits.with_rows d (put_in d.rows key weights))) ≡ Ok next → next ≡ splits.with_rows d (put_in d.rows key weights)) [
          | true ↦ λ e. cc
          | false ↦ λ e. cc
        ] e
      ] e
    ] is

pub split_is_scenario : (s : ScenarioData) (key : SplitKey) (weights : List ℕ) (next : SplitsData) → IsScenario s → IsSplitOf s (key, weights) → splits.with_row (splits_of s) key weights ≡ Ok next → HaveWeights next.rows → IsScenario (record s { splits = next.rows })
split_is_scenario s key weights next is here done have =
    let rows : next ≡ splits.with_rows (splits_of s) (put_in s.splits key weights) = with_split_row_rows (splits_of s) next key weights done in
    subst (λ (rs : List SplitRow). IsScenario (record s { splits = rs })) (sym (ap (λ (d : SplitsData). d.rows) rows)) (with_split_rows s (put_in s.splits key weights) is (All-put_in (IsSplitOf s) s.splits key weights is.splits here) (subst (λ (d : SplitsData). HaveWeights d.rows) rows have))
