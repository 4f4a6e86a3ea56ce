-- Edits keep a scenario valid.
use Rattle.std.proofs.Common.{◌≡◌, ℕ, List, [], ◌∷◌, ◌==◌, ◌&&◌, ◌||◌, not, Bool, true, false, refl, sym, ap, ◌∙◌, arith, nat_le}
use Rattle.std.proofs.lemmas.Bool.Decides.{nat_tests}
use Rattle.std.proofs.lemmas.List.Sums.{AllPass-from_list_all, list_all-from_AllPass}
use Rattle.std.specs.List.{list_any, list_all, zip}
use Rattle.std.specs.declared.cmp.Ordering.TheVariants.{Less, Equal, Greater}
use Rattle.std.specs.Ordering.{match_ordering}
use Rattle.std.specs.BTreeMap.{insert_entry}
use Rattle.ltm_network.specs.Network.{head_of, out_links}
use Rattle.ltm_demand.specs.declared.row.DemandRow.{DemandRow}
use Rattle.ltm_demand.specs.Rows.{edited_rows}
use Rattle.ltm_splits.specs.declared.keys.SplitKey.{SplitKey}
use Rattle.ltm_splits.specs.Rows.{SplitRow, split_cmp, is_of, put_in}
use Rattle.ltm_scenario.specs.declared.setup.Setup.{Setup}
use Rattle.ltm_scenario.specs.Data.{ScenarioData}
use Rattle.ltm_scenario.specs.Reads.{destination_node, has_split}
use Rattle.ltm_scenario.specs.Cells.{cells, has_room}
use Rattle.ltm_scenario.specs.Horizon.{with_slots}
use Rattle.ltm_scenario.specs.Valid.{IsValid, is_small, has_start, leads_on, all_lead_on, is_demand_split, is_split_begun, is_split_led}
use Rattle.ltm_scenario.specs.Edits.{is_open}
use Rattle.ltm_scenario.proofs.Kept.{split_exact, All-edited}
use Rattle.ltm_scenario.proofs.Shapes.{cells_rest_on}

-- ---- tests
pub or_right : (a b b' : Bool) → (b ≡ true → b' ≡ true) → (a || b) ≡ true → (a || b') ≡ true
or_right true b b' h e = refl
or_right false b b' h e = h e

or_both : (a a' b b' : Bool) → (a ≡ true → a' ≡ true) → (b ≡ true → b' ≡ true) → (a || b) ≡ true → (a' || b') ≡ true
or_both true a' b b' f g e = ap (λ x. x || b') (f refl)
or_both false true b b' f g e = refl
or_both false false b b' f g e = g e

and_both : (a a' b b' : Bool) → (a ≡ true → a' ≡ true) → (b ≡ true → b' ≡ true) → (a && b) ≡ true → (a' && b') ≡ true
and_both true a' b b' f g e = ap (λ x. x && b') (f refl) ∙ g e
and_both false a' b b' f g e = cc

and_first : (a b : Bool) → (a && b) ≡ true → a ≡ true
and_first true b e = refl
and_first false b e = cc

and_second : (a b : Bool) → (a && b) ≡ true → b ≡ true
and_second true b e = e
and_second false b e = cc

pub and_join : (a b : Bool) → a ≡ true → b ≡ true → (a && b) ≡ true
and_join a b e f = ap (λ x. x && b) e ∙ f

pub not_true : (b : Bool) → not b ≡ false → b ≡ true
not_true true e = refl
not_true false e = cc

or_none : (a b : Bool) → (a || b) ≡ false → (a ≡ false) × (b ≡ false)
or_none true b e = cc
or_none false b e = (refl, e)

-- ---- rows with one more
-- a test of keys that some row passes is passed by some row afterwards
any_stays : (p : SplitKey → Bool) (k : SplitKey) (v : List ℕ) (es : List SplitRow) → list_any (λ e. p e.0) es ≡ true → list_any (λ e. p e.0) (put_in es k v) ≡ true
any_stays p k v [] h = cc
any_stays p k v (e ∷ es) h =
    elim (split_cmp k e.0) as (λ r. list_any (λ x. p x.0) (match_ordering r ((k, v) ∷ e ∷ es) ((e.0, v) ∷ es) (e ∷ insert_entry split_cmp es k v)) ≡ true) [
      | Less ↦ or_both false (p k) (list_any (λ x. p x.0) (e ∷ es)) (list_any (λ x. p x.0) (e ∷ es)) (λ z. cc) (λ z. z) h
      | Equal ↦ h
      | Greater ↦ or_right (p e.0) (list_any (λ x. p x.0) es) _ (any_stays p k v es) h
    ]

any_new : (p : SplitKey → Bool) (k : SplitKey) (v : List ℕ) (es : List SplitRow) → p k ≡ true → list_any (λ e. p e.0) (put_in es k v) ≡ true
any_new p k v [] h = ap (λ b. b || false) h
any_new p k v (e ∷ es) h =
    elim (split_cmp k e.0) as (λ r. split_cmp k e.0 ≡ r → list_any (λ x. p x.0) (match_ordering r ((k, v) ∷ e ∷ es) ((e.0, v) ∷ es) (e ∷ insert_entry split_cmp es k v)) ≡ true) [
      | Less ↦ λ is. ap (λ b. b || list_any (λ x. p x.0) (e ∷ es)) h
      | Equal ↦ λ is. ap (λ b. b || list_any (λ x. p x.0) es) (ap p (sym (split_exact k e.0 is)) ∙ h)
      | Greater ↦ λ is. or_both false (p e.0) (list_any (λ x. p x.0) (insert_entry split_cmp es k v)) _ (λ z. cc) (λ z. z) (any_new p k v es h)
    ] refl

all_stays : (p : SplitRow → Bool) (k : SplitKey) (v : List ℕ) (es : List SplitRow) → list_all p es ≡ true → p (k, v) ≡ true → list_all p (put_in es k v) ≡ true
all_stays p k v [] h new = and_join (p (k, v)) true new refl
all_stays p k v (e ∷ es) h new =
    elim (split_cmp k e.0) as (λ r. split_cmp k e.0 ≡ r → list_all p (match_ordering r ((k, v) ∷ e ∷ es) ((e.0, v) ∷ es) (e ∷ insert_entry split_cmp es k v)) ≡ true) [
      | Less ↦ λ is. and_join (p (k, v)) _ new h
      | Equal ↦ λ is. and_join (p (e.0, v)) _ (ap (λ x. p (x, v)) (sym (split_exact k e.0 is)) ∙ new) (and_second (p e) _ h)
      | Greater ↦ λ is. and_join (p e) _ (and_first (p e) _ h) (all_stays p k v es (and_second (p e) _ h) new)
    ] refl

pub all_weaker : {A : Type 0} (p q : A → Bool) → ((x : A) → p x ≡ true → q x ≡ true) → (xs : List A) → list_all p xs ≡ true → list_all q xs ≡ true
all_weaker p q h [] e = refl
all_weaker p q h (x ∷ xs) e = and_both (p x) (q x) (list_all p xs) (list_all q xs) (h x) (all_weaker p q h xs) e

-- a pair that has a row has one from slot 0 on
start_of_row : (starts : ℕ → ℕ → Bool) (n d : ℕ) (rows : List SplitRow) → list_all (λ row. starts row.0.node.0 row.0.destination) rows ≡ true → has_split rows n d ≡ true → starts n d ≡ true
start_of_row starts n d [] all has = cc
start_of_row starts n d (x ∷ xs) all has =
    elim (is_of n d x) as (λ b. is_of n d x ≡ b → (b || has_split xs n d) ≡ true → starts n d ≡ true) [
      | true ↦ λ of _.
          let node : x.0.node.0 ≡ n = grind (arith, nat_tests) in
          let destination : x.0.destination ≡ d = grind (arith, nat_tests) in
          ap (λ m. starts m d) (sym node) ∙ ap (starts x.0.node.0) (sym destination) ∙ and_first (starts x.0.node.0 x.0.destination) _ all
      | false ↦ λ apart more. start_of_row starts n d xs (and_second (starts x.0.node.0 x.0.destination) _ all) more
    ] refl has

-- what the cells rest on stays, and so do they
pub still_small : (s next : ScenarioData) → next.setup ≡ s.setup → next.network ≡ s.network → next.destinations ≡ s.destinations → is_small s ≡ true → is_small next ≡ true
still_small s next setup network destinations small =
    ap (λ (z : Setup). not z.history || nat_le (cells next) z.most_cells) setup
    ∙ ap (has_room s) (cells_rest_on s.setup s.network s.destinations next setup network destinations ∙ sym (cells_rest_on s.setup s.network s.destinations s refl refl refl)) ∙ small

-- ---- one more split row
abbrev pub with_rows : ScenarioData → List SplitRow → ScenarioData
with_rows s rows = record s { splits = rows }

split_stays : (rows : List SplitRow) (key : SplitKey) (weights : List ℕ) (n d : ℕ) → has_split rows n d ≡ true → has_split (put_in rows key weights) n d ≡ true
split_stays rows key weights n d h = any_stays (λ k. (k.node.0 == n) && (k.destination == d)) key weights rows h

start_stays : (rows : List SplitRow) (key : SplitKey) (weights : List ℕ) (n d : ℕ) → has_start rows n d ≡ true → has_start (put_in rows key weights) n d ≡ true
start_stays rows key weights n d h = any_stays (λ k. ((k.node.0 == n) && (k.destination == d)) && (k.from == 0)) key weights rows h

-- weights lead on where each pair that had a row still has one
leads_more : (s : ScenarioData) (rows : List SplitRow) → ((n d : ℕ) → has_split s.splits n d ≡ true → has_split rows n d ≡ true) → (d : ℕ) (p : ℕ × ℕ) → leads_on s d p.0 p.1 ≡ true → leads_on (with_rows s rows) d p.0 p.1 ≡ true
leads_more s rows stays d p e =
    or_right (p.1 == 0) _ _ (or_right (head_of s.network p.0 == destination_node s d) _ _ (stays (head_of s.network p.0) d)) e

pub all_lead_more : (s : ScenarioData) (rows : List SplitRow) → ((n d : ℕ) → has_split s.splits n d ≡ true → has_split rows n d ≡ true) → (n d : ℕ) (ws : List ℕ) → all_lead_on s n d ws ≡ true → all_lead_on (with_rows s rows) n d ws ≡ true
all_lead_more s rows stays n d ws e =
    all_weaker (λ p. leads_on s d p.0 p.1) (λ p. leads_on (with_rows s rows) d p.0 p.1) (leads_more s rows stays d) (zip (out_links s.network n) ws) e

all_lead_stays : (s : ScenarioData) (key : SplitKey) (weights : List ℕ) (n d : ℕ) (ws : List ℕ) → all_lead_on s n d ws ≡ true → all_lead_on (with_rows s (put_in s.splits key weights)) n d ws ≡ true
all_lead_stays s key weights n d ws e = all_lead_more s (put_in s.splits key weights) (split_stays s.splits key weights) n d ws e

new_start : (s : ScenarioData) (key : SplitKey) (weights : List ℕ) → list_all (is_split_begun s) s.splits ≡ true → (not (key.from == 0) && not (has_split s.splits key.node.0 key.destination)) ≡ false → has_start (put_in s.splits key weights) key.node.0 key.destination ≡ true
new_start s key weights begun closed =
    elim (key.from == 0) as (λ b. (key.from == 0) ≡ b → (not b && not (has_split s.splits key.node.0 key.destination)) ≡ false → has_start (put_in s.splits key weights) key.node.0 key.destination ≡ true) [
      | true ↦ λ first _. any_new (λ k. ((k.node.0 == key.node.0) && (k.destination == key.destination)) && (k.from == 0)) key weights s.splits
          (let pair : ((key.node.0 == key.node.0) && (key.destination == key.destination)) ≡ true = grind (arith, nat_tests) in and_join _ (key.from == 0) pair first)
      | false ↦ λ _ old. start_stays s.splits key weights key.node.0 key.destination
          (start_of_row (has_start s.splits) key.node.0 key.destination s.splits begun (not_true _ old))
    ] refl closed

pub split_kept : (s : ScenarioData) (key : SplitKey) (weights : List ℕ) → IsValid s → is_open s key.node.0 key.destination key.from weights ≡ false → IsValid (record s { splits = put_in s.splits key weights })
split_kept s key weights valid closed =
    let parts = or_none (not (key.from == 0) && not (has_split s.splits key.node.0 key.destination)) (not (all_lead_on s key.node.0 key.destination weights)) closed in
    let next : ScenarioData = with_rows s (put_in s.splits key weights) in
    record {
      demand_is_split = all_weaker (is_demand_split s) (is_demand_split next) (λ row. split_stays s.splits key weights row.origin.0 row.destination) s.demand valid.demand_is_split;
      splits_are_begun = all_stays (is_split_begun next) key weights s.splits
          (all_weaker (is_split_begun s) (is_split_begun next) (λ row. start_stays s.splits key weights row.0.node.0 row.0.destination) s.splits valid.splits_are_begun)
          (new_start s key weights valid.splits_are_begun parts.0);
      splits_are_led = all_stays (is_split_led next) key weights s.splits
          (all_weaker (is_split_led s) (is_split_led next) (λ row. all_lead_stays s key weights row.0.node.0 row.0.destination row.1) s.splits valid.splits_are_led)
          (all_lead_stays s key weights key.node.0 key.destination weights (not_true _ parts.1));
      small = still_small s next refl refl refl valid.small;
    }

-- ---- one more demand row
pub demand_kept : (s : ScenarioData) (row : DemandRow) → IsValid s → is_demand_split s row ≡ true → IsValid (record s { demand = edited_rows s.demand row })
demand_kept s row valid split = record {
  demand_is_split = list_all-from_AllPass (is_demand_split s) (edited_rows s.demand row) (All-edited (λ r. is_demand_split s r ≡ true) s.demand row (AllPass-from_list_all (is_demand_split s) s.demand valid.demand_is_split) split);
  splits_are_begun = valid.splits_are_begun;
  splits_are_led = valid.splits_are_led;
  small = still_small s (record s { demand = edited_rows s.demand row }) refl refl refl valid.small;
}

-- ---- what no rule looks at
pub entry_kept : (s : ScenarioData) (entry : List (List ℕ)) → IsValid s → IsValid (record s { entry = entry })
entry_kept s entry valid = record {
  demand_is_split = valid.demand_is_split;
  splits_are_begun = valid.splits_are_begun;
  splits_are_led = valid.splits_are_led;
  small = still_small s (record s { entry = entry }) refl refl refl valid.small;
}

pub exit_kept : (s : ScenarioData) (exit : List (List ℕ)) → IsValid s → IsValid (record s { exit = exit })
exit_kept s exit valid = record {
  demand_is_split = valid.demand_is_split;
  splits_are_begun = valid.splits_are_begun;
  splits_are_led = valid.splits_are_led;
  small = still_small s (record s { exit = exit }) refl refl refl valid.small;
}

pub diagrams_kept : (s : ScenarioData) (diagrams : List Rattle.ltm_diagram.specs.declared.diagram.Diagram.Diagram) → IsValid s → IsValid (record s { diagrams = diagrams })
diagrams_kept s diagrams valid = record {
  demand_is_split = valid.demand_is_split;
  splits_are_begun = valid.splits_are_begun;
  splits_are_led = valid.splits_are_led;
  small = still_small s (record s { diagrams = diagrams }) refl refl refl valid.small;
}

-- ---- the horizon
pub horizon_kept : (s : ScenarioData) (slots : ℕ) → IsValid s → is_small (with_slots s slots) ≡ true → IsValid (with_slots s slots)
horizon_kept s slots valid small = record {
  demand_is_split = valid.demand_is_split;
  splits_are_begun = valid.splits_are_begun;
  splits_are_led = valid.splits_are_led;
  small = small;
}
