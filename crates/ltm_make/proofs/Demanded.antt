-- Demand rows of a made case find room.
use Rattle.std.proofs.Common.{◌≡◌, ◌≢◌, ℕ, zero, suc, ◌+◌, ◌-◌, ◌*◌, ◌<◌, ◌≤◌, ◌==◌, Bool, true, false, cond, List, [], ◌∷◌, ◌++◌, length, filter, refl, ap, ◌∙◌, arith, length-append, slice_index, Result, Ok}
use Rattle.std.specs.declared.cmp.Ordering.{Ordering}
use Rattle.std.specs.declared.cmp.Ordering.TheVariants.{Less, Equal, Greater}
use Rattle.std.specs.Ordering.{is_lt, is_gt}
use Rattle.ltm_demand.specs.declared.row.DemandRow.{DemandRow}
use Rattle.ltm_demand.specs.declared.row.DemandFault.{DemandFault}
use Rattle.ltm_demand.specs.Rows.{DemandData, row_cmp, before, behind, row_if_any, edited_rows, has_slots}
use Rattle.ltm_demand.proofs.Restoring.{with_row_done}
use Rattle.ltm_network.specs.Network.{out_links}
use Rattle.ltm_scenario.specs.Data.{ScenarioData}
use Rattle.ltm_scenario.specs.Build.{with_demand, ◌>>=◌}
use Rattle.ltm_units.specs.Bounds.{default_demand_rows}
use Rattle.ltm_make.specs.declared.making.Making.{Making}
use Rattle.ltm_make.specs.Grid.{roads}
use Rattle.ltm_make.specs.Branches.{number}
use Rattle.ltm_make.specs.Splits.{IsLaid}
use Rattle.ltm_make.specs.Demands.{row_from, with_demand_row, with_homeward, with_awayward, with_demands, IsOrigin}
use Rattle.ltm_make.proofs.Roading.{road_from, road_link, node_found, numbers_apart, some_width, few_width}

both_by : {X : Type 0} (a b : Bool) (x : X) (ps qs : List X) (n : ℕ) → (a ≡ true → b ≡ false) → length ps + length qs ≤ n → length (cond a (x ∷ ps) ps) + length (cond b (x ∷ qs) qs) ≤ suc n
both_by true true x ps qs n h l = let e : true ≡ false = h refl in cc
both_by true false x ps qs n h l = omega arith
both_by false true x ps qs n h l = omega arith
both_by false false x ps qs n h l = omega arith

-- no more pass one of two tests than there are, where none passes both
either_passes : {X : Type 0} (p q : X → Bool) → ((x : X) → p x ≡ true → q x ≡ false) → (xs : List X) → length (filter p xs) + length (filter q xs) ≤ length xs
either_passes p q h [] = omega arith
either_passes p q h (x ∷ xs) =
    let less : length (filter p xs) + length (filter q xs) ≤ length xs = either_passes p q h xs in
    both_by (p x) (q x) x (filter p xs) (filter q xs) (length xs) (h x) less

one_side : (r : Ordering) → is_lt r ≡ true → is_gt r ≡ false
one_side Less e = refl
one_side Equal e = refl
one_side Greater e = cc

few_shown : (row : DemandRow) → length (row_if_any row) ≤ 1
few_shown row = elim (row.amount.0 == 0) as (λ (b : Bool). length (cond b [] (row ∷ [])) ≤ 1) [ true ↦ omega arith | false ↦ omega arith ]

-- a row more
pub length_edited : (rows : List DemandRow) (row : DemandRow) → length (edited_rows rows row) ≤ length rows + 1
unfolding edited_rows before behind
length_edited rows row =
    let parts = either_passes (λ (r : DemandRow). is_lt (row_cmp r row)) (λ (r : DemandRow). is_gt (row_cmp r row)) (λ r e. one_side (row_cmp r row) e) rows in
    omega (
      arith,
      few_shown row,
      parts,
      length-append (filter (λ (r : DemandRow). is_lt (row_cmp r row)) rows) (row_if_any row ++ filter (λ (r : DemandRow). is_gt (row_cmp r row)) rows),
      length-append (row_if_any row) (filter (λ (r : DemandRow). is_gt (row_cmp r row)) rows),
    )

pub row_is_set : (s : ScenarioData) (row : DemandRow) → has_slots s.setup.slots row ≡ true → length s.demand < s.setup.most_demand_rows → with_demand s row ≡ Ok (record s { demand = edited_rows s.demand row })
row_is_set s row within few =
    ap (λ (r : Result DemandData DemandFault). r >>= λ next. Ok (record s { demand = next.rows }))
    (with_row_done s.setup.slots s.setup.most_demand_rows s.demand row within (omega (arith, length_edited s.demand row)))

-- ---- what stays
row_stays_laid : (nodes width k destination : ℕ) (m : Making) → IsLaid nodes width m.scenario → IsLaid nodes width (with_demand_row k destination m).scenario
row_stays_laid nodes width k destination m h = record { grid = h.grid; setup = h.setup; along = h.along; ends = h.ends }

if_laid : (nodes width : ℕ) (b : Bool) (m next : Making) → IsLaid nodes width m.scenario → IsLaid nodes width next.scenario → IsLaid nodes width (cond b m next).scenario
if_laid nodes width true m next h g = h
if_laid nodes width false m next h g = g

pub homeward_laid : (nodes width k : ℕ) (m : Making) → IsLaid nodes width m.scenario → IsLaid nodes width (with_homeward k m).scenario
homeward_laid nodes width k m h = if_laid nodes width (k == 0) m (with_demand_row k 0 m) h (row_stays_laid nodes width k 0 m h)

awayward_laid : (nodes width k : ℕ) (m : Making) → IsLaid nodes width m.scenario → IsLaid nodes width (with_awayward width k m).scenario
awayward_laid nodes width k m h = if_laid nodes width (k + 1 == width) m (with_demand_row k 1 m) h (row_stays_laid nodes width k 1 m h)

pub demands_laid : (nodes width k : ℕ) (m : Making) → IsLaid nodes width m.scenario → IsLaid nodes width (with_demands width k m).scenario
demands_laid nodes width zero m h = h
demands_laid nodes width (suc k) m h =
    awayward_laid nodes width k (with_homeward k (with_demands width k m)) (homeward_laid nodes width k (with_demands width k m) (demands_laid nodes width k m h))

if_few : (b : Bool) (m next : Making) (n : ℕ) → length m.scenario.demand ≤ n → length next.scenario.demand ≤ n → length (cond b m next).scenario.demand ≤ n
if_few true m next n h g = h
if_few false m next n h g = g

pub few_homeward : (k n : ℕ) (m : Making) → length m.scenario.demand ≤ n → length (with_homeward k m).scenario.demand ≤ n + 1
few_homeward k n m h =
    if_few (k == 0) m (with_demand_row k 0 m) (n + 1) (omega arith) (omega (arith, length_edited m.scenario.demand (row_from m.scenario.network k 0 m.words)))

few_awayward : (width k n : ℕ) (m : Making) → length m.scenario.demand ≤ n → length (with_awayward width k m).scenario.demand ≤ n + 1
few_awayward width k n m h =
    if_few (k + 1 == width) m (with_demand_row k 1 m) (n + 1) (omega arith) (omega (arith, length_edited m.scenario.demand (row_from m.scenario.network k 1 m.words)))

pub few_demands : (width k : ℕ) (m : Making) → m.scenario.demand ≡ [] → length (with_demands width k m).scenario.demand ≤ 2 * k
few_demands width zero m e = omega (arith, ap length e)
few_demands width (suc k) m e =
    let a = few_demands width k m e in
    let b = few_homeward k (2 * k) (with_demands width k m) a in
    let c = few_awayward width k (2 * k + 1) (with_homeward k (with_demands width k m)) b in
    omega (arith, c)

-- ---- what a node's rows ask
pub goes_out : (s : ScenarioData) (n w k : ℕ) → IsLaid n w s → k < n → 0 < length (out_links s.network (number s.network k))
goes_out s n w k h l =
    let r = road_from n w k h.grid l in
    omega (arith, (road_link s.network (roads n w n) k r.0 h.along r.1).inside)

pub home_origin : (s : ScenarioData) (n w k : ℕ) → IsLaid n w s → 0 < k → k < n → length s.demand < default_demand_rows → IsOrigin s k 0
home_origin s n w k h pos l few = record {
  setup = h.setup;
  few = few;
  found = node_found s.network n w k h.grid h.along l;
  goes_out = goes_out s n w k h l;
  there = omega (arith, ap length h.ends);
  apart = ap (λ (list : List ℕ). number s.network k == slice_index list 0) h.ends
      ∙ numbers_apart s.network k 0 (node_found s.network n w k h.grid h.along l) (node_found s.network n w 0 h.grid h.along (omega arith)) (omega (arith, h.grid.few)) (omega arith) (omega arith);
}

pub away_origin : (s : ScenarioData) (n w k : ℕ) → IsLaid n w s → k + 1 ≢ w → k < n → length s.demand < default_demand_rows → IsOrigin s k 1
away_origin s n w k h other l few = record {
  setup = h.setup;
  few = few;
  found = node_found s.network n w k h.grid h.along l;
  goes_out = goes_out s n w k h l;
  there = omega (arith, ap length h.ends);
  apart = ap (λ (list : List ℕ). number s.network k == slice_index list 1) h.ends
      ∙ numbers_apart s.network k (w - 1) (node_found s.network n w k h.grid h.along l) (node_found s.network n w (w - 1) h.grid h.along (omega (arith, some_width n w h.grid, few_width n w h.grid)))
      (omega (arith, h.grid.few)) (omega (arith, h.grid.few, few_width n w h.grid)) (omega (arith, some_width n w h.grid));
}
