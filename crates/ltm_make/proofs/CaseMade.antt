-- The made case is laid on its grid, and covered.
use Rattle.std.proofs.Common.{◌≡◌, ◌≢◌, ℕ, zero, suc, ◌+◌, ◌-◌, ◌*◌, ◌<◌, ◌≤◌, ◌==◌, Bool, true, false, cond, List, [], ◌∷◌, length, unwrap_or, Option, slice_index, refl, sym, ap, subst, ◌∙◌, arith, inl, inr}
use Rattle.std.proofs.lemmas.Bool.{cases_lt}
use Rattle.ltm_network.specs.Names.{place_of}
use Rattle.ltm_units.specs.Bounds.{default_links}
use Rattle.ltm_network.specs.Network.{NetworkData, empty_network}
use Rattle.ltm_splits.specs.Rows.{SplitRow}
use Rattle.ltm_scenario.specs.Data.{ScenarioData}
use Rattle.ltm_scenario.specs.Reads.{destination_node, has_split}
use Rattle.ltm_scenario.specs.Valid.{IsValid}
use Rattle.ltm_scenario.specs.IsScenario.{IsScenario}
use Rattle.ltm_make.specs.declared.grid.Road.{Road}
use Rattle.ltm_make.specs.declared.making.Making.{Making}
use Rattle.ltm_make.specs.Grid.{IsWidth, roads}
use Rattle.ltm_make.specs.Links.{made_setup, with_road, with_roads, making_from, with_grid}
use Rattle.ltm_make.specs.Branches.{number}
use Rattle.ltm_make.specs.Splits.{with_ends, with_splits, IsGrid, IsLaid}
use Rattle.ltm_make.specs.Demands.{with_demands}
use Rattle.ltm_make.specs.MadeCase.{made_from}
use Rattle.ltm_make.proofs.Counting.{is_same}
use Rattle.ltm_make.proofs.Gridding.{are_roads}
use Rattle.ltm_make.proofs.GridMade.{network_made, made_along}
use Rattle.ltm_make.proofs.Roading.{some_width, road_from}
use Rattle.ltm_make.proofs.SplitsMade.{splits_laid}
use Rattle.ltm_make.proofs.Demanded.{demands_laid, few_demands}
use Rattle.ltm_make.proofs.Covered.{AreNamed, along_named, splits_network, home_covered, away_covered, Begun, splits_begun}
use Rattle.ltm_make.proofs.Validly.{is_valid}

-- a grid has one width
pub one_width : (nodes v w : ℕ) → IsWidth nodes v → IsWidth nodes w → v ≡ w
one_width nodes v w a b =
    elim (cases_lt v w) [
      | inl low ↦ absurd (omega (arith, b.least v low, a.enough))
      | inr high ↦ elim (cases_lt w v) [ inl low ↦ absurd (omega (arith, a.least w low, b.enough)) | inr same ↦ omega arith ]
    ]

-- ---- links leave all else as it is
pub record IsFresh (s : ScenarioData) : Type 0 where
  pub setup : s.setup ≡ made_setup
  pub destinations : s.destinations ≡ []
  pub splits : s.splits ≡ []
  pub demand : s.demand ≡ []

roads_fresh : (m : Making) (list : List Road) → IsFresh m.scenario → IsFresh (with_roads m list).scenario
roads_fresh m [] h = h
roads_fresh m (r ∷ list) h = roads_fresh (with_road m r) list (record { setup = h.setup; destinations = h.destinations; splits = h.splits; demand = h.demand })

pub grid_fresh : (start nodes width : ℕ) → IsFresh (with_grid nodes width (making_from start)).scenario
grid_fresh start nodes width = roads_fresh (making_from start) (roads nodes width nodes) (record { setup = refl; destinations = refl; splits = refl; demand = refl })

pub ends_laid : (start nodes width : ℕ) → IsGrid nodes width → IsLaid nodes width (with_ends width (with_grid nodes width (making_from start))).scenario
ends_laid start nodes width g = record {
  grid = g;
  setup = (grid_fresh start nodes width).setup;
  along = made_along (making_from start) (roads nodes width nodes) refl;
  ends = refl;
}

-- ---- split rows leave demand, and demand leaves split rows, as they are
if_kept : {A : Type 0} (part : Making → A) (b : Bool) (m next : Making) → part next ≡ part m → part (cond b m next) ≡ part m
if_kept part true m next e = refl
if_kept part false m next e = e

pub splits_demand : (nodes w i : ℕ) (m : Making) → (with_splits nodes w i m).scenario.demand ≡ m.scenario.demand
splits_demand nodes w zero m = refl
splits_demand nodes w (suc i) m =
    if_kept (λ (x : Making). x.scenario.demand) (i + 1 == w) _ _ refl
    ∙ (if_kept (λ (x : Making). x.scenario.demand) (i == 0) _ _ refl ∙ splits_demand nodes w i m)

pub demands_splits : (w i : ℕ) (m : Making) → (with_demands w i m).scenario.splits ≡ m.scenario.splits
demands_splits w zero m = refl
demands_splits w (suc i) m =
    if_kept (λ (x : Making). x.scenario.splits) (i + 1 == w) _ _ refl
    ∙ (if_kept (λ (x : Making). x.scenario.splits) (i == 0) _ _ refl ∙ demands_splits w i m)

pub demands_network : (w i : ℕ) (m : Making) → (with_demands w i m).scenario.network ≡ m.scenario.network
demands_network w zero m = refl
demands_network w (suc i) m =
    if_kept (λ (x : Making). x.scenario.network) (i + 1 == w) _ _ refl
    ∙ (if_kept (λ (x : Making). x.scenario.network) (i == 0) _ _ refl ∙ demands_network w i m)

-- ---- the whole
abbrev ends_of : ℕ → ℕ → ℕ → Making
ends_of start nodes width = with_ends width (with_grid nodes width (making_from start))

pub made_laid : (start nodes width : ℕ) → IsGrid nodes width → IsLaid nodes width (made_from start nodes width).scenario
made_laid start nodes width g =
    demands_laid nodes width nodes (with_splits nodes width nodes (ends_of start nodes width)) (splits_laid nodes width nodes (ends_of start nodes width) (ends_laid start nodes width g))

made_network : (start nodes width : ℕ) → (made_from start nodes width).scenario.network ≡ (ends_of start nodes width).scenario.network
made_network start nodes width =
    demands_network width nodes (with_splits nodes width nodes (ends_of start nodes width)) ∙ splits_network nodes width nodes (ends_of start nodes width)

made_splits : (start nodes width : ℕ) → (made_from start nodes width).scenario.splits ≡ (with_splits nodes width nodes (ends_of start nodes width)).scenario.splits
made_splits start nodes width = demands_splits width nodes (with_splits nodes width nodes (ends_of start nodes width))

pub made_few : (start nodes width : ℕ) → length (made_from start nodes width).scenario.demand ≤ 2 * nodes
made_few start nodes width =
    few_demands width nodes (with_splits nodes width nodes (ends_of start nodes width)) (splits_demand nodes width nodes (ends_of start nodes width) ∙ (grid_fresh start nodes width).demand)

made_named : (start nodes width : ℕ) → IsGrid nodes width → AreNamed nodes (made_from start nodes width).scenario.network.nodes
made_named start nodes width g =
    subst (λ (d : NetworkData). AreNamed nodes d.nodes) (sym (made_network start nodes width ∙ network_made (making_from start) (roads nodes width nodes)))
    (along_named nodes (empty_network default_links) (roads nodes width nodes) (λ u l. absurd (omega arith)) (are_roads nodes width nodes (omega (arith, some_width nodes width g)) (omega arith)))

-- a node but the first has a split row home, and a node but the end of the first row one away
pub made_home : (start nodes width k : ℕ) → k < nodes → k ≢ 0 → has_split (made_from start nodes width).scenario.splits (number (made_from start nodes width).scenario.network k) 0 ≡ true
made_home start nodes width k l away =
    ap (λ (rows : List SplitRow). has_split rows (number (made_from start nodes width).scenario.network k) 0) (made_splits start nodes width)
    ∙ (ap (λ (d : NetworkData). has_split (with_splits nodes width nodes (ends_of start nodes width)).scenario.splits (number d k) 0) (made_network start nodes width)
    ∙ home_covered nodes width nodes k (ends_of start nodes width) l away)

pub made_away : (start nodes width k : ℕ) → k < nodes → k + 1 ≢ width → has_split (made_from start nodes width).scenario.splits (number (made_from start nodes width).scenario.network k) 1 ≡ true
made_away start nodes width k l other =
    ap (λ (rows : List SplitRow). has_split rows (number (made_from start nodes width).scenario.network k) 1) (made_splits start nodes width)
    ∙ (ap (λ (d : NetworkData). has_split (with_splits nodes width nodes (ends_of start nodes width)).scenario.splits (number d k) 1) (made_network start nodes width)
    ∙ away_covered nodes width nodes k (ends_of start nodes width) l other)

not_same : (u v : ℕ) → (u == v) ≡ false → u ≢ v
not_same u v e same = let yes : (u == v) ≡ true = is_same u v same in let no : false ≡ true = sym e ∙ yes in cc

-- which of two destinations a number below 2 is
covered_at : (start nodes width : ℕ) → IsGrid nodes width → IsScenario (made_from start nodes width).scenario → (u d : ℕ) → u < length (made_from start nodes width).scenario.network.nodes → d < 2 →
    (u == destination_node (made_from start nodes width).scenario d) ≡ false → has_split (made_from start nodes width).scenario.splits u d ≡ true
covered_at start nodes width g is u zero l x apart =
    let s : ScenarioData = (made_from start nodes width).scenario in
    let h = made_laid start nodes width g in
    let name = made_named start nodes width g u l in
    let at : number (made_from start nodes width).scenario.network name.number ≡ u =
    ap (λ (o : Option ℕ). unwrap_or o (length (made_from start nodes width).scenario.network.nodes)) (ap (place_of (made_from start nodes width).scenario.network.nodes) (sym name.same) ∙ is.network.nodes_apart u l) in
    let node : destination_node (made_from start nodes width).scenario 0 ≡ number (made_from start nodes width).scenario.network 0 = ap (λ (list : List ℕ). slice_index list 0) h.ends in
    let away : name.number ≢ 0 = λ e. not_same u (destination_node (made_from start nodes width).scenario 0) apart (sym at ∙ (ap (number (made_from start nodes width).scenario.network) e ∙ sym node)) in
    subst (λ (v : ℕ). has_split (made_from start nodes width).scenario.splits v 0 ≡ true) at (made_home start nodes width name.number name.below away)
covered_at start nodes width g is u (suc zero) l x apart =
    let s : ScenarioData = (made_from start nodes width).scenario in
    let h = made_laid start nodes width g in
    let name = made_named start nodes width g u l in
    let at : number (made_from start nodes width).scenario.network name.number ≡ u =
    ap (λ (o : Option ℕ). unwrap_or o (length (made_from start nodes width).scenario.network.nodes)) (ap (place_of (made_from start nodes width).scenario.network.nodes) (sym name.same) ∙ is.network.nodes_apart u l) in
    let node : destination_node (made_from start nodes width).scenario 1 ≡ number (made_from start nodes width).scenario.network (width - 1) = ap (λ (list : List ℕ). slice_index list 1) h.ends in
    let other : name.number + 1 ≢ width = λ e.
    let k : name.number ≡ width - 1 = omega arith in
    not_same u (destination_node (made_from start nodes width).scenario 1) apart (sym at ∙ (ap (number (made_from start nodes width).scenario.network) k ∙ sym node)) in
    subst (λ (v : ℕ). has_split (made_from start nodes width).scenario.splits v 1 ≡ true) at (made_away start nodes width name.number name.below other)
covered_at start nodes width g is u (suc (suc d)) l x apart = absurd (omega arith)

pub made_valid : (start nodes width : ℕ) → IsGrid nodes width → IsScenario (made_from start nodes width).scenario → IsValid (made_from start nodes width).scenario
made_valid start nodes width g is =
    let h = made_laid start nodes width g in
    is_valid (made_from start nodes width).scenario is (record {
      two = ap length h.ends;
      setup = h.setup;
      begun = subst Begun (sym (made_splits start nodes width)) (splits_begun nodes width nodes (ends_of start nodes width) (grid_fresh start nodes width).splits);
      covered = covered_at start nodes width g is;
    })

-- it has a link
pub made_links : (start nodes width : ℕ) → IsGrid nodes width → 0 < length (made_from start nodes width).scenario.network.links
made_links start nodes width g =
    let h = made_laid start nodes width g in
    let r = road_from nodes width 0 g (omega (arith, g.some)) in
    omega (arith, h.along.long, r.1.inside)
