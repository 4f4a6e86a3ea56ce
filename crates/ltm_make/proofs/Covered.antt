-- Every node but the destination has a split row for it.
use Rattle.std.proofs.Common.{◌≡◌, ◌≢◌, ℕ, zero, suc, ◌+◌, ◌<◌, ◌==◌, ◌&&◌, ◌||◌, Bool, true, false, cond, List, [], ◌∷◌, ◌++◌, length, get_or, is_some, All, Option, refl, sym, ap, subst, ◌∙◌, arith, length-append, inl, inr}
use Rattle.std.proofs.Math.ListN.{get_or-append}
use Rattle.std.proofs.lemmas.List.{get_or_push}
use Rattle.std.proofs.lemmas.List.Elements.{All-nil}
use Rattle.std.proofs.lemmas.Bool.{cases_lt}
use Rattle.std.specs.List.{list_any}
use Rattle.std.specs.declared.cmp.Ordering.TheVariants.{Less, Equal, Greater}
use Rattle.std.specs.Ordering.{match_ordering}
use Rattle.std.specs.BTreeMap.{insert_entry}
use Rattle.ltm_network.specs.Names.{place_of, with_name}
use Rattle.ltm_network.specs.Network.{NetworkData}
use Rattle.ltm_splits.specs.declared.keys.SplitKey.{SplitKey}
use Rattle.ltm_splits.specs.Rows.{SplitRow, split_cmp, key_of, put_in}
use Rattle.ltm_scenario.specs.Reads.{has_split}
use Rattle.ltm_scenario.proofs.Kept.{split_exact, All-put_in}
use Rattle.ltm_make.specs.declared.branches.Branch.{Branch}
use Rattle.ltm_make.specs.declared.grid.Road.{Road}
use Rattle.ltm_make.specs.declared.making.Making.{Making}
use Rattle.ltm_make.specs.Names.{name_of_node}
use Rattle.ltm_make.specs.Links.{with_road_link}
use Rattle.ltm_make.specs.Roads.{network_along}
use Rattle.ltm_make.specs.Branches.{number, home_first, home_second, away_first, away_second}
use Rattle.ltm_make.specs.Splits.{weights, with_split_row, with_home, with_away, with_splits}
use Rattle.ltm_make.proofs.Counting.{is_same, is_other}
use Rattle.ltm_make.proofs.Gridding.{AreRoads}

-- ---- the nodes of a network along roads are named as nodes of the grid
pub record IsNamed (nodes : ℕ) (name : List ℕ) : Type 0 where
  pub number : ℕ
  pub below : number < nodes
  pub same : name ≡ name_of_node number

abbrev pub AreNamed : ℕ → List (List ℕ) → Type 0
AreNamed nodes names = (u : ℕ) → u < length names → IsNamed nodes (get_or names u [])

named_by : (nodes : ℕ) (names : List (List ℕ)) (k : ℕ) (b : Bool) → k < nodes → AreNamed nodes names → AreNamed nodes (cond b names (names ++ name_of_node k ∷ []))
named_by nodes names k true l h = h
named_by nodes names k false l h = λ u x.
    elim (cases_lt u (length names)) [
      | inl low ↦ subst (IsNamed nodes) (sym (get_or-append names (name_of_node k ∷ []) [] u low)) (h u low)
      | inr high ↦
          let at : length names ≡ u = omega (arith, length-append names (name_of_node k ∷ [])) in
          record { number = k; below = l; same = get_or_push names (name_of_node k) [] u at }
    ]

more_named : (nodes : ℕ) (names : List (List ℕ)) (k : ℕ) → k < nodes → AreNamed nodes names → AreNamed nodes (with_name names (name_of_node k))
more_named nodes names k l h = named_by nodes names k (is_some (place_of names (name_of_node k))) l h

pub along_named : (nodes : ℕ) (d : NetworkData) (list : List Road) → AreNamed nodes d.nodes → AreRoads nodes list → AreNamed nodes (network_along d list).nodes
along_named nodes d [] h roads = h
along_named nodes d (r ∷ list) h roads =
    let first = roads 0 (omega arith) in
    along_named nodes (with_road_link d r) list
    (more_named nodes (with_name d.nodes (name_of_node r.from)) r.to first.to (more_named nodes d.nodes r.from first.from h))
    (λ i l. roads (suc i) (omega arith))

-- ---- split rows that are put in
or_right : (a b c : Bool) → (b ≡ true → c ≡ true) → (a || b) ≡ true → (a || c) ≡ true
or_right true b c h e = refl
or_right false b c h e = h e

or_second : (a b : Bool) → b ≡ true → (a || b) ≡ true
or_second true b e = refl
or_second false b e = e

any_stays : (p : SplitKey → Bool) (k : SplitKey) (v : List ℕ) (es : List SplitRow) → list_any (λ e. p e.0) es ≡ true → list_any (λ e. p e.0) (put_in es k v) ≡ true
any_stays p k v [] h = cc
any_stays p k v (e ∷ es) h =
    elim (split_cmp k e.0) as (λ r. list_any (λ x. p x.0) (match_ordering r ((k, v) ∷ e ∷ es) ((e.0, v) ∷ es) (e ∷ insert_entry split_cmp es k v)) ≡ true) [
      | Less ↦ or_second (p k) (list_any (λ x. p x.0) (e ∷ es)) h
      | Equal ↦ h
      | Greater ↦ or_right (p e.0) (list_any (λ x. p x.0) es) (list_any (λ x. p x.0) (insert_entry split_cmp es k v)) (any_stays p k v es) h
    ]

any_new : (p : SplitKey → Bool) (k : SplitKey) (v : List ℕ) (es : List SplitRow) → p k ≡ true → list_any (λ e. p e.0) (put_in es k v) ≡ true
any_new p k v [] h = ap (λ (b : Bool). b || false) h
any_new p k v (e ∷ es) h =
    elim (split_cmp k e.0) as (λ r. split_cmp k e.0 ≡ r → list_any (λ x. p x.0) (match_ordering r ((k, v) ∷ e ∷ es) ((e.0, v) ∷ es) (e ∷ insert_entry split_cmp es k v)) ≡ true) [
      | Less ↦ λ is. ap (λ (b : Bool). b || list_any (λ x. p x.0) (e ∷ es)) h
      | Equal ↦ λ is. ap (λ (b : Bool). b || list_any (λ x. p x.0) es) (ap p (sym (split_exact k e.0 is)) ∙ h)
      | Greater ↦ λ is. or_second (p e.0) (list_any (λ x. p x.0) (insert_entry split_cmp es k v)) (any_new p k v es h)
    ] refl

row_stays : (k destination : ℕ) (first : Branch) (second : Option Branch) (m : Making) (n d : ℕ) → has_split m.scenario.splits n d ≡ true → has_split (with_split_row k destination first second m).scenario.splits n d ≡ true
row_stays k destination first second m n d h =
    any_stays (λ key. (key.node.0 == n) && (key.destination == d)) (key_of (number m.scenario.network k) destination 0) (weights m.scenario.network k first second m.words) m.scenario.splits h

row_is_new : (k destination : ℕ) (first : Branch) (second : Option Branch) (m : Making) → has_split (with_split_row k destination first second m).scenario.splits (number m.scenario.network k) destination ≡ true
row_is_new k destination first second m =
    any_new (λ key. (key.node.0 == number m.scenario.network k) && (key.destination == destination)) (key_of (number m.scenario.network k) destination 0) (weights m.scenario.network k first second m.words) m.scenario.splits
    (ap (λ (b : Bool). b && (destination == destination)) (is_same (number m.scenario.network k) (number m.scenario.network k) refl) ∙ is_same destination destination refl)

-- what holds of both holds of the one that is taken
either : (P : Making → Type 0) (b : Bool) (m next : Making) → P m → P next → P (cond b m next)
either P true m next h g = h
either P false m next h g = g

home_stays : (w k : ℕ) (m : Making) (n d : ℕ) → has_split m.scenario.splits n d ≡ true → has_split (with_home w k m).scenario.splits n d ≡ true
home_stays w k m n d h =
    either (λ x. has_split x.scenario.splits n d ≡ true) (k == 0) m (with_split_row k 0 (home_first w k) (home_second w k) m) h (row_stays k 0 (home_first w k) (home_second w k) m n d h)

away_stays : (nodes w k : ℕ) (m : Making) (n d : ℕ) → has_split m.scenario.splits n d ≡ true → has_split (with_away nodes w k m).scenario.splits n d ≡ true
away_stays nodes w k m n d h =
    either (λ x. has_split x.scenario.splits n d ≡ true) (k + 1 == w) m (with_split_row k 1 (away_first w k) (away_second nodes w k) m) h (row_stays k 1 (away_first w k) (away_second nodes w k) m n d h)

home_network : (w k : ℕ) (m : Making) → (with_home w k m).scenario.network ≡ m.scenario.network
home_network w k m = either (λ x. x.scenario.network ≡ m.scenario.network) (k == 0) m (with_split_row k 0 (home_first w k) (home_second w k) m) refl refl

away_network : (nodes w k : ℕ) (m : Making) → (with_away nodes w k m).scenario.network ≡ m.scenario.network
away_network nodes w k m = either (λ x. x.scenario.network ≡ m.scenario.network) (k + 1 == w) m (with_split_row k 1 (away_first w k) (away_second nodes w k) m) refl refl

pub splits_network : (nodes w k : ℕ) (m : Making) → (with_splits nodes w k m).scenario.network ≡ m.scenario.network
splits_network nodes w zero m = refl
splits_network nodes w (suc k) m =
    away_network nodes w k (with_home w k (with_splits nodes w k m)) ∙ (home_network w k (with_splits nodes w k m) ∙ splits_network nodes w k m)

home_is_new : (w k : ℕ) (m : Making) → k ≢ 0 → has_split (with_home w k m).scenario.splits (number m.scenario.network k) 0 ≡ true
home_is_new w k m away =
    ap (λ (b : Bool). has_split (cond b m (with_split_row k 0 (home_first w k) (home_second w k) m)).scenario.splits (number m.scenario.network k) 0) (is_other k 0 away)
    ∙ row_is_new k 0 (home_first w k) (home_second w k) m

away_is_new : (nodes w k : ℕ) (m : Making) → k + 1 ≢ w → has_split (with_away nodes w k m).scenario.splits (number m.scenario.network k) 1 ≡ true
away_is_new nodes w k m other =
    ap (λ (b : Bool). has_split (cond b m (with_split_row k 1 (away_first w k) (away_second nodes w k) m)).scenario.splits (number m.scenario.network k) 1) (is_other (k + 1) w other)
    ∙ row_is_new k 1 (away_first w k) (away_second nodes w k) m

pub home_covered : (nodes w i k : ℕ) (m : Making) → k < i → k ≢ 0 → has_split (with_splits nodes w i m).scenario.splits (number m.scenario.network k) 0 ≡ true
home_covered nodes w zero k m l away = absurd (omega arith)
home_covered nodes w (suc i) k m l away =
    let before : Making = with_splits nodes w i m in
    away_stays nodes w i (with_home w i (with_splits nodes w i m)) (number m.scenario.network k) 0
    (elim (cases_lt k i) [
      | inl low ↦ home_stays w i (with_splits nodes w i m) (number m.scenario.network k) 0 (home_covered nodes w i k m low away)
      | inr high ↦
          let at : k ≡ i = omega arith in
          subst (λ (d : NetworkData). has_split (with_home w i (with_splits nodes w i m)).scenario.splits (number d k) 0 ≡ true) (splits_network nodes w i m)
          (subst (λ (j : ℕ). has_split (with_home w i (with_splits nodes w i m)).scenario.splits (number (with_splits nodes w i m).scenario.network j) 0 ≡ true) (sym at)
          (home_is_new w i (with_splits nodes w i m) (λ e. away (at ∙ e))))
    ])

pub away_covered : (nodes w i k : ℕ) (m : Making) → k < i → k + 1 ≢ w → has_split (with_splits nodes w i m).scenario.splits (number m.scenario.network k) 1 ≡ true
away_covered nodes w zero k m l other = absurd (omega arith)
away_covered nodes w (suc i) k m l other =
    elim (cases_lt k i) [
      | inl low ↦
          away_stays nodes w i (with_home w i (with_splits nodes w i m)) (number m.scenario.network k) 1
          (home_stays w i (with_splits nodes w i m) (number m.scenario.network k) 1 (away_covered nodes w i k m low other))
      | inr high ↦
          let at : k ≡ i = omega arith in
          let net : (with_home w i (with_splits nodes w i m)).scenario.network ≡ m.scenario.network = home_network w i (with_splits nodes w i m) ∙ splits_network nodes w i m in
          subst (λ (d : NetworkData). has_split (with_away nodes w i (with_home w i (with_splits nodes w i m))).scenario.splits (number d k) 1 ≡ true) net
          (subst (λ (j : ℕ). has_split (with_away nodes w i (with_home w i (with_splits nodes w i m))).scenario.splits (number (with_home w i (with_splits nodes w i m)).scenario.network j) 1 ≡ true) (sym at)
          (away_is_new nodes w i (with_home w i (with_splits nodes w i m)) (λ e. other (ap (λ (z : ℕ). z + 1) at ∙ e))))
    ]

-- ---- each row begins at slot 0
abbrev pub Begun : List SplitRow → Type 0
Begun rows = All (λ row. row.0.from ≡ 0) rows

row_begun : (k destination : ℕ) (first : Branch) (second : Option Branch) (m : Making) → Begun m.scenario.splits → Begun (with_split_row k destination first second m).scenario.splits
row_begun k destination first second m h =
    All-put_in (λ row. row.0.from ≡ 0) m.scenario.splits (key_of (number m.scenario.network k) destination 0) (weights m.scenario.network k first second m.words) h refl

pub splits_begun : (nodes w i : ℕ) (m : Making) → m.scenario.splits ≡ [] → Begun (with_splits nodes w i m).scenario.splits
splits_begun nodes w zero m e = subst Begun (sym e) (All-nil (λ (row : SplitRow). row.0.from ≡ 0))
splits_begun nodes w (suc i) m e =
    let before = splits_begun nodes w i m e in
    let home : Begun (with_home w i (with_splits nodes w i m)).scenario.splits =
    either (λ x. Begun x.scenario.splits) (i == 0) (with_splits nodes w i m) (with_split_row i 0 (home_first w i) (home_second w i) (with_splits nodes w i m)) before
    (row_begun i 0 (home_first w i) (home_second w i) (with_splits nodes w i m) before) in
    either (λ x. Begun x.scenario.splits) (i + 1 == w) (with_home w i (with_splits nodes w i m)) (with_split_row i 1 (away_first w i) (away_second nodes w i) (with_home w i (with_splits nodes w i m))) home
    (row_begun i 1 (away_first w i) (away_second nodes w i) (with_home w i (with_splits nodes w i m)) home)
