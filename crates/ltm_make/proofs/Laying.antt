-- The branches of split rows lead along links.
use Rattle.std.proofs.Common.{◌≡◌, ◌≢◌, ℕ, ◌+◌, ◌-◌, ◌%◌, ◌<◌, ◌≤◌, ◌==◌, ◌&&◌, Bool, true, false, cond, nat_lt, nat_le, List, [], ◌∷◌, length, Option, Some, None, refl, ap, ◌∙◌, arith, inl, inr, slice_index}
use Rattle.std.proofs.lemmas.Bool.{cases_lt}
use Rattle.std.proofs.lemmas.Bool.Decides.{nat_tests}
use Rattle.ltm_network.specs.Network.{NetworkData}
use Rattle.ltm_scenario.specs.Data.{ScenarioData}
use Rattle.ltm_scenario.specs.Reads.{destination_of}
use Rattle.ltm_units.specs.Bounds.{default_split_rows}
use Rattle.ltm_make.specs.declared.branches.Branch.{Branch}
use Rattle.ltm_make.specs.Grid.{has_right, roads}
use Rattle.ltm_make.specs.Roads.{IsAlong}
use Rattle.ltm_make.specs.Branches.{number, nearer, home_first, home_second, away_first, away_second}
use Rattle.ltm_make.specs.Splits.{AreBranches, HasRoom, IsGrid, IsLaid}
use Rattle.ltm_make.proofs.Roading.{HasRoad, column_first, left_road, up_road, right_road, some_width, few_width, start_found, end_found, road_link, node_found, numbers_apart}

true_test : (a b : ℕ) → a < b → nat_lt a b ≡ true
true_test a b l = grind (arith, nat_tests)

true_le : (a b : ℕ) → a ≤ b → nat_le a b ≡ true
true_le a b l = grind (arith, nat_tests)

first_below : (a b : ℕ) → nat_lt a b ≡ true → a < b
first_below a b e = grind (arith, nat_tests)

first_of : (a b : Bool) → (a && b) ≡ true → a ≡ true
first_of true b e = refl
first_of false b e = cc

second_of : (a b : Bool) → (a && b) ≡ true → b ≡ true
second_of true b e = e
second_of false b e = cc

-- one branch along a road
one_branch : (d : NetworkData) (list : List Rattle.ltm_make.specs.declared.grid.Road.Road) (k : ℕ) (b : Branch) → IsAlong d list → HasRoad list k b.to → b.least ≡ 1 → b.choices ≤ 3 → AreBranches d k b None
one_branch d list k b h r one few = record {
  here = start_found d list k b.to h r;
  first_found = end_found d list k b.to h r;
  leads = road_link d list k b.to h r;
  some = one;
  few = few;
  second_found = tt;
  second_least = tt;
  second_few = tt;
}

-- and one more
two_branches : (d : NetworkData) (list : List Rattle.ltm_make.specs.declared.grid.Road.Road) (k : ℕ) (b c : Branch) → IsAlong d list → HasRoad list k b.to → b.least ≡ 1 → b.choices ≤ 3 →
    HasRoad list k c.to → c.least ≤ 1 → c.choices ≤ 3 → AreBranches d k b (Some c)
two_branches d list k b c h r one few q least small = record {
  here = start_found d list k b.to h r;
  first_found = end_found d list k b.to h r;
  leads = road_link d list k b.to h r;
  some = one;
  few = few;
  second_found = end_found d list k c.to h q;
  second_least = least;
  second_few = small;
}

home_with : (d : NetworkData) (n w k : ℕ) → IsGrid n w → IsAlong d (roads n w n) → 0 < k → k < n → (left up : Bool) → nat_lt 0 (k % w) ≡ left → nat_le w k ≡ up →
    AreBranches d k (cond left (nearer (k - 1)) (nearer (k - w))) (cond (left && up) (Some (nearer (k - w))) None)
home_with d n w k g h pos l true true e f =
    two_branches d (roads n w n) k (nearer (k - 1)) (nearer (k - w)) h (left_road n w k (omega (arith, some_width n w g)) l (first_below 0 (k % w) e)) refl (omega arith)
    (up_road n w k (omega (arith, some_width n w g)) (let z : w ≤ k = grind (arith, nat_tests) in z) l) (omega arith) (omega arith)
home_with d n w k g h pos l true false e f =
    one_branch d (roads n w n) k (nearer (k - 1)) h (left_road n w k (omega (arith, some_width n w g)) l (first_below 0 (k % w) e)) refl (omega arith)
home_with d n w k g h pos l false up e f =
    elim (cases_lt k w) [
      | inl top ↦
          let none : k % w ≡ k = column_first w k top in
          let yes : nat_lt 0 (k % w) ≡ true = true_test 0 (k % w) (omega arith) in absurd (cc)
      | inr below ↦ one_branch d (roads n w n) k (nearer (k - w)) h (up_road n w k (omega (arith, some_width n w g)) below l) refl (omega arith)
    ]

pub home_branches : (d : NetworkData) (n w k : ℕ) → IsGrid n w → IsAlong d (roads n w n) → 0 < k → k < n → AreBranches d k (home_first w k) (home_second w k)
home_branches d n w k g h pos l = home_with d n w k g h pos l (nat_lt 0 (k % w)) (nat_le w k) refl refl

away_below : (d : NetworkData) (n w k : ℕ) → IsGrid n w → IsAlong d (roads n w n) → w ≤ k → k < n → (right : Bool) → has_right n w k ≡ right →
    AreBranches d k (nearer (k - w)) (cond right (Some (record { to = k + 1; least = 0; choices = 3 })) None)
away_below d n w k g h below l true e =
    two_branches d (roads n w n) k (nearer (k - w)) (record { to = k + 1; least = 0; choices = 3 }) h (up_road n w k (omega (arith, some_width n w g)) below l) refl (omega arith)
    (right_road n w k (first_below (k % w + 1) w (first_of (nat_lt (k % w + 1) w) (nat_lt (k + 1) n) e)) (first_below (k + 1) n (second_of (nat_lt (k % w + 1) w) (nat_lt (k + 1) n) e))) (omega arith) (omega arith)
away_below d n w k g h below l false e =
    one_branch d (roads n w n) k (nearer (k - w)) h (up_road n w k (omega (arith, some_width n w g)) below l) refl (omega arith)

away_with : (d : NetworkData) (n w k : ℕ) → IsGrid n w → IsAlong d (roads n w n) → k + 1 ≢ w → k < n → (top down : Bool) → nat_lt k w ≡ top → nat_le w k ≡ down →
    AreBranches d k (cond top (record { to = k + 1; least = 1; choices = 0 }) (nearer (k - w))) (cond (down && has_right n w k) (Some (record { to = k + 1; least = 0; choices = 3 })) None)
away_with d n w k g h other l true true e f = absurd (let x : k < w = first_below k w e in let y : w ≤ k = grind (arith, nat_tests) in omega arith)
away_with d n w k g h other l true false e f =
    let x : k < w = first_below k w e in
    let none : k % w ≡ k = column_first w k x in
    one_branch d (roads n w n) k (record { to = k + 1; least = 1; choices = 0 }) h (right_road n w k (omega arith) (omega (arith, few_width n w g))) refl (omega arith)
away_with d n w k g h other l false true e f =
    away_below d n w k g h (let y : w ≤ k = grind (arith, nat_tests) in y) l (has_right n w k) refl
away_with d n w k g h other l false false e f = absurd (let x : w ≤ k = grind (arith, nat_tests) in let y : nat_le w k ≡ true = true_le w k x in cc)

pub away_branches : (d : NetworkData) (n w k : ℕ) → IsGrid n w → IsAlong d (roads n w n) → k + 1 ≢ w → k < n → AreBranches d k (away_first w k) (away_second n w k)
away_branches d n w k g h other l = away_with d n w k g h other l (nat_lt k w) (nat_le w k) refl refl

-- a row of a node that is not the destination finds room
pub home_room : (s : ScenarioData) (n w k : ℕ) → IsLaid n w s → 0 < k → k < n → length s.splits < default_split_rows → HasRoom s k 0
home_room s n w k h pos l few = record {
  setup = h.setup;
  few = few;
  there = omega (arith, ap length h.ends);
  apart = ap (λ (list : List ℕ). number s.network k == slice_index list 0) h.ends
      ∙ numbers_apart s.network k 0 (node_found s.network n w k h.grid h.along l) (node_found s.network n w 0 h.grid h.along (omega arith)) (omega (arith, h.grid.few)) (omega arith) (omega arith);
}

pub away_room : (s : ScenarioData) (n w k : ℕ) → IsLaid n w s → k + 1 ≢ w → k < n → length s.splits < default_split_rows → HasRoom s k 1
away_room s n w k h other l few = record {
  setup = h.setup;
  few = few;
  there = omega (arith, ap length h.ends);
  apart = ap (λ (list : List ℕ). number s.network k == slice_index list 1) h.ends
      ∙ numbers_apart s.network k (w - 1) (node_found s.network n w k h.grid h.along l) (node_found s.network n w (w - 1) h.grid h.along (omega (arith, some_width n w h.grid, few_width n w h.grid)))
      (omega (arith, h.grid.few)) (omega (arith, h.grid.few, few_width n w h.grid)) (omega (arith, some_width n w h.grid));
}

-- the end of the first row is another node than the first
pub ends_apart : (d : NetworkData) (n w : ℕ) → IsGrid n w → IsAlong d (roads n w n) → destination_of (number d 0 ∷ []) (number d (w - 1)) ≡ None
ends_apart d n w g h =
    ap (λ (b : Bool). cond {A = Option ℕ} b (Some 0) None)
    (numbers_apart d 0 (w - 1) (node_found d n w 0 g h (omega (arith, g.some))) (node_found d n w (w - 1) g h (omega (arith, some_width n w g, few_width n w g)))
    (omega arith) (omega (arith, g.few, few_width n w g)) (omega (arith, some_width n w g)))
