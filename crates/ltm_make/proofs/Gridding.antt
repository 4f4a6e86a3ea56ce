-- The roads of a grid, each after those before it.
use Rattle.std.proofs.Common.{◌≡◌, ◌≢◌, ℕ, zero, suc, ◌+◌, ◌-◌, ◌%◌, ◌^◌, ◌<◌, ◌≤◌, ◌==◌, ◌&&◌, Bool, true, false, cond, nat_lt, List, [], ◌++◌, length, take, drop, refl, sym, ap, subst, arith, length-append, inl, inr, count_by}
use Rattle.std.proofs.Math.ListN.{get_or-append}
use Rattle.std.proofs.Math.Seq.{get_or-append_right}
use Rattle.std.proofs.lemmas.Bool.{cases_lt}
use Rattle.std.proofs.lemmas.Bool.Decides.{nat_tests}
use Rattle.std.proofs.lemmas.List.{get_or-take, length-take, take-append-drop}
use Rattle.std.proofs.lemmas.List.Sums.{count_by_more_yes}
use Rattle.ltm_make.specs.declared.grid.Road.{Road}
use Rattle.ltm_make.specs.Grid.{has_right, has_below, both_ways, roads_at, roads}
use Rattle.ltm_make.specs.Roads.{no_road, road_at}
use Rattle.ltm_make.proofs.Counting.{count_by-append, is_same, few_from, few_to, few_roads}
use Rattle.ltm_make.proofs.Taken.{AreBelow, IsNext}

-- a road joins two nodes of the grid
pub record IsRoad (nodes : ℕ) (r : Road) : Type 0 where
  pub from : r.from < nodes
  pub to : r.to < nodes
  pub apart : r.from ≢ r.to

abbrev pub AreRoads : ℕ → List Road → Type 0
AreRoads nodes list = (i : ℕ) → i < length list → IsRoad nodes (road_at list i)

both_roads : (nodes a b : ℕ) → a < nodes → b < nodes → a ≢ b → AreRoads nodes (both_ways a b)
both_roads nodes a b x y apart zero l = record { from = x; to = y; apart = apart }
both_roads nodes a b x y apart (suc zero) l = record { from = y; to = x; apart = λ e. apart (sym e) }
both_roads nodes a b x y apart (suc (suc i)) l = absurd (omega arith)

roads_if : (nodes : ℕ) (b : Bool) (list : List Road) → (b ≡ true → AreRoads nodes list) → AreRoads nodes (cond b list [])
roads_if nodes true list h = h refl
roads_if nodes false list h = λ i l. absurd (omega arith)

roads_joined : (nodes : ℕ) (xs ys : List Road) → AreRoads nodes xs → AreRoads nodes ys → AreRoads nodes (xs ++ ys)
roads_joined nodes xs ys hx hy i l =
    elim (cases_lt i (length xs)) [
      | inl low ↦ subst (IsRoad nodes) (sym (get_or-append xs ys no_road i low)) (hx i low)
      | inr high ↦ subst (IsRoad nodes) (sym (get_or-append_right xs ys i no_road high)) (hy (i - length xs) (omega (arith, length-append xs ys)))
    ]

below_from : (a b : ℕ) → nat_lt a b ≡ true → a < b
below_from a b e = grind (arith, nat_tests)

second_of : (a b : Bool) → (a && b) ≡ true → b ≡ true
second_of true b e = e
second_of false b e = cc

pub are_roads : (nodes width m : ℕ) → 1 ≤ width → m ≤ nodes → AreRoads nodes (roads nodes width m)
are_roads nodes width zero some l = λ i x. absurd (omega arith)
are_roads nodes width (suc m) some l =
    roads_joined nodes (roads nodes width m) (roads_at nodes width m) (are_roads nodes width m some (omega arith))
    (roads_joined nodes (cond (has_right nodes width m) (both_ways m (m + 1)) []) (cond (has_below nodes width m) (both_ways m (m + width)) [])
    (roads_if nodes (has_right nodes width m) (both_ways m (m + 1))
    (λ h. both_roads nodes m (m + 1) (omega arith) (below_from (m + 1) nodes (second_of (nat_lt (m % width + 1) width) (nat_lt (m + 1) nodes) h)) (omega arith)))
    (roads_if nodes (has_below nodes width m) (both_ways m (m + width))
    (λ h. both_roads nodes m (m + width) (omega arith) (below_from (m + width) nodes h) (omega arith))))

-- the first elements hold one fewer than all, where the next one counts
one_more : (p : Road → Bool) (xs : List Road) (i : ℕ) → i < length xs → p (road_at xs i) ≡ true → count_by p (take i xs) + 1 ≤ count_by p xs
one_more p xs i l is =
    omega (
      arith,
      count_by_more_yes p xs i no_road l is,
      count_by-append p (take (i + 1) xs) (drop (i + 1) xs),
      ap (count_by p) (take-append-drop (i + 1) xs),
    )

-- the first roads join small numbers
pub roads_below : (nodes width i : ℕ) → nodes ≤ 400 → 1 ≤ width → AreBelow (2 ^ 64) (take i (roads nodes width nodes))
roads_below nodes width i few some =
    let at : (j : ℕ) → j < length (take i (roads nodes width nodes)) → IsRoad nodes (road_at (take i (roads nodes width nodes)) j) = λ j l.
    let short = length-take i (roads nodes width nodes) in
    subst (IsRoad nodes) (sym (get_or-take i (roads nodes width nodes) j no_road (omega arith))) (are_roads nodes width nodes some (omega arith) j (omega arith)) in
    record { from = λ j l. omega (arith, (at j l).from); to = λ j l. omega (arith, (at j l).to) }

-- each road after those before it is one that is taken
pub next_road : (nodes width i : ℕ) → nodes ≤ 400 → 1 ≤ width → i < length (roads nodes width nodes) → IsNext (take i (roads nodes width nodes)) (road_at (roads nodes width nodes) i)
next_road nodes width i few some l =
    let list : List Road = roads nodes width nodes in
    let r : Road = road_at (roads nodes width nodes) i in
    let h : IsRoad nodes (road_at (roads nodes width nodes) i) = are_roads nodes width nodes some (omega arith) i l in
    let long = few_roads nodes width nodes in
    let short = length-take i (roads nodes width nodes) in
    record {
      few = omega (arith, long, short);
      from_small = omega (arith, h.from);
      to_small = omega (arith, h.to);
      apart = h.apart;
      from_few = omega (arith, few_from nodes width r.from nodes, one_more (λ (x : Road). x.from == r.from) (roads nodes width nodes) i l (is_same r.from r.from refl));
      to_few = omega (arith, few_to nodes width r.to nodes, one_more (λ (x : Road). x.to == r.to) (roads nodes width nodes) i l (is_same r.to r.to refl));
    }
