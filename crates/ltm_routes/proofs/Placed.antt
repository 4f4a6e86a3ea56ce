-- Setting the rows that nodes lack, destination by destination.
use Rattle.std.proofs.Common.{◌≡◌, ◌≢◌, ℕ, zero, suc, ◌+◌, ◌<◌, ◌≤◌, ◌==◌, ◌&&◌, ◌||◌, not, Bool, true, false, List, [], ◌∷◌, map, length, sum, Option, is_some, Result, Ok, Err, slice_index_or, refl, ap, sym, subst, arith, ◌∙◌}
use Rattle.std.specs.List.{list_any}
use Rattle.std.specs.Bool.{if◌then◌else◌}
use Rattle.std.proofs.lemmas.Bool.Decides.{nat_tests}
use Rattle.std.proofs.lemmas.List.Sums.{sum_by-cons}
use Rattle.std.proofs.lemmas.List.{get_or_default}
use Rattle.ltm_network.specs.Network.{out_links, out_place}
use Rattle.ltm_network.specs.Places.{LinksAtTheirPlaces}
use Rattle.ltm_splits.specs.declared.keys.SplitFault.{SplitFault}
use Rattle.ltm_splits.specs.Rows.{SplitRow, key_of, is_of}
use Rattle.ltm_scenario.specs.Data.{ScenarioData}
use Rattle.ltm_scenario.specs.Reads.{destination_node, has_split}
use Rattle.ltm_scenario.specs.Build.{with_split, ◌>>=◌}
use Rattle.ltm_routes.specs.Roads.{Roads, AreRoads, roads_of}
use Rattle.ltm_routes.specs.Potentials.{potential_at}
use Rattle.ltm_routes.specs.Split.{RoutesData, AreRoutes, begins_at, weight_of, route_split, is_routed, rows_from, rows_to, lists_below, routes_to, no_routes, route_splits, with_splits}
use Rattle.ltm_routes.specs.Least.{routes_over, routes_of}
use Rattle.ltm_routes.specs.Missing.{is_missing, missing_from, missing_to}
use Rattle.ltm_routes.specs.Setting.{HasSet, AreTooMany}
use Rattle.ltm_routes.proofs.Exact.{least_lead}
use Rattle.ltm_routes.proofs.Flags.{tight_begins}
use Rattle.ltm_routes.proofs.Rows.{split_refused, one_set, none_set, set_then, too_many_then, splits_stay, lists_more, lists_behind, lists_same, lists_none}

-- ---- the rows of a node
there : (s : ScenarioData) (d n : ℕ) (routes : RoutesData) → is_missing s d routes n ≡ false → missing_from s d routes n ≡ []
there s d n routes is = ap (λ b. if b then (key_of n d 0, route_split s routes n) ∷ [] else []) is

missing : (s : ScenarioData) (d n : ℕ) (routes : RoutesData) → is_missing s d routes n ≡ true → missing_from s d routes n ≡ (key_of n d 0, route_split s routes n) ∷ []
missing s d n routes is = ap (λ b. if b then (key_of n d 0, route_split s routes n) ∷ [] else []) is

pub there_set : (s : ScenarioData) (d n : ℕ) (routes : RoutesData) → is_missing s d routes n ≡ false → HasSet s (missing_from s d routes n) s
there_set s d n routes is = subst (λ rows. HasSet s rows s) (sym (there s d n routes is)) (none_set s)

both : (a b : Bool) → (a && b) ≡ true → (a ≡ true) × (b ≡ true)
both true b is = (refl, is)
both false b is = cc

not_true : (b : Bool) → not b ≡ true → b ≡ false
not_true true is = cc
not_true false is = refl

pub missing_set : (s next : ScenarioData) (d n : ℕ) (routes : RoutesData) (w : List ℕ) → is_missing s d routes n ≡ true → w ≡ route_split s routes n
    → with_split s (key_of n d 0) w ≡ Ok next → HasSet s (missing_from s d routes n) next
missing_set s next d n routes w is weights set =
    let h = both (not (has_split s.splits n d)) (is_routed s d routes n) is in
    subst (λ rows. HasSet s rows next) (sym (missing s d n routes is ∙ ap (λ v. (key_of n d 0, v) ∷ []) (sym weights))) (one_set s next d n w (not_true (has_split s.splits n d) h.0) set)

sum_at : (f : ℕ → ℕ) (xs : List ℕ) (i : ℕ) → i < length xs → f (slice_index_or xs i 0) ≤ sum (map f xs)
sum_at f [] i low = absurd (omega arith)
sum_at f (x ∷ xs) zero low = let e = sum_by-cons (λ (n : ℕ). n) (f x) (map f xs) in omega arith
sum_at f (x ∷ xs) (suc i) low = let e = sum_by-cons (λ (n : ℕ). n) (f x) (map f xs) in let rest = sum_at f xs i (omega arith) in omega arith

differs : (a b : ℕ) → not (a == b) ≡ true → a ≢ b
differs a b is same = grind (arith, nat_tests)

one_is : (b : Bool) → b ≡ true → 1 ≤ (if b then 1 else 0)
one_is true is = omega arith
one_is false is = cc

-- a node that has a route has a link with which a least one begins
pub split_sum : (s : ScenarioData) (d n : ℕ) (routes : RoutesData) → LinksAtTheirPlaces → AreRoads (roads_of s) → AreRoutes (roads_of s) (destination_node s d) routes → n < length s.network.nodes
    → is_routed s d routes n ≡ true → 1 ≤ sum (route_split s routes n)
split_sum s d n routes places roads are low is =
    let r : Roads = roads_of s in
    let to : ℕ = destination_node s d in
    let p : List (Option _) = routes.potentials in
    let h = both (not (n == to)) (is_some (potential_at p n)) is in
    let on = least_lead r p to roads are.least n low (differs n to h.0) h.1 in
    let link : ℕ = on.0 in
    let begins = (are.begin link on.1).1 (tight_begins r to link (potential_at p (r.tail link)) (potential_at p (r.head link)) (are.least (r.tail link) (roads.tails link on.1)) (are.least (r.head link) (roads.heads link on.1)) on.3) in
    let place : ℕ = out_place s.network link in
    let below : place < length (out_links s.network n) = subst (λ u. place < length (out_links s.network u)) on.2 ((places s.network).out_place_below link on.1) in
    let at : slice_index_or (out_links s.network n) place 0 ≡ link = subst (λ u. slice_index_or (out_links s.network u) place 0 ≡ link) on.2 ((places s.network).out_link_at link on.1) in
    let one : 1 ≤ weight_of routes (slice_index_or (out_links s.network n) place 0) = subst (λ l. 1 ≤ weight_of routes l) (sym at) (one_is (begins_at routes link) begins) in
    let sum_is = sum_at (weight_of routes) (out_links s.network n) place below in
    omega arith

pub missing_refused : (s : ScenarioData) (d n : ℕ) (routes : RoutesData) (w : List ℕ) (fault : SplitFault) → LinksAtTheirPlaces → AreRoads (roads_of s) → AreRoutes (roads_of s) (destination_node s d) routes → n < length s.network.nodes
    → is_missing s d routes n ≡ true → w ≡ route_split s routes n → 1 ≤ s.setup.slots → with_split s (key_of n d 0) w ≡ Err fault → AreTooMany s (missing_from s d routes n)
missing_refused s d n routes w fault places roads are low is weights slots refused =
    let h = both (not (has_split s.splits n d)) (is_routed s d routes n) is in
    let full = split_refused s (key_of n d 0) w fault refused slots (subst (λ v. 1 ≤ sum v) (sym weights) (split_sum s d n routes places roads are low h.1)) in
    let row : missing_from s d routes n ≡ (key_of n d 0, w) ∷ [] = missing s d n routes is ∙ ap (λ v. (key_of n d 0, v) ∷ []) (sym weights) in
    let one : length (missing_from s d routes n) ≡ 1 = ap length row in
    let most = full.0 in
    record {
      refused =
          ap (with_splits s) row
          ∙ ap (λ (r : Result ScenarioData SplitFault). r >>= λ (z : ScenarioData). Ok z) (refused ∙ ap Err full.1);
      over = omega arith;
    }

-- ---- the rows of a destination
pub routes_still : (s m : ScenarioData) (d : ℕ) (routes : RoutesData) → m ≡ record s { splits = m.splits } → AreRoutes (roads_of s) (destination_node s d) routes → AreRoutes (roads_of m) (destination_node m d) routes
routes_still s m d routes rest are = subst (λ (z : ScenarioData). AreRoutes (roads_of z) (destination_node z d) routes) (sym rest) are

-- what a node lacks depends on the rows that it has for the destination alone
missing_still : (s m : ScenarioData) (d n : ℕ) (routes : RoutesData) → m ≡ record s { splits = m.splits } → has_split m.splits n d ≡ has_split s.splits n d → missing_from m d routes n ≡ missing_from s d routes n
missing_still s m d n routes rest same =
    ap (λ (z : ScenarioData). if not (has_split m.splits n d) && is_routed z d routes n then (key_of n d 0, route_split z routes n) ∷ [] else []) rest
    ∙ ap (λ b. if not b && is_routed s d routes n then (key_of n d 0, route_split s routes n) ∷ [] else []) same

-- the row of a node is none of another pair
pub other_row : (s : ScenarioData) (d k : ℕ) (routes : RoutesData) (n e : ℕ) → ((k == n) && (d == e)) ≡ false → list_any (is_of n e) (missing_from s d routes k) ≡ false
other_row s d k routes n e other =
    elim (is_missing s d routes k) as (λ b. list_any (is_of n e) (if b then (key_of k d 0, route_split s routes k) ∷ [] else []) ≡ false) [
      | true ↦ ap (λ b. b || false) other
      | false ↦ refl
    ]

other_node : (k n d : ℕ) → k < n → ((k == n) && (d == d)) ≡ false
other_node k n d low = grind (arith, nat_tests)

other_destination : (k n d e : ℕ) → d < e → ((k == n) && (d == e)) ≡ false
other_destination k n d e low = grind (arith, nat_tests)

node_still : (s m : ScenarioData) (d n : ℕ) (routes : RoutesData) → HasSet s (lists_below n (missing_from s d routes)) m → missing_from m d routes n ≡ missing_from s d routes n
node_still s m d n routes a =
    missing_still s m d n routes a.rest
    (splits_stay (lists_below n (missing_from s d routes)) s m n d a.set (lists_none (is_of n d) (missing_from s d routes) n (λ k low. other_row s d k routes n d (other_node k n d low))))

pub node_set : (s m k : ScenarioData) (d n : ℕ) (routes : RoutesData) → HasSet s (lists_below n (missing_from s d routes)) m → HasSet m (missing_from m d routes n) k
    → HasSet s (lists_below (n + 1) (missing_from s d routes)) k
node_set s m k d n routes a b =
    subst (λ rows. HasSet s rows k) (sym (lists_more (missing_from s d routes) n))
    (set_then s m k (lists_below n (missing_from s d routes)) (missing_from s d routes n) a (subst (λ rows. HasSet m rows k) (node_still s m d n routes a) b))

pub node_over : (s m : ScenarioData) (d n nodes : ℕ) (routes : RoutesData) → HasSet s (lists_below n (missing_from s d routes)) m → n < nodes → AreTooMany m (missing_from m d routes n)
    → AreTooMany s (lists_below nodes (missing_from s d routes))
node_over s m d n nodes routes a low over =
    let rest = lists_behind (missing_from s d routes) n nodes low in
    subst (AreTooMany s) (sym rest.1)
    (too_many_then s m (lists_below n (missing_from s d routes)) (missing_from s d routes n) rest.0 a (subst (AreTooMany m) (node_still s m d n routes a) over))

pub nodes_set : (s m : ScenarioData) (d n nodes : ℕ) (routes : RoutesData) → HasSet s (lists_below n (missing_from s d routes)) m → n ≤ nodes → nodes ≤ n → HasSet s (lists_below nodes (missing_from s d routes)) m
nodes_set s m d n nodes routes a low high = let same : n ≡ nodes = omega arith in subst (λ k. HasSet s (lists_below k (missing_from s d routes)) m) same a

-- ---- the rows of all destinations, given the routes to each
abbrev pub rows_of : ScenarioData → (ℕ → RoutesData) → ℕ → List SplitRow
rows_of s routes d = missing_to s d (routes d)

-- none of them is of another destination
none_to : (s : ScenarioData) (d : ℕ) (routes : RoutesData) (n e : ℕ) → d < e → list_any (is_of n e) (missing_to s d routes) ≡ false
none_to s d routes n e low = lists_none (is_of n e) (missing_from s d routes) (length s.network.nodes) (λ k below. other_row s d k routes n e (other_destination k n d e low))

to_still : (s m : ScenarioData) (routes : ℕ → RoutesData) (d : ℕ) (here : RoutesData) → routes d ≡ here → HasSet s (lists_below d (rows_of s routes)) m → missing_to m d here ≡ rows_of s routes d
to_still s m routes d here same a =
    ap (λ (z : ScenarioData). lists_below (length z.network.nodes) (missing_from m d here)) a.rest
    ∙ lists_same (missing_from m d here) (missing_from s d here) (length s.network.nodes)
    (λ n low. missing_still s m d n here a.rest (splits_stay (lists_below d (rows_of s routes)) s m n d a.set (lists_none (is_of n d) (rows_of s routes) d (λ e before. none_to s e (routes e) n d before))))
    ∙ ap (missing_to s d) (sym same)

pub destination_set : (s m k : ScenarioData) (routes : ℕ → RoutesData) (d : ℕ) (here : RoutesData) → routes d ≡ here → HasSet s (lists_below d (rows_of s routes)) m → HasSet m (missing_to m d here) k
    → HasSet s (lists_below (d + 1) (rows_of s routes)) k
destination_set s m k routes d here same a b =
    subst (λ rows. HasSet s rows k) (sym (lists_more (rows_of s routes) d))
    (set_then s m k (lists_below d (rows_of s routes)) (rows_of s routes d) a (subst (λ rows. HasSet m rows k) (to_still s m routes d here same a) b))

pub destination_over : (s m : ScenarioData) (routes : ℕ → RoutesData) (d count : ℕ) (here : RoutesData) → routes d ≡ here → HasSet s (lists_below d (rows_of s routes)) m → d < count
    → AreTooMany m (missing_to m d here) → AreTooMany s (lists_below count (rows_of s routes))
destination_over s m routes d count here same a low over =
    let rest = lists_behind (rows_of s routes) d count low in
    subst (AreTooMany s) (sym rest.1)
    (too_many_then s m (lists_below d (rows_of s routes)) (rows_of s routes d) rest.0 a (subst (AreTooMany m) (to_still s m routes d here same a) over))

pub destinations_set : (s m : ScenarioData) (routes : ℕ → RoutesData) (d count : ℕ) → HasSet s (lists_below d (rows_of s routes)) m → d ≤ count → count ≤ d → HasSet s (lists_below count (rows_of s routes)) m
destinations_set s m routes d count a low high = let same : d ≡ count = omega arith in subst (λ k. HasSet s (lists_below k (rows_of s routes)) m) same a

-- routes are read from the roads alone
pub routes_alike : (s m : ScenarioData) (d : ℕ) → m ≡ record s { splits = m.splits } → routes_of s d ≡ routes_of m d
unfolding routes_of
routes_alike s m d rest = sym (ap (λ (z : ScenarioData). routes_over (roads_of z) (destination_node z d)) rest)

pub routes_are : (all : List RoutesData) (d : ℕ) (routes : RoutesData) → d < length all → routes ≡ slice_index_or all d routes → routes_to all d ≡ routes
routes_are all d routes low is = get_or_default all d no_routes routes low ∙ sym is

-- where no row stands, all are missing
pub all_missing : (s : ScenarioData) (d : ℕ) (routes : RoutesData) (n : ℕ) → s.splits ≡ [] → missing_from s d routes n ≡ rows_from s d routes n
all_missing s d routes n none = ap (λ rows. if not (has_split rows n d) && is_routed s d routes n then (key_of n d 0, route_split s routes n) ∷ [] else []) none

pub all_missing_to : (s : ScenarioData) (routes : ℕ → RoutesData) (count : ℕ) → s.splits ≡ [] → lists_below count (rows_of s routes) ≡ lists_below count (λ d. rows_to s d (routes d))
all_missing_to s routes count none =
    lists_same (rows_of s routes) (λ d. rows_to s d (routes d)) count
    (λ d low. lists_same (missing_from s d (routes d)) (rows_from s d (routes d)) (length s.network.nodes) (λ n below. all_missing s d (routes d) n none))

-- ---- of a list of routes, where no row stands
pub all_set : (s m : ScenarioData) (all : List RoutesData) → s.splits ≡ [] → HasSet s (lists_below (length s.destinations) (rows_of s (routes_to all))) m
    → HasSet s (route_splits s all) m × (length (route_splits s all) ≤ s.setup.most_split_rows)
all_set s m all none a =
    let set : HasSet s (route_splits s all) m = subst (λ rows. HasSet s rows m) (all_missing_to s (routes_to all) (length s.destinations) none) a in
    let start : length s.splits ≡ 0 = ap length none in
    let count = set.count in
    let few = set.few (omega arith) in
    (set, omega arith)

pub all_over : (s : ScenarioData) (all : List RoutesData) → s.splits ≡ [] → AreTooMany s (lists_below (length s.destinations) (rows_of s (routes_to all))) → s.setup.most_split_rows < length (route_splits s all)
all_over s all none a =
    let start : length s.splits ≡ 0 = ap length none in
    let over = a.over in
    let same = ap length (all_missing_to s (routes_to all) (length s.destinations) none) in
    omega arith
