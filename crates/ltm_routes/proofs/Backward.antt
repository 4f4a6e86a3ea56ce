-- Earliest arrivals over roads that are gone against their direction are least times.
use Rattle.std.proofs.Common.{◌≡◌, ℕ, ◌+◌, ◌≤◌, List, [], ◌∷◌, ◌++◌, true, All, Option, Some, None, slice_index_or, refl, ap, sym, subst, arith, ◌∙◌}
use Rattle.std.proofs.lemmas.Bool.Decides.{nat_tests}
use Rattle.std.proofs.lemmas.List.{get_or_default}
use Rattle.std.proofs.lemmas.List.Sums.{sum_by-cons}
use Rattle.ltm_units.specs.declared.quantities.Millis.{Millis}
use Rattle.ltm_search.specs.Ways as ways
use Rattle.ltm_search.specs.Ways.{arrival, IsEarliest}
use Rattle.ltm_search.specs.Arrivals.{millis_of, AreEarliest, AreBy}
use Rattle.ltm_search.specs.Search as search
use Rattle.ltm_search.specs.Search.{is_by}
use Rattle.ltm_search.proofs.Certified.{certified}
use Rattle.ltm_search.proofs.Passed.{and_link, and_arrival}
use Rattle.ltm_routes.specs.Roads.{Roads, AreRoads}
use Rattle.ltm_routes.specs.Routes.{IsRoute, time_of, IsLeastTime}
use Rattle.ltm_routes.specs.Potentials.{potential_at, AreLeastTimes, AreTaken, AllFit, is_zero, fits, IsSmall}
use Rattle.ltm_routes.specs.Backward.{backward, longest_by}

told : {x y : ℕ} → Some x ≡ Some y → x ≡ y
told e = cc

pub are_ways : (r : Roads) → AreRoads r → ways.AreWays (backward r) longest_by
are_ways r roads = record {
  tails = roads.heads;
  heads = roads.tails;
  later = λ link x y low is. let some = roads.some_time link low in let sum : x + r.free_time link ≡ y = told is in omega arith;
  rises = λ link x y exit low le is. let sum : y + r.free_time link ≡ exit = told is in (x + r.free_time link, refl, omega arith);
  within = λ link n x y low by is. let most = roads.most_time link low in let sum : x + r.free_time link ≡ y = told is in omega arith;
  grows = λ n. omega arith;
}

-- a route to the destination, gone back
pub gone_back : (r : Roads) (to : ℕ) (links : List ℕ) (node : ℕ) → IsRoute r node to links → (back : List ℕ) × ways.IsRoute (backward r) to node back × (arrival (backward r) back 0 ≡ Some (time_of r links))
gone_back r to [] node route = ([], sym route, refl)
gone_back r to (link ∷ links) node route =
    let rest = gone_back r to links (r.head link) route.2 in (
      rest.0 ++ link ∷ [],
      subst (λ n. ways.IsRoute (backward r) to n (rest.0 ++ link ∷ [])) route.1 (and_link (backward r) rest.0 to (r.head link) link rest.1 route.0 refl),
      and_arrival (backward r) rest.0 link 0 (time_of r links) (time_of r links + r.free_time link) rest.2 refl ∙ ap Some (let sum : time_of r (link ∷ links) ≡ r.free_time link + time_of r links = sum_by-cons r.free_time link links in omega arith),
    )

-- what was gone back, as a route with what comes behind it
pub gone_forth : (r : Roads) (to : ℕ) (back : List ℕ) (from node x time : ℕ) (behind : List ℕ) → ways.IsRoute (backward r) from node back → arrival (backward r) back x ≡ Some time
    → IsRoute r from to behind → time_of r behind ≡ x → (links : List ℕ) × IsRoute r node to links × (time_of r links ≡ time)
gone_forth r to [] from node x time behind route is rest sum = (behind, subst (λ n. IsRoute r n to behind) route rest, sum ∙ told is)
gone_forth r to (link ∷ back) from node x time behind route is rest sum =
    gone_forth r to back (r.tail link) node (x + r.free_time link) time (link ∷ behind) route.2 is (route.0, refl, subst (λ n. IsRoute r n to behind) (sym route.1) rest)
    (let more : time_of r (link ∷ behind) ≡ r.free_time link + time_of r behind = sum_by-cons r.free_time link behind in omega arith)

least_at : (r : Roads) (to node : ℕ) (o : Option Millis) → IsEarliest (backward r) to 0 node (millis_of o) → IsLeastTime r node to o
least_at r to node None none = λ links route. let back = gone_back r to links node route in never (sym (none back.0 back.1) ∙ back.2)
  where
    never : {y : ℕ} → None ≡ Some y → ⊥
    never e = cc
least_at r to node (Some time) is = record {
  taken = let back = is.taken in gone_forth r to back.0 to node 0 time.0 [] back.1 back.2 refl refl;
  least = λ links route. let back = gone_back r to links node route in is.first back.0 (time_of r links) back.1 back.2;
}

pub least_times : (r : Roads) (to : ℕ) (p : List (Option Millis)) → AreEarliest (backward r) to 0 p → AreLeastTimes r to p
least_times r to p are = λ node low. least_at r to node (potential_at p node) (are node low)

-- potentials that fit over each link, and are those of routes, are least times too
zero_by : (o : Option Millis) → is_zero o ≡ true → is_by o 0 ≡ true
zero_by None is = cc
zero_by (Some t) is = grind (arith, nat_tests)

fits_back : (tail : Option Millis) (time : ℕ) (head : Option Millis) → fits tail time head ≡ true → search.fits head (λ moment. Some (moment + time)) tail ≡ true
fits_back tail time None fit = refl
fits_back None time (Some h) fit = cc
fits_back (Some t) time (Some h) fit = grind (arith, nat_tests)

pub fit_least : (r : Roads) (p : List (Option Millis)) (to : ℕ) → AreRoads r → is_zero (potential_at p to) ≡ true → AllFit r p → AreTaken r to p → AreLeastTimes r to p
fit_least r p to roads start fit taken =
    least_times r to p (certified (backward r) longest_by to 0 p (are_ways r roads) (zero_by (potential_at p to) start)
    (λ link low. fits_back (potential_at p (r.tail link)) (r.free_time link) (potential_at p (r.head link)) (fit link low))
    (λ node time there is. let links = taken node time there is in let back = gone_back r to links.0 node links.1 in (back.0, back.1, back.2 ∙ ap Some links.2)))

small_at : (o : Option Millis) → ((t : Millis) → o ≡ Some t → t.0 ≤ 562949953421312) → IsSmall o
small_at None most = tt
small_at (Some t) most = most t refl

pub all_small : (r : Roads) (p : List (Option Millis)) → AreRoads r → AreBy (longest_by r.nodes) p → All IsSmall p
all_small r p roads by = λ k d low. small_at (slice_index_or p k d) (λ t is. let here = by k t (get_or_default p k None d low ∙ is) in let few = roads.few_nodes in omega arith)
