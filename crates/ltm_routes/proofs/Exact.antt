-- Tight links make routes, and least times are tight.
use Rattle.std.proofs.Common.{◌≡◌, ◌≢◌, ℕ, zero, suc, ◌+◌, ◌<◌, ◌≤◌, ◌==◌, true, false, List, [], ◌∷◌, Option, Some, None, IsSome, refl, ap, sym, subst, arith, ◌∙◌}
use Rattle.std.proofs.lemmas.Bool.Decides.{nat_tests}
use Rattle.std.proofs.lemmas.List.Sums.{sum_by-cons}
use Rattle.ltm_units.specs.declared.quantities.Millis.{Millis}
use Rattle.ltm_routes.specs.Roads.{Roads, AreRoads}
use Rattle.ltm_routes.specs.Routes.{IsRoute, time_of, IsLeastTime}
use Rattle.ltm_routes.specs.Potentials.{potential_at, AreLeastTimes, AllFit, AllLeadOn, LeadsOn, is_zero, fits, is_tight}
use Rattle.ltm_routes.proofs.Backward.{fit_least}

zero_is : (o : Option Millis) (t : Millis) → is_zero o ≡ true → o ≡ Some t → 0 ≡ t.0
zero_is o t z is = go t (subst (λ x. is_zero x ≡ true) is z)
  where
    go : (t : Millis) → (t.0 == 0) ≡ true → 0 ≡ t.0
    go t e = grind (arith, nat_tests)

pub some_is : (o : Option Millis) (t : Millis) → o ≡ Some t → IsSome o
some_is None t is = cc
some_is (Some x) t is = refl

-- the potential at the head of a tight link
pub head_of_tight : (tail : Option Millis) (time : ℕ) (head : Option Millis) (t : Millis) → is_tight tail time head ≡ true → tail ≡ Some t
    → (h : Millis) × (head ≡ Some h) × (t.0 ≡ time + h.0)
head_of_tight None time head t tight is = cc
head_of_tight (Some x) time None t tight is = cc
head_of_tight (Some x) time (Some h) t tight is =
    let same : x ≡ t = cc in
    let sum : x.0 ≡ time + h.0 = grind (arith, nat_tests) in
    (h, refl, ap (λ z. z.0) (sym same) ∙ sum)

-- from a node with a potential tight links make a route of just that time
walk : (r : Roads) (p : List (Option Millis)) (to : ℕ) → AreRoads r → is_zero (potential_at p to) ≡ true → AllLeadOn r to p
    → (bound from : ℕ) (time : Millis) → time.0 < bound → from < r.nodes → potential_at p from ≡ Some time
    → (links : List ℕ) × IsRoute r from to links × (time_of r links ≡ time.0)
walk r p to roads start leads zero from time low there is = absurd (omega arith)
walk r p to roads start leads (suc bound) from time low there is =
    (elim (from == to) as (λ b. (from == to) ≡ b → (links : List ℕ) × IsRoute r from to links × (time_of r links ≡ time.0)) [
      | true ↦ λ e. let here : from ≡ to = grind (arith, nat_tests) in ([], here, zero_is (potential_at p to) time start (subst (λ n. potential_at p n ≡ Some time) here is))
      | false ↦ λ e.
          let other : from ≢ to = grind (arith, nat_tests) in
          let on = leads from there other (some_is (potential_at p from) time is) in
          let link : ℕ = on.0 in
          let head = head_of_tight (potential_at p (r.tail link)) (r.free_time link) (potential_at p (r.head link)) time on.3 (subst (λ n. potential_at p n ≡ Some time) (sym on.2) is) in
          let some : 1 ≤ r.free_time link = roads.some_time link on.1 in
          let sum : time.0 ≡ r.free_time link + (head.0).0 = head.2 in
          let less : (head.0).0 < bound = omega arith in
          let rest = walk r p to roads start leads bound (r.head link) head.0 less (roads.heads link on.1) head.1 in
          (link ∷ rest.0, (on.1, on.2, rest.1), sum_by-cons r.free_time link rest.0 ∙ ap (λ t. r.free_time link + t) rest.2 ∙ sym sum)
    ]) refl

pub tight_least : (r : Roads) (p : List (Option Millis)) (to : ℕ) → AreRoads r → is_zero (potential_at p to) ≡ true → AllFit r p → AllLeadOn r to p → AreLeastTimes r to p
tight_least r p to roads start fit leads =
    fit_least r p to roads start fit (λ node time there is. walk r p to roads start leads (suc time.0) node time (omega arith) there is)

-- ---- and least times fit and are tight
least_start : (r : Roads) (to : ℕ) (o : Option Millis) → IsLeastTime r to to o → is_zero o ≡ true
least_start r to None least = absurd (least [] refl)
least_start r to (Some t) least = let low : t.0 ≤ 0 = least.least [] refl in grind (arith, nat_tests)

least_fits : (r : Roads) (to link : ℕ) (tail head : Option Millis) → link < r.links → IsLeastTime r (r.tail link) to tail → IsLeastTime r (r.head link) to head → fits tail (r.free_time link) head ≡ true
least_fits r to link tail None low from_tail from_head = refl
least_fits r to link None (Some h) low from_tail from_head =
    let rest = from_head.taken in absurd (from_tail (link ∷ rest.0) (low, refl, rest.1))
least_fits r to link (Some t) (Some h) low from_tail from_head =
    let rest = from_head.taken in
    let le : t.0 ≤ time_of r (link ∷ rest.0) = from_tail.least (link ∷ rest.0) (low, refl, rest.1) in
    let sum : time_of r (link ∷ rest.0) ≡ r.free_time link + time_of r rest.0 = sum_by-cons r.free_time link rest.0 in
    let is : time_of r rest.0 ≡ h.0 = rest.2 in
    let fit : t.0 ≤ r.free_time link + h.0 = omega arith in
    grind (arith, nat_tests)

tight_here : (r : Roads) (to link time : ℕ) (head : Option Millis) (tail : Option Millis) (t : Millis) (links : List ℕ) → tail ≡ Some t → fits tail (r.free_time link) head ≡ true
    → IsLeastTime r (r.head link) to head → IsRoute r (r.head link) to links → r.free_time link + time_of r links ≡ t.0 → is_tight tail (r.free_time link) head ≡ true
tight_here r to link time None tail t links is fit least route sum = absurd (least links route)
tight_here r to link time (Some h) None t links is fit least route sum = cc
tight_here r to link time (Some h) (Some x) t links is fit least route sum =
    let same : x.0 ≡ t.0 = ap (λ (z : Millis). z.0) (cc) in
    let le : h.0 ≤ time_of r links = least.least links route in
    grind (arith, nat_tests)

leads_from : (r : Roads) (p : List (Option Millis)) (to node : ℕ) → AreRoads r → AreLeastTimes r to p → AllFit r p → node ≢ to → (t : Millis) → potential_at p node ≡ Some t
    → (links : List ℕ) → IsRoute r node to links → time_of r links ≡ t.0 → LeadsOn r p node
leads_from r p to node roads least fit other t is [] route sum = absurd (other route)
leads_from r p to node roads least fit other t is (link ∷ links) route sum = (
  link,
  route.0,
  route.1,
  tight_here r to link 0 (potential_at p (r.head link)) (potential_at p (r.tail link)) t links (subst (λ n. potential_at p n ≡ Some t) (sym route.1) is) (fit link route.0)
      (least (r.head link) (roads.heads link route.0)) route.2 (sym (sum_by-cons r.free_time link links) ∙ sum),
)

leads_at : (r : Roads) (p : List (Option Millis)) (to node : ℕ) (o : Option Millis) → AreRoads r → AreLeastTimes r to p → AllFit r p → node ≢ to → potential_at p node ≡ o → IsLeastTime r node to o → IsSome o → LeadsOn r p node
leads_at r p to node None roads least fit other is here some = cc
leads_at r p to node (Some t) roads least fit other is here some =
    let taken = here.taken in leads_from r p to node roads least fit other t is taken.0 taken.1 taken.2

pub least_fit : (r : Roads) (p : List (Option Millis)) (to : ℕ) → AreRoads r → AreLeastTimes r to p → AllFit r p
least_fit r p to roads least = λ link low.
    least_fits r to link (potential_at p (r.tail link)) (potential_at p (r.head link)) low (least (r.tail link) (roads.tails link low)) (least (r.head link) (roads.heads link low))

pub least_lead : (r : Roads) (p : List (Option Millis)) (to : ℕ) → AreRoads r → AreLeastTimes r to p → AllLeadOn r to p
least_lead r p to roads least = λ node there other some.
    leads_at r p to node (potential_at p node) roads least (least_fit r p to roads least) other refl (least node there) some

pub least_zero : (r : Roads) (p : List (Option Millis)) (to : ℕ) → to < r.nodes → AreLeastTimes r to p → is_zero (potential_at p to) ≡ true
least_zero r p to there least = least_start r to (potential_at p to) (least to there)
