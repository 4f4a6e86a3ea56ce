-- The least times of routes of at most as many links as there are nodes are the least times of all routes.
use Rattle.std.proofs.Common.{◌≡◌, ◌≢◌, ◌⊎◌, inl, inr, ℕ, zero, suc, ◌+◌, ◌<◌, ◌≤◌, ◌==◌, ◌&&◌, nat_lt, min, Bool, true, false, List, [], ◌∷◌, length, map, slice_index_or, Option, Some, None, refl, ap, sym, subst, arith, ◌∙◌}
use Rattle.std.specs.Option.{option_map}
use Rattle.std.specs.Bool.{if◌then◌else◌}
use Rattle.std.specs.List.{range_with_len}
use Rattle.std.proofs.lemmas.Bool.Decides.{nat_tests}
use Rattle.std.proofs.lemmas.List.{ext_get_or}
use Rattle.std.proofs.lemmas.List.Sums.{sum_by-cons}
use Rattle.std.proofs.lemmas.List.FromFn.{length-map-range_with_len, get_or-map-range_with_len}
use Rattle.ltm_units.specs.declared.quantities.Millis.{Millis}
use Rattle.ltm_routes.specs.Roads.{Roads, AreRoads}
use Rattle.ltm_routes.specs.Routes.{IsRoute, time_of, IsLeastTime}
use Rattle.ltm_routes.specs.Potentials.{potential_at, AreLeastTimes}
use Rattle.ltm_routes.specs.Least.{lesser, least_by, least_within, millis_of, least_times_of}
use Rattle.ltm_routes.proofs.Exact.{some_is, head_of_tight, least_lead}

-- ---- a least time within so many links is the time of a route
lesser_is : (a b : Option ℕ) (t : ℕ) → lesser a b ≡ Some t → (a ≡ Some t) ⊎ (b ≡ Some t)
lesser_is None b t is = inr is
lesser_is (Some a) None t is = inl is
lesser_is (Some a) (Some b) t is = elim (nat_lt b a) as (λ c. nat_lt b a ≡ c → (Some a ≡ Some t) ⊎ (Some b ≡ Some t)) [
  | true ↦ λ e. inr (let low : b < a = grind (arith, nat_tests) in ap Some (let m : min a b ≡ b = omega arith in sym m) ∙ is)
  | false ↦ λ e. inl (let low : a ≤ b = grind (arith, nat_tests) in ap Some (let m : min a b ≡ a = omega arith in sym m) ∙ is)
] refl

record By (r : Roads) (from : ℕ → Option ℕ) (node t : ℕ) : Type 0 where
  link : ℕ
  low : link < r.links
  tail : r.tail link ≡ node
  rest : ℕ
  head : from (r.head link) ≡ Some rest
  sum : r.free_time link + rest ≡ t

told : {x y : ℕ} → Some x ≡ Some y → x ≡ y
told e = cc

later_is : (time t : ℕ) (o : Option ℕ) → option_map (λ x. time + x) o ≡ Some t → (x : ℕ) × (o ≡ Some x) × (time + x ≡ t)
later_is time t None is = cc
later_is time t (Some x) is = (x, refl, told is)

by_one : (r : Roads) (from : ℕ → Option ℕ) (node link t : ℕ) → link < r.links
    → (if r.tail link == node then option_map (λ x. r.free_time link + x) (from (r.head link)) else None) ≡ Some t → By r from node t
by_one r from node link t low is = (elim (r.tail link == node) as (λ b. (r.tail link == node) ≡ b → (if b then option_map (λ x. r.free_time link + x) (from (r.head link)) else None) ≡ Some t → By r from node t) [
  | true ↦ λ e there. let x = later_is (r.free_time link) t (from (r.head link)) there in
      record { link = link; low = low; tail = grind (arith, nat_tests); rest = x.0; head = x.1; sum = x.2 }
  | false ↦ λ e there. cc
]) refl is

by_is : (r : Roads) (from : ℕ → Option ℕ) (node n t : ℕ) → n ≤ r.links → least_by r from node n ≡ Some t → By r from node t
by_is r from node zero t low is = cc
by_is r from node (suc n) t low is = elim (lesser_is (least_by r from node n) _ t is) [
  | inl before ↦ by_is r from node n t (omega arith) before
  | inr here ↦ by_one r from node n t (omega arith) here
]

taken : (r : Roads) (to n node t : ℕ) → least_within r to n node ≡ Some t → (links : List ℕ) × IsRoute r node to links × (time_of r links ≡ t)
taken r to zero node t is = (elim (node == to) as (λ b. (node == to) ≡ b → (if b then Some 0 else None) ≡ Some t → (links : List ℕ) × IsRoute r node to links × (time_of r links ≡ t)) [
  | true ↦ λ e there. ([], (let same : node ≡ to = grind (arith, nat_tests) in same), told there)
  | false ↦ λ e there. cc
]) refl is
taken r to (suc n) node t is = elim (lesser_is (least_within r to n node) _ t is) [
  | inl before ↦ taken r to n node t before
  | inr by ↦
      let one = by_is r (least_within r to n) node r.links t (omega arith) by in
      let rest = taken r to n (r.head one.link) one.rest one.head in
      (one.link ∷ rest.0, (one.low, one.tail, rest.1), sum_by-cons r.free_time one.link rest.0 ∙ ap (λ x. r.free_time one.link + x) rest.2 ∙ one.sum)
]

-- ---- and no route of so many links is shorter
abbrev IsBy : Option ℕ → ℕ → Type 0
IsBy None last = ⊥
IsBy (Some t) last = t ≤ last

lesser_left : (a b : Option ℕ) (last : ℕ) → IsBy a last → IsBy (lesser a b) last
lesser_left None b last by = absurd by
lesser_left (Some a) None last by = by
lesser_left (Some a) (Some b) last by = omega arith

lesser_right : (a b : Option ℕ) (last : ℕ) → IsBy b last → IsBy (lesser a b) last
lesser_right None b last by = by
lesser_right (Some a) None last by = absurd by
lesser_right (Some a) (Some b) last by = omega arith

later_by : (time last : ℕ) (o : Option ℕ) → IsBy o last → IsBy (option_map (λ x. time + x) o) (time + last)
later_by time last None by = absurd by
later_by time last (Some x) by = omega arith

same_test : (a b : ℕ) → a ≡ b → (a == b) ≡ true
same_test a b same = grind (arith, nat_tests)

by_link : (r : Roads) (from : ℕ → Option ℕ) (node link n last : ℕ) → link < n → r.tail link ≡ node → IsBy (from (r.head link)) last → IsBy (least_by r from node n) (r.free_time link + last)
by_link r from node link zero last low tail by = absurd (omega arith)
by_link r from node link (suc n) last low tail by = elim (nat_lt link n) as (λ c. nat_lt link n ≡ c → IsBy (least_by r from node (suc n)) (r.free_time link + last)) [
  | true ↦ λ e. lesser_left (least_by r from node n) _ (r.free_time link + last) (by_link r from node link n last (grind (arith, nat_tests)) tail by)
  | false ↦ λ e.
      let here : link ≡ n = grind (arith, nat_tests) in
      lesser_right (least_by r from node n) _ (r.free_time link + last)
      (subst (λ l. IsBy (if r.tail l == node then option_map (λ x. r.free_time l + x) (from (r.head l)) else None) (r.free_time link + last)) here
      (subst (λ b. IsBy (if b then option_map (λ x. r.free_time link + x) (from (r.head link)) else None) (r.free_time link + last)) (sym (same_test (r.tail link) node tail)) (later_by (r.free_time link) last (from (r.head link)) by)))
] refl

within : (r : Roads) (to n node : ℕ) (links : List ℕ) → IsRoute r node to links → length links ≤ n → IsBy (least_within r to n node) (time_of r links)
within r to zero node [] route few = subst (λ b. IsBy (if b then Some 0 else None) 0) (sym (same_test node to route)) (omega arith)
within r to zero node (link ∷ links) route few = absurd (omega arith)
within r to (suc n) node [] route few = lesser_left (least_within r to n node) _ 0 (within r to n node [] route (omega arith))
within r to (suc n) node (link ∷ links) route few =
    lesser_right (least_within r to n node) _ (time_of r (link ∷ links))
    (subst (IsBy (least_by r (least_within r to n) node r.links)) (sym (sum_by-cons r.free_time link links))
    (by_link r (least_within r to n) node link r.links (time_of r links) route.0 route.1 (within r to n (r.head link) links route.2 (omega arith))))

-- ---- a least route has fewer links than there are nodes
abbrev count : (ℕ → Bool) → ℕ → ℕ
count test zero = 0
count test (suc n) = count test n + (if test n then 1 else 0)

one_at_most : (b : Bool) → (if b then 1 else 0) ≤ 1
one_at_most true = omega arith
one_at_most false = omega arith

count_most : (test : ℕ → Bool) (n : ℕ) → count test n ≤ n
count_most test zero = omega arith
count_most test (suc n) = let rest = count_most test n in let one = one_at_most (test n) in omega arith

no_less : (a b : Bool) → (a ≡ true → b ≡ true) → (if a then 1 else 0) ≤ (if b then 1 else 0)
no_less true b gives = subst (λ c. 1 ≤ (if c then 1 else 0)) (sym (gives refl)) (omega arith)
no_less false b gives = omega arith

count_grows : (f g : ℕ → Bool) (n : ℕ) → ((i : ℕ) → f i ≡ true → g i ≡ true) → count f n ≤ count g n
count_grows f g zero gives = omega arith
count_grows f g (suc n) gives = let rest = count_grows f g n gives in let here = no_less (f n) (g n) (gives n) in omega arith

is_one : (b : Bool) → b ≡ true → ◌≡◌ {A = ℕ} (if b then 1 else 0) 1
is_one b is = ap (λ c. if c then 1 else 0) is

is_none_of : (b : Bool) → b ≡ false → ◌≡◌ {A = ℕ} (if b then 1 else 0) 0
is_none_of b is = ap (λ c. if c then 1 else 0) is

count_more : (f g : ℕ → Bool) (n j : ℕ) → ((i : ℕ) → f i ≡ true → g i ≡ true) → j < n → f j ≡ false → g j ≡ true → count f n + 1 ≤ count g n
count_more f g zero j gives low out in_ = absurd (omega arith)
count_more f g (suc n) j gives low out in_ = elim (nat_lt j n) as (λ c. nat_lt j n ≡ c → count f (suc n) + 1 ≤ count g (suc n)) [
  | true ↦ λ e. let rest = count_more f g n j gives (grind (arith, nat_tests)) out in_ in let here = no_less (f n) (g n) (gives n) in omega arith
  | false ↦ λ e.
      let here : j ≡ n = grind (arith, nat_tests) in
      let rest = count_grows f g n gives in
      let zero = is_none_of (f n) (subst (λ k. f k ≡ false) here out) in
      let one = is_one (g n) (subst (λ k. g k ≡ true) here in_) in
      omega arith
] refl

-- the node's potential is below a time
abbrev is_below : ℕ → Option Millis → Bool
is_below t None = false
is_below t (Some x) = nat_lt x.0 t

still_below : (a b : ℕ) (o : Option Millis) → a ≤ b → is_below a o ≡ true → is_below b o ≡ true
still_below a b None low is = cc
still_below a b (Some x) low is = grind (arith, nat_tests)

below_it : (t : ℕ) (h : Millis) → h.0 < t → is_below t (Some h) ≡ true
below_it t h low = grind (arith, nat_tests)

not_below : (h : Millis) → is_below h.0 (Some h) ≡ false
not_below h = grind (arith, nat_tests)

abbrev below : List (Option Millis) → ℕ → ℕ → Bool
below p t node = is_below t (potential_at p node)

short : (r : Roads) (p : List (Option Millis)) (to : ℕ) → AreRoads r → AreLeastTimes r to p → (bound from : ℕ) (time : Millis) → time.0 < bound → from < r.nodes → potential_at p from ≡ Some time
    → (links : List ℕ) × IsRoute r from to links × (time_of r links ≡ time.0) × (length links ≤ count (below p time.0) r.nodes)
short r p to roads least zero from time low there is = absurd (omega arith)
short r p to roads least (suc bound) from time low there is =
    (elim (from == to) as (λ b. (from == to) ≡ b → (links : List ℕ) × IsRoute r from to links × (time_of r links ≡ time.0) × (length links ≤ count (below p time.0) r.nodes)) [
      | true ↦ λ e.
          let here : from ≡ to = grind (arith, nat_tests) in
          let zero_time : time.0 ≤ 0 = (subst (IsLeastTime r from to) is (least from there)).least [] here in
          ([], here, (let z : 0 ≡ time.0 = omega arith in z), omega arith)
      | false ↦ λ e.
          let other : from ≢ to = grind (arith, nat_tests) in
          let on = least_lead r p to roads least from there other (some_is (potential_at p from) time is) in
          let link : ℕ = on.0 in
          let head = head_of_tight (potential_at p (r.tail link)) (r.free_time link) (potential_at p (r.head link)) time on.3 (subst (λ n. potential_at p n ≡ Some time) (sym on.2) is) in
          let some : 1 ≤ r.free_time link = roads.some_time link on.1 in
          let sum : time.0 ≡ r.free_time link + (head.0).0 = head.2 in
          let less : (head.0).0 < bound = omega arith in
          let sooner : (head.0).0 < time.0 = omega arith in
          let rest = short r p to roads least bound (r.head link) head.0 less (roads.heads link on.1) head.1 in
          let more = count_more (below p (head.0).0) (below p time.0) r.nodes (r.head link) (λ i. still_below (head.0).0 time.0 (potential_at p i) (omega arith)) (roads.heads link on.1)
          (ap (is_below (head.0).0) head.1 ∙ not_below head.0) (ap (is_below time.0) head.1 ∙ below_it time.0 head.0 sooner) in
          let few = rest.3 in
          (link ∷ rest.0, (on.1, on.2, rest.1), sum_by-cons r.free_time link rest.0 ∙ ap (λ t. r.free_time link + t) rest.2 ∙ sym sum, omega arith)
    ]) refl

-- ---- so both are the same
by_some : (o : Option ℕ) (last : ℕ) → IsBy o last → (t : ℕ) × (o ≡ Some t) × (t ≤ last)
by_some None last by = absurd by
by_some (Some t) last by = (t, refl, by)

never : (r : Roads) (to n node : ℕ) (o : Option ℕ) → least_within r to n node ≡ o → IsLeastTime r node to None → o ≡ None
never r to n node None is none = refl
never r to n node (Some t) is none = let links = taken r to n node t is in absurd (none links.0 links.1)

pub least_is_within : (r : Roads) (p : List (Option Millis)) (to node : ℕ) (o : Option Millis) → AreRoads r → AreLeastTimes r to p → node < r.nodes → potential_at p node ≡ o
    → o ≡ option_map millis_of (least_within r to r.nodes node)
least_is_within r p to node None roads least there is =
    sym (ap (option_map millis_of) (never r to r.nodes node (least_within r to r.nodes node) refl (subst (IsLeastTime r node to) is (least node there))))
least_is_within r p to node (Some time) roads least there is =
    let links = short r p to roads least (suc time.0) node time (omega arith) there is in
    let most = count_most (below p time.0) r.nodes in
    let few = links.3 in
    let found = by_some (least_within r to r.nodes node) (time_of r links.0) (within r to r.nodes node links.0 links.1 (omega arith)) in
    let other = taken r to r.nodes node found.0 found.1 in
    let low : time.0 ≤ time_of r other.0 = (subst (IsLeastTime r node to) is (least node there)).least other.0 other.1 in
    let high = found.2 in
    let takes = links.2 in
    let time_is = other.2 in
    let same : time.0 ≡ found.0 = omega arith in
    ap (λ t. Some (millis_of t)) same ∙ sym (ap (option_map millis_of) found.1)

pub least_are : (r : Roads) (p : List (Option Millis)) (to : ℕ) → AreRoads r → AreLeastTimes r to p → length p ≡ r.nodes → p ≡ least_times_of r to
least_are r p to roads least long =
    ext_get_or None p (least_times_of r to) (long ∙ sym (length-map-range_with_len (λ node. option_map millis_of (least_within r to r.nodes node)) 0 r.nodes))
    (λ node low. let there : node < r.nodes = subst (λ n. node < n) long low in
    least_is_within r p to node (potential_at p node) roads least there refl
    ∙ sym (get_or-map-range_with_len (λ node. option_map millis_of (least_within r to r.nodes node)) 0 r.nodes node node None there (omega arith)))
