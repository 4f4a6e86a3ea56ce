-- Each step of a search keeps what is known of it.
use Rattle.std.proofs.Common.{◌≡◌, ◌≢◌, ℕ, ◌<◌, ◌≤◌, ◌⊎◌, inl, inr, true, List, [], ◌∷◌, length, Option, Some, None, refl, ap, sym, subst, arith, ◌∙◌}
use Rattle.std.specs.Prelude.{slice_set}
use Rattle.std.specs.List.{Contains}
use Rattle.std.specs.List.Sorted.{IsPermutation}
use Rattle.std.proofs.lemmas.Bool.Decides.{nat_tests}
use Rattle.std.proofs.lemmas.List.{length-set}
use Rattle.std.proofs.lemmas.List.Elements.{All-cons, All-tail}
use Rattle.std.proofs.lemmas.List.Sorted.{All-permutation, Contains-permutation}
use Rattle.ltm_units.specs.declared.quantities.Millis.{Millis}
use Rattle.ltm_search.specs.declared.search.Waiting.{Waiting}
use Rattle.ltm_search.specs.Ways.{Ways, AreWays}
use Rattle.ltm_search.specs.Arrivals.{arrival_at, AreBy}
use Rattle.ltm_search.specs.Search.{millis, is_by, fits, fits_over, AllFit, waiting, IsWaiting, found, IsSearch, is_current}
use Rattle.ltm_search.proofs.Arriving.{decide, contains_first, contains_cases, at_same, at_other, told_millis, found_most, bound_rises}

-- ---- a node that waited is looked at
waits_or : (q : List Waiting) (x : Waiting) (node : ℕ) (o : Option Millis) → IsWaiting (x ∷ q) node o → IsWaiting q node o ⊎ ((node ≡ x.node) × (is_current o x.time.0 ≡ true))
waits_or q x node None is = inl is
waits_or q x node (Some t) is = elim (contains_cases x (waiting t.0 node) q is) [
  | inl same ↦ inr (sym (ap (λ (z : Waiting). z.node) same), (let e : x.time.0 ≡ t.0 = ap (λ (z : Waiting). z.time.0) same in grind (arith, nat_tests)))
  | inr later ↦ inl later
]

-- once the first is taken off, the links that leave it are left where its arrival is current
pub popped : (w : Ways) (bound : ℕ → ℕ) (from start : ℕ) (a : List (Option Millis)) (q : List Waiting) (x : Waiting) (left : List ℕ) → IsSearch w bound from start a (x ∷ q) []
    → ((link : ℕ) → link < w.links → w.tail link ≡ x.node → is_current (arrival_at a x.node) x.time.0 ≡ true → Contains left link) → IsSearch w bound from start a q left
popped w bound from start a q x left s stand = record {
  one_for_each = s.one_for_each;
  begun = s.begun;
  taken = s.taken;
  small = s.small;
  waits = All-tail (λ (y : Waiting). y.node < w.nodes) x q s.waits;
  fits = λ l low. go l low (s.fits l low);
}
  where
    go : (l : ℕ) → l < w.links → (fits_over w a l ≡ true) ⊎ (IsWaiting (x ∷ q) (w.tail l) (arrival_at a (w.tail l)) ⊎ Contains [] l)
        → (fits_over w a l ≡ true) ⊎ (IsWaiting q (w.tail l) (arrival_at a (w.tail l)) ⊎ Contains left l)
    go l low (inl fit) = inl fit
    go l low (inr (inl waits)) = elim (waits_or q x (w.tail l) (arrival_at a (w.tail l)) waits) [
      | inl still ↦ inr (inl still)
      | inr first ↦ inr (inr (stand l low first.0 (subst (λ n. is_current (arrival_at a n) x.time.0 ≡ true) first.0 first.1)))
    ]
    go l low (inr (inr has)) = absurd (omega (arith, has.1))

-- a link that fits need not be left
pub looked_at : (w : Ways) (bound : ℕ → ℕ) (from start : ℕ) (a : List (Option Millis)) (q : List Waiting) (link : ℕ) (left : List ℕ) → IsSearch w bound from start a q (link ∷ left) → fits_over w a link ≡ true
    → IsSearch w bound from start a q left
looked_at w bound from start a q link left s now = record {
  one_for_each = s.one_for_each;
  begun = s.begun;
  taken = s.taken;
  small = s.small;
  waits = s.waits;
  fits = λ l low. go l (s.fits l low);
}
  where
    go : (l : ℕ) → (fits_over w a l ≡ true) ⊎ (IsWaiting q (w.tail l) (arrival_at a (w.tail l)) ⊎ Contains (link ∷ left) l)
        → (fits_over w a l ≡ true) ⊎ (IsWaiting q (w.tail l) (arrival_at a (w.tail l)) ⊎ Contains left l)
    go l (inl fit) = inl fit
    go l (inr (inl waits)) = inr (inl waits)
    go l (inr (inr has)) = elim (contains_cases link l left has) [
      | inl same ↦ inl (subst (λ n. fits_over w a n ≡ true) same now)
      | inr later ↦ inr (inr later)
    ]

-- the order in which nodes wait does not matter
pub reordered : (w : Ways) (bound : ℕ → ℕ) (from start : ℕ) (a : List (Option Millis)) (q q' : List Waiting) (left : List ℕ) → IsPermutation q q' → IsSearch w bound from start a q left → IsSearch w bound from start a q' left
reordered w bound from start a q q' left perm s = record {
  one_for_each = s.one_for_each;
  begun = s.begun;
  taken = s.taken;
  small = s.small;
  waits = All-permutation (λ (x : Waiting). x.node < w.nodes) q q' perm s.waits;
  fits = λ l low. go l (s.fits l low);
}
  where
    moved : (node : ℕ) (o : Option Millis) → IsWaiting q node o → IsWaiting q' node o
    moved node None is = is
    moved node (Some t) is = Contains-permutation q q' (waiting t.0 node) perm is

    go : (l : ℕ) → (fits_over w a l ≡ true) ⊎ (IsWaiting q (w.tail l) (arrival_at a (w.tail l)) ⊎ Contains left l)
        → (fits_over w a l ≡ true) ⊎ (IsWaiting q' (w.tail l) (arrival_at a (w.tail l)) ⊎ Contains left l)
    go l (inl fit) = inl fit
    go l (inr (inl waits)) = inr (inl (moved (w.tail l) (arrival_at a (w.tail l)) waits))
    go l (inr (inr has)) = inr (inr has)

-- where nothing waits and nothing is left, the arrivals fit
pub all_fit : (w : Ways) (bound : ℕ → ℕ) (from start : ℕ) (a : List (Option Millis)) → IsSearch w bound from start a [] [] → AllFit w a
all_fit w bound from start a s = λ l low. go l (arrival_at a (w.tail l)) (s.fits l low)
  where
    go : (l : ℕ) (o : Option Millis) → (fits_over w a l ≡ true) ⊎ (IsWaiting [] (w.tail l) o ⊎ Contains [] l) → fits_over w a l ≡ true
    go l o (inl fit) = fit
    go l None (inr (inl waits)) = absurd waits
    go l (Some t) (inr (inl waits)) = absurd (omega (arith, waits.1))
    go l o (inr (inr has)) = absurd (omega (arith, has.1))

pub current_is : (o : Option Millis) (t : ℕ) → is_current o t ≡ true → o ≡ Some (millis t)
current_is None t is = cc
current_is (Some x) t is = let same : x.0 ≡ t = grind (arith, nat_tests) in ap (λ n. Some (millis n)) same

-- ---- a search begins with the origin alone
pub begins : (w : Ways) (bound : ℕ → ℕ) (from start : ℕ) (none a : List (Option Millis)) (q : List Waiting) → AreWays w bound → length none ≡ w.nodes → ((node : ℕ) → arrival_at none node ≡ None) → from < w.nodes → start ≤ bound 0
    → a ≡ slice_set none from (Some (millis start)) → IsPermutation (waiting start from ∷ []) q → IsSearch w bound from start a q []
begins w bound from start none a q ways long empty low small set put =
    let low' : from < length none = subst (λ n. from < n) (sym long) low in
    let here : arrival_at a from ≡ Some (millis start) = subst (λ x. arrival_at x from ≡ Some (millis start)) (sym set) (at_same none from (Some (millis start)) low') in
    let only : (node : ℕ) → node ≢ from → arrival_at a node ≡ None = λ node other. subst (λ x. arrival_at x node ≡ None) (sym set) (at_other none from node (Some (millis start)) other ∙ empty node) in
    record {
      one_for_each = subst (λ x. length x ≡ w.nodes) (sym set) (length-set none from (Some (millis start)) ∙ long);
      begun = subst (λ o. is_by o start ≡ true) (sym here) (grind (arith, nat_tests));
      taken = λ node time there is. elim (decide node from) [
        | inl same ↦
            let value : start ≡ time.0 = ap (λ (z : Millis). z.0) (told_millis (sym here ∙ subst (λ n. arrival_at a n ≡ Some time) same is)) in
            ([], sym same, ap Some value)
        | inr other ↦ absurd (never (sym (only node other) ∙ is))
      ];
      small = λ node time is. elim (decide node from) [
        | inl same ↦
            let value : start ≡ time.0 = ap (λ (z : Millis). z.0) (told_millis (sym here ∙ subst (λ n. arrival_at a n ≡ Some time) same is)) in
            let more = bound_rises w bound ways 0 (found a) (omega arith) in
            omega arith
        | inr other ↦ absurd (never (sym (only node other) ∙ is))
      ];
      waits = All-permutation (λ (x : Waiting). x.node < w.nodes) (waiting start from ∷ []) q put (All-cons (λ (x : Waiting). x.node < w.nodes) (waiting start from) [] low (λ k d none. absurd (omega arith)));
      fits = λ link there. elim (decide (w.tail link) from) [
        | inl same ↦ inr (inl (subst (λ n. IsWaiting q n (arrival_at a n)) (sym same) (subst (λ o. IsWaiting q from o) (sym here) (Contains-permutation (waiting start from ∷ []) q (waiting start from) put (contains_first (waiting start from) [])))))
        | inr other ↦ inl (subst (λ o. fits o (w.leaves link) (arrival_at a (w.head link)) ≡ true) (sym (only (w.tail link) other)) refl)
      ];
    }
  where
    never : {y : Millis} → None ≡ Some y → ⊥
    never e = cc

-- no arrival is after the bound of all nodes
pub all_by : (w : Ways) (bound : ℕ → ℕ) (from start : ℕ) (a : List (Option Millis)) (q : List Waiting) (left : List ℕ) → AreWays w bound → IsSearch w bound from start a q left → AreBy (bound w.nodes) a
all_by w bound from start a q left ways s = λ node time is.
    let here = s.small node time is in
    let few = found_most a in
    let long = s.one_for_each in
    let more = bound_rises w bound ways (found a) w.nodes (omega arith) in
    omega arith

pub moment_by : (w : Ways) (bound : ℕ → ℕ) (from start : ℕ) (a : List (Option Millis)) (q : List Waiting) (left : List ℕ) (node time : ℕ) → AreWays w bound → IsSearch w bound from start a q left
    → arrival_at a node ≡ Some (millis time) → time ≤ bound w.nodes
moment_by w bound from start a q left node time ways s at = all_by w bound from start a q left ways s node (millis time) at
