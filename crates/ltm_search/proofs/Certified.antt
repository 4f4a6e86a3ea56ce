-- Arrivals that fit over each link, and are those of routes, are the earliest.
use Rattle.std.proofs.Common.{◌≡◌, ℕ, ◌<◌, ◌≤◌, true, List, [], ◌∷◌, Option, Some, None, refl, sym, subst, arith}
use Rattle.std.proofs.lemmas.Bool.Decides.{nat_tests}
use Rattle.ltm_units.specs.declared.quantities.Millis.{Millis}
use Rattle.ltm_search.specs.Ways.{Ways, AreWays, IsRoute, arrival, IsEarliest}
use Rattle.ltm_search.specs.Arrivals.{arrival_at, millis_of, AreEarliest}
use Rattle.ltm_search.specs.Search.{is_by, AreTaken, fits_at, fits, AllFit}
use Rattle.ltm_search.proofs.Passed.{and_then_some}

-- an arrival by a moment
abbrev pub AtMost : Option Millis → ℕ → Type 0
AtMost None time = ⊥
AtMost (Some t) time = t.0 ≤ time

pub by_at_most : (o : Option Millis) (time : ℕ) → is_by o time ≡ true → AtMost o time
by_at_most None time is = cc
by_at_most (Some t) time is = grind (arith, nat_tests)

at_most_later : (o : Option Millis) (x y : ℕ) → AtMost o x → x ≤ y → AtMost o y
at_most_later None x y most l = absurd most
at_most_later (Some t) x y most l = omega arith

-- a link over which arrivals fit brings its head as early
fit_at_most : (w : Ways) (bound : ℕ → ℕ) → AreWays w bound → (link : ℕ) (tail head : Option Millis) (x exit : ℕ) → link < w.links → fits tail (w.leaves link) head ≡ true
    → AtMost tail x → w.leaves link x ≡ Some exit → AtMost head exit
fit_at_most w bound ways link None head x exit low fit most is = absurd most
fit_at_most w bound ways link (Some t) head x exit low fit most is =
    let before = ways.rises link t.0 x exit low most is in
    let by : is_by head before.0 ≡ true = subst (λ o. fits_at o head ≡ true) before.1 fit in
    at_most_later head before.0 exit (by_at_most head before.0 by) before.2

-- where arrivals fit, no route comes before them
pub no_later : (w : Ways) (bound : ℕ → ℕ) (a : List (Option Millis)) → AreWays w bound → AllFit w a
    → (links : List ℕ) (from to x exit : ℕ) → IsRoute w from to links → AtMost (arrival_at a from) x → arrival w links x ≡ Some exit → AtMost (arrival_at a to) exit
no_later w bound a ways fit [] from to x exit route most is =
    let same : x ≡ exit = told is in
    subst (λ n. AtMost (arrival_at a n) exit) route (subst (λ y. AtMost (arrival_at a from) y) same most)
  where
    told : {x y : ℕ} → Some x ≡ Some y → x ≡ y
    told e = cc
no_later w bound a ways fit (link ∷ links) from to x exit route most is =
    let next = and_then_some (arrival w links) (w.leaves link x) exit is in
    let here : AtMost (arrival_at a (w.tail link)) x = subst (λ n. AtMost (arrival_at a n) x) (sym route.1) most in
    let there = fit_at_most w bound ways link (arrival_at a (w.tail link)) (arrival_at a (w.head link)) x next.0 route.0 (fit link route.0) here next.1 in
    no_later w bound a ways fit links (w.head link) to next.0 exit route.2 there next.2

none_arrives : (o : Option ℕ) → ((time : ℕ) → o ≡ Some time → ⊥) → o ≡ None
none_arrives None none = refl
none_arrives (Some time) none = absurd (none time refl)

first_at : (w : Ways) (from start node : ℕ) (o : Option Millis) → ((time : Millis) → o ≡ Some time → (links : List ℕ) × IsRoute w from node links × (arrival w links start ≡ Some time.0))
    → ((links : List ℕ) (time : ℕ) → IsRoute w from node links → arrival w links start ≡ Some time → AtMost o time) → IsEarliest w from start node (millis_of o)
first_at w from start node None taken most = λ links route. none_arrives (arrival w links start) (λ time is. most links time route is)
first_at w from start node (Some time) taken most = record { taken = taken time refl; first = λ links other route is. most links other route is }

pub certified : (w : Ways) (bound : ℕ → ℕ) (from start : ℕ) (a : List (Option Millis)) → AreWays w bound → is_by (arrival_at a from) start ≡ true → AllFit w a → AreTaken w from start a
    → AreEarliest w from start a
certified w bound from start a ways begun fit taken = λ node low.
    first_at w from start node (arrival_at a node) (λ time is. taken node time low is)
    (λ links time route is. no_later w bound a ways fit links from node start time route (by_at_most (arrival_at a from) start begun) is)
