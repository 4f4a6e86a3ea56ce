-- The links of a loading are ways, so earliest arrivals are the first.
use Rattle.std.proofs.Common.{◌≡◌, ℕ, ◌+◌, ◌*◌, ◌<◌, ◌≤◌, List, [], ◌∷◌, Option, Some, None, refl, sym, subst, arith, ◌∙◌}
use Rattle.ltm_units.proofs.Sums.{sum_below-le}
use Rattle.ltm_curve.specs.Counts.{Counts, Rises}
use Rattle.ltm_curve.specs.TotalCurves.{total_groups, total_at}
use Rattle.ltm_loading.specs.Setting.{Setting, IsSetting}
use Rattle.ltm_loading.specs.Loading.{IsLoading}
use Rattle.ltm_loading.specs.LoadingLaws.{NeverFall}
use Rattle.ltm_loading.specs.Groups.{up_of, groups}
use Rattle.ltm_loading.specs.Totals.{entered_link, left_link}
use Rattle.ltm_flows.specs.Origins.{departed_from}
use Rattle.ltm_flows.specs.declared.loading.Loading.{Loading}
use Rattle.ltm_flows.specs.Shown.{curves_of, last_of, links_of, nodes_of}
use Rattle.ltm_flows.specs.Counted.{entered_by, left_by}
use Rattle.ltm_search.specs.Ways.{Ways, AreWays, IsRoute, arrival, IsFirst, IsEarliest}
use Rattle.ltm_search.proofs.Passed.{and_then_some, and_then_at}
use Rattle.ltm_gap.specs.Leaving.{end_of, leaves_by, starts}
use Rattle.ltm_gap.specs.Within.{IsEarliestFrom}
use Rattle.ltm_gap.specs.Earliest.{ways, earliest}
use Rattle.ltm_gap.specs.Told.{Suits}
use Rattle.ltm_gap.specs.Steps.{read_ways}
use Rattle.ltm_gap.proofs.Passing.{passes_later, passes_rises}
use Rattle.ltm_gap.specs.Laws.{EarliestIsFirst, NobodyComesBefore, ArriveInOrder}
use Rattle.ltm_gap.proofs.Reaching.{is_reached, first_sooner}
use Rattle.ltm_gap.proofs.Within.{AreStepped, StartsBy, within_earliest}

-- links that are passed by curves which rise
abbrev passed : Setting → (ℕ → ℕ → ℕ) → (ℕ → ℕ → ℕ) → Ways
passed s up down = record { nodes = s.nodes; links = s.links; tail = s.tail; head = s.head; leaves = λ link. leaves_by s link (up link) (down link) }

passed_ways : (s : Setting) (up down : ℕ → ℕ → ℕ) → IsSetting s → ((link : ℕ) → link < s.links → Rises (up link) s.slots) → AreStepped (passed s up down) s.step (end_of s)
passed_ways s up down is rises = record {
  ways = record {
    tails = is.network.tail_is_node;
    heads = is.network.head_is_node;
    later = λ link x y low leaves. let some = is.some_step in omega (arith, in_steps link x y low leaves);
    rises = λ link x y exit low l leaves. passes_rises s link (up link) (down link) x y exit is.some_step (rises link low) l leaves;
    within = λ link n x y low by leaves. (passes_later s link (up link) (down link) x y leaves).1;
    grows = λ n. omega arith;
  };
  some_step = is.some_step;
  steps = in_steps;
}
  where
    in_steps : (link x y : ℕ) → link < s.links → leaves_by s link (up link) (down link) x ≡ Some y → x + s.step ≤ y
    in_steps link x y low leaves =
        let later = passes_later s link (up link) (down link) x y leaves in
        let long : s.step ≤ s.free_time link = is.free_time link low in
        omega (arith, later.0)

pub read_are_ways : (s : Setting) (l : Loading) → IsSetting s → Suits s l → total_groups (curves_of l) ≡ 2 * links_of l + nodes_of l + 1
    → ((g k : ℕ) → g < total_groups (curves_of l) → k < last_of l → total_at (curves_of l) g k ≤ total_at (curves_of l) g (k + 1)) → AreStepped (read_ways s l) s.step (end_of s)
read_are_ways s l is suits groups rises = passed_ways s (entered_by l) (left_by l) is (λ link low k below.
    let there : link < links_of l = subst (λ n. link < n) (sym suits.links) low in
    rises (up_of link) k (subst (λ n. up_of link < n) (sym groups) (omega arith)) (subst (λ n. k < n) (sym suits.slots) below))

entered_rises : (s : Setting) (c : Counts) → NeverFall → IsSetting s → IsLoading s c → (link : ℕ) → link < s.links → Rises (entered_link s c link) s.slots
entered_rises s c never is loading link low = λ k below.
    sum_below-le s.destinations (λ d. c (up_of link) d k) (λ d. c (up_of link) d (k + 1)) (λ d l. never s c is loading (up_of link) d k (omega arith) l below)

pub are_ways : (s : Setting) (c : Counts) → NeverFall → IsSetting s → IsLoading s c → AreStepped (ways s c) s.step (end_of s)
are_ways s c never is loading = passed_ways s (entered_link s c) (left_link s c) is (entered_rises s c never is loading)

pub starts_within : (s : Setting) (c : Counts) (origin slot number : ℕ) → StartsBy (starts s c origin slot number) (end_of s)
starts_within s c origin slot number = go (starts s c origin slot number) refl
  where
    go : (o : Option ℕ) → starts s c origin slot number ≡ o → StartsBy o (end_of s)
    go None is = tt
    go (Some start) is = (is_reached _ s.step s.slots _ _ start is).within

pub earliest_first : NeverFall → (s : Setting) (c : Counts) → IsSetting s → IsLoading s c → (origin slot number node : ℕ) → IsEarliestFrom (ways s c) origin (starts s c origin slot number) node (earliest s c origin slot number node)
earliest_first never s c is loading origin slot number node =
    within_earliest (ways s c) s.step s.slots (are_ways s c never is loading) origin (starts s c origin slot number) node (starts_within s c origin slot number)

first_of : (w : Ways) (from start node time : ℕ) (links : List ℕ) (first : Option ℕ) → IsEarliestFrom w from (Some start) node first → IsRoute w from node links → arrival w links start ≡ Some time
    → (x : ℕ) × (first ≡ Some x) × (x ≤ time)
first_of w from start node time links None is route arrives = absurd (never (sym (is links route) ∙ arrives))
  where
    never : {y : ℕ} → None ≡ Some y → ⊥
    never e = cc
first_of w from start node time links (Some x) is route arrives = (x, refl, is.first links time route arrives)

pub nobody_before : EarliestIsFirst → (s : Setting) (c : Counts) → IsSetting s → IsLoading s c → (origin slot number node start time : ℕ) (links : List ℕ) → starts s c origin slot number ≡ Some start
    → IsRoute (ways s c) origin node links → arrival (ways s c) links start ≡ Some time → (first : ℕ) × (earliest s c origin slot number node ≡ Some first) × (first ≤ time)
nobody_before first s c is loading origin slot number node start time links starts_at route arrives =
    first_of (ways s c) origin start node time links (earliest s c origin slot number node)
    (subst (λ o. IsEarliestFrom (ways s c) origin o node (earliest s c origin slot number node)) starts_at (first s c is loading origin slot number node)) route arrives

-- ---- who sets out sooner arrives no later
arrival_rises : (w : Ways) (bound : ℕ → ℕ) → AreWays w bound → (links : List ℕ) (from to x y exit : ℕ) → IsRoute w from to links → x ≤ y → arrival w links y ≡ Some exit
    → (before : ℕ) × (arrival w links x ≡ Some before) × (before ≤ exit)
arrival_rises w bound ways [] from to x y exit route l is = let same : y ≡ exit = told is in (x, refl, omega arith)
  where
    told : {x y : ℕ} → Some x ≡ Some y → x ≡ y
    told e = cc
arrival_rises w bound ways (link ∷ links) from to x y exit route l is =
    let next = and_then_some (arrival w links) (w.leaves link y) exit is in
    let sooner = ways.rises link x y next.0 route.0 l next.1 in
    let rest = arrival_rises w bound ways links (w.head link) to sooner.0 next.0 exit route.2 sooner.2 next.2 in
    (rest.0, and_then_at (arrival w links) (w.leaves link x) sooner.0 (Some rest.0) sooner.1 rest.1, rest.2)

-- the route of an earliest arrival
pub record IsSet (w : Ways) (from : ℕ) (start : Option ℕ) (node time : ℕ) : Type 0 where
  pub out : ℕ
  pub starts : start ≡ Some out
  pub links : List ℕ
  pub route : IsRoute w from node links
  pub arrives : arrival w links out ≡ Some time

pub is_set : (w : Ways) (from : ℕ) (start : Option ℕ) (node time : ℕ) (o : Option ℕ) → o ≡ Some time → IsEarliestFrom w from start node o → IsSet w from start node time
is_set w from None node time o at is = absurd (never (sym is ∙ at))
  where
    never : {y : ℕ} → None ≡ Some y → ⊥
    never e = cc
is_set w from (Some start) node time o at is =
    let first : IsFirst w from start node time = subst (λ (z : Option ℕ). IsEarliest w from start node z) at is in
    let taken = first.taken in
    record { out = start; starts = refl; links = taken.0; route = taken.1; arrives = taken.2 }

pub in_order : EarliestIsFirst → NobodyComesBefore → NeverFall → ArriveInOrder
in_order first nobody never = λ s c is loading origin slot before number node time fewer at.
    let set = is_set (ways s c) origin (starts s c origin slot number) node time (earliest s c origin slot number node) at (first s c is loading origin slot number node) in
    let out = first_sooner (departed_from s c origin) s.step s.slots before number (slot * s.step) (slot * s.step) set.out fewer (omega arith) set.starts in
    let there = arrival_rises (ways s c) (λ n. end_of s) (are_ways s c never is loading).ways set.links origin node out.0 set.out time set.route out.2 set.arrives in
    let sooner = nobody s c is loading origin slot before node out.0 there.0 set.links out.1 set.route there.1 in
    (sooner.0, sooner.1, omega (arith, sooner.2, there.2))
