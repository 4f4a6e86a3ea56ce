-- The earliest arrivals over routes of so many links are the earliest of all.
use Rattle.std.proofs.Common.{◌≡◌, ℕ, zero, suc, ◌+◌, ◌*◌, ◌<◌, ◌≤◌, ◌==◌, ◌⊎◌, inl, inr, Bool, true, false, List, [], ◌∷◌, ◌++◌, length, Option, Some, None, min, if◌then◌else◌, refl, ap, sym, subst, arith, ◌∙◌}
use Rattle.std.specs.Prelude.{option_and_then}
use Rattle.std.proofs.Math.Nat.{mul-le-mul_right}
use Rattle.std.proofs.lemmas.Bool.{cases_lt, cases_eq}
use Rattle.std.proofs.lemmas.Bool.Decides.{nat_tests}
use Rattle.ltm_search.specs.Ways.{Ways, AreWays, IsRoute, arrival, IsEarliest}
use Rattle.ltm_search.proofs.Passed.{and_then_some, and_then_at, and_link, and_arrival}
use Rattle.ltm_gap.specs.Within.{IsEarliestFrom, earlier, earliest_below, over, earliest_within}

-- ways of which each takes a step, up to an end
pub record AreStepped (w : Ways) (step last : ℕ) : Type 0 where
  pub ways : AreWays w (λ n. last)
  pub some_step : 1 ≤ step
  pub steps : (link x y : ℕ) → link < w.links → w.leaves link x ≡ Some y → x + step ≤ y

abbrev pub By : Option ℕ → ℕ → Type 0
By None time = ⊥
By (Some t) time = t ≤ time

pub by_some : (o : Option ℕ) (time : ℕ) → By o time → (t : ℕ) × (o ≡ Some t) × (t ≤ time)
by_some None time by = absurd by
by_some (Some t) time by = (t, refl, by)

-- ---- the earlier of two, and of many
by_left : (a b : Option ℕ) (time : ℕ) → By a time → By (earlier a b) time
by_left None b time by = absurd by
by_left (Some a) None time by = by
by_left (Some a) (Some b) time by = omega arith

by_right : (a b : Option ℕ) (time : ℕ) → By b time → By (earlier a b) time
by_right None b time by = by
by_right (Some a) None time by = absurd by
by_right (Some a) (Some b) time by = omega arith

is_one : (a b : Option ℕ) (y : ℕ) → earlier a b ≡ Some y → (a ≡ Some y) ⊎ (b ≡ Some y)
is_one None b y is = inr is
is_one (Some a) None y is = inl is
is_one (Some a) (Some b) y is = elim (cases_lt b a) [
  | inl less ↦ inr (let e : min a b ≡ b = omega arith in ap Some (sym e) ∙ is)
  | inr more ↦ inl (let e : min a b ≡ a = omega arith in ap Some (sym e) ∙ is)
]

by_below : (n : ℕ) (f : ℕ → Option ℕ) (k time : ℕ) → k < n → By (f k) time → By (earliest_below n f) time
by_below zero f k time low by = absurd (omega arith)
by_below (suc n) f k time low by = elim (cases_eq k n) [
  | inl same ↦ by_right (earliest_below n f) (f n) time (subst (λ j. By (f j) time) same by)
  | inr other ↦ by_left (earliest_below n f) (f n) time (by_below n f k time (omega arith) by)
]

one_below : (n : ℕ) (f : ℕ → Option ℕ) (y : ℕ) → earliest_below n f ≡ Some y → (k : ℕ) × (k < n) × (f k ≡ Some y)
one_below zero f y is = cc
one_below (suc n) f y is = elim (is_one (earliest_below n f) (f n) y is) [
  | inl before ↦ let k = one_below n f y before in (k.0, omega (arith, k.1), k.2)
  | inr here ↦ (n, omega arith, here)
]

-- ---- each is that of a route
over_some : (w : Ways) (f : ℕ → Option ℕ) (node link y : ℕ) → over w f node link ≡ Some y → (w.head link ≡ node) × ((x : ℕ) × (f (w.tail link) ≡ Some x) × (w.leaves link x ≡ Some y))
over_some w f node link y = go (w.head link == node) refl
  where
    go : (b : Bool) → (w.head link == node) ≡ b → (if b then option_and_then (w.leaves link) (f (w.tail link)) else None) ≡ Some y
        → (w.head link ≡ node) × ((x : ℕ) × (f (w.tail link) ≡ Some x) × (w.leaves link x ≡ Some y))
    go true e is = (grind (arith, nat_tests), and_then_some (w.leaves link) (f (w.tail link)) y is)
    go false e is = cc

abbrev IsTaken : Ways → ℕ → ℕ → ℕ → ℕ → Type 0
IsTaken w from start node time = (links : List ℕ) × IsRoute w from node links × (arrival w links start ≡ Some time)

taken_start : (w : Ways) (from start node time : ℕ) (b : Bool) → (from == node) ≡ b → (if b then Some start else None) ≡ Some time → IsTaken w from start node time
taken_start w from start node time true e is = ([], grind (arith, nat_tests), is)
taken_start w from start node time false e is = cc

pub within_taken : (w : Ways) (from start n node time : ℕ) → earliest_within w from (Some start) n node ≡ Some time → IsTaken w from start node time
within_taken w from start zero node time is = taken_start w from start node time (from == node) refl is
within_taken w from start (suc n) node time is =
    elim (is_one (earliest_within w from (Some start) n node) (earliest_below w.links (over w (earliest_within w from (Some start) n) node)) time is) [
      | inl before ↦ within_taken w from start n node time before
      | inr more ↦
          let link = one_below w.links (over w (earliest_within w from (Some start) n) node) time more in
          let leads = over_some w (earliest_within w from (Some start) n) node link.0 time link.2 in
          let x : ℕ = leads.1.0 in
          let rest = within_taken w from start n (w.tail link.0) x leads.1.1 in (
            rest.0 ++ link.0 ∷ [],
            subst (λ to. IsRoute w from to (rest.0 ++ link.0 ∷ [])) leads.0 (and_link w rest.0 from (w.tail link.0) link.0 rest.1 link.1 refl),
            and_arrival w rest.0 link.0 start x time rest.2 leads.1.2,
          )
    ]

-- ---- no route of so many links comes before
more_links : (w : Ways) (from : ℕ) (start : Option ℕ) (n m node time : ℕ) → n ≤ m → By (earliest_within w from start n node) time → By (earliest_within w from start m node) time
more_links w from start n zero node time few by = let e : n ≡ 0 = omega arith in subst (λ k. By (earliest_within w from start k node) time) e by
more_links w from start n (suc m) node time few by = elim (cases_eq n (suc m)) [
  | inl same ↦ subst (λ k. By (earliest_within w from start k node) time) same by
  | inr other ↦ by_left (earliest_within w from start m node) (earliest_below w.links (over w (earliest_within w from start m) node)) time (more_links w from start n m node time (omega arith) by)
]

over_by : (w : Ways) (step last : ℕ) → AreStepped w step last → (f : ℕ → Option ℕ) (link x exit : ℕ) → link < w.links → By (f (w.tail link)) x → w.leaves link x ≡ Some exit → By (over w f (w.head link) link) exit
over_by w step last ways f link x exit low by is =
    let at = by_some (f (w.tail link)) x by in
    let before = ways.ways.rises link at.0 x exit low at.2 is in
    let here : (w.head link == w.head link) ≡ true = grind (arith, nat_tests) in
    subst (λ b. By (if b then option_and_then (w.leaves link) (f (w.tail link)) else None) exit) (sym here)
    (subst (λ o. By o exit) (sym (and_then_at (w.leaves link) (f (w.tail link)) at.0 (Some before.0) at.1 before.1)) before.2)

within_by : (w : Ways) (step last : ℕ) → AreStepped w step last → (from : ℕ) (start : Option ℕ) (links : List ℕ) (n node to x exit : ℕ) → IsRoute w node to links → By (earliest_within w from start n node) x
    → arrival w links x ≡ Some exit → By (earliest_within w from start (length links + n) to) exit
within_by w step last ways from start [] n node to x exit route by is =
    let same : x ≡ exit = told is in
    subst (λ m. By (earliest_within w from start m to) exit) (let e : n ≡ 0 + n = omega arith in e) (subst (λ k. By (earliest_within w from start n k) exit) route (subst (λ y. By (earliest_within w from start n node) y) same by))
  where
    told : {x y : ℕ} → Some x ≡ Some y → x ≡ y
    told e = cc
within_by w step last ways from start (link ∷ links) n node to x exit route by is =
    let next = and_then_some (arrival w links) (w.leaves link x) exit is in
    let f : ℕ → Option ℕ = earliest_within w from start n in
    let here : By (f (w.tail link)) x = subst (λ k. By (f k) x) (sym route.1) by in
    let there : By (earliest_within w from start (suc n) (w.head link)) next.0
    = by_right (f (w.head link)) (earliest_below w.links (over w f (w.head link))) next.0
    (by_below w.links (over w f (w.head link)) link next.0 route.0 (over_by w step last ways f link x next.0 route.0 here next.1)) in
    let rest : By (earliest_within w from start (length links + suc n) to) exit = within_by w step last ways from start links (suc n) (w.head link) to next.0 exit route.2 there next.2 in
    let e : length links + suc n ≡ length (link ∷ links) + n = omega arith in
    subst (λ m. By (earliest_within w from start m to) exit) e rest

-- a route that arrives has no more links than there are steps
few_links : (w : Ways) (step last : ℕ) → AreStepped w step last → (links : List ℕ) (from to x exit : ℕ) → IsRoute w from to links → x ≤ last → arrival w links x ≡ Some exit
    → (x + length links * step ≤ exit) × (exit ≤ last)
few_links w step last ways [] from to x exit route within is = let same : x ≡ exit = told is in (omega arith, omega arith)
  where
    told : {x y : ℕ} → Some x ≡ Some y → x ≡ y
    told e = cc
few_links w step last ways (link ∷ links) from to x exit route within is =
    let next = and_then_some (arrival w links) (w.leaves link x) exit is in
    let later = ways.steps link x next.0 route.0 next.1 in
    let by = ways.ways.within link 0 x next.0 route.0 within next.1 in
    let rest = few_links w step last ways links (w.head link) to next.0 exit route.2 by next.2 in
    let e : length (link ∷ links) * step ≡ length links * step + step = omega arith in
    (omega (arith, rest.0), rest.1)

no_more_than : (k slots step : ℕ) → 1 ≤ step → k * step ≤ slots * step → k ≤ slots
no_more_than k slots step some l = elim (cases_lt slots k) [
  | inl more ↦ absurd (let next : slots + 1 ≤ k = omega arith in omega (arith, mul-le-mul_right step next))
  | inr fewer ↦ fewer
]

starts_by : (w : Ways) (from start : ℕ) → By (earliest_within w from (Some start) 0 from) start
starts_by w from start =
    let here : (from == from) ≡ true = grind (arith, nat_tests) in
    subst (λ b. By (if b then Some start else None) start) (sym here) (omega arith)

pub within_first : (w : Ways) (step slots : ℕ) → AreStepped w step (slots * step) → (from start : ℕ) (links : List ℕ) (to exit : ℕ) → start ≤ slots * step → IsRoute w from to links
    → arrival w links start ≡ Some exit → By (earliest_within w from (Some start) slots to) exit
within_first w step slots ways from start links to exit within route is =
    let few = few_links w step (slots * step) ways links from to start exit route within is in
    let short : length links ≤ slots = no_more_than (length links) slots step ways.some_step (omega (arith, few.0, few.1)) in
    let by = within_by w step (slots * step) ways from (Some start) links 0 from to start exit route (starts_by w from start) is in
    more_links w from (Some start) (length links + 0) slots to exit (omega (arith, short)) by

abbrev no_moment : Option ℕ
no_moment = None

none_if : (b : Bool) → (if b then no_moment else no_moment) ≡ no_moment
none_if true = refl
none_if false = refl

none_of : (k : ℕ) (f : ℕ → Option ℕ) → ((j : ℕ) → f j ≡ None) → earliest_below k f ≡ None
none_of zero f none = refl
none_of (suc k) f none = ap (λ o. earlier o (f k)) (none_of k f none) ∙ none k

over_none : (w : Ways) (f : ℕ → Option ℕ) (node link : ℕ) → ((n : ℕ) → f n ≡ None) → over w f node link ≡ None
over_none w f node link none = ap (λ o. if w.head link == node then option_and_then (w.leaves link) o else None) (none (w.tail link)) ∙ none_if (w.head link == node)

none_within : (w : Ways) (from n node : ℕ) → earliest_within w from None n node ≡ None
none_within w from zero node = none_if (from == node)
none_within w from (suc n) node =
    ap (λ o. earlier o (earliest_below w.links (over w (earliest_within w from None n) node))) (none_within w from n node)
    ∙ none_of w.links (over w (earliest_within w from None n) node) (λ link. over_none w (earliest_within w from None n) node link (λ k. none_within w from n k))

-- so they are the earliest
earliest_at : (w : Ways) (from start to : ℕ) (o : Option ℕ) → ((time : ℕ) → o ≡ Some time → IsTaken w from start to time)
    → ((links : List ℕ) (time : ℕ) → IsRoute w from to links → arrival w links start ≡ Some time → By o time) → IsEarliest w from start to o
earliest_at w from start to None taken first = λ links route. none_arrives (arrival w links start) (λ time is. first links time route is)
  where
    none_arrives : (o : Option ℕ) → ((time : ℕ) → o ≡ Some time → ⊥) → o ≡ None
    none_arrives None none = refl
    none_arrives (Some time) none = absurd (none time refl)
earliest_at w from start to (Some time) taken first = record { taken = taken time refl; first = λ links other route is. first links other route is }

-- a start by the end, or none
abbrev pub StartsBy : Option ℕ → ℕ → Type 0
StartsBy None last = Unit {0}
StartsBy (Some start) last = start ≤ last

pub within_earliest : (w : Ways) (step slots : ℕ) → AreStepped w step (slots * step) → (from : ℕ) (start : Option ℕ) (to : ℕ) → StartsBy start (slots * step)
    → IsEarliestFrom w from start to (earliest_within w from start slots to)
within_earliest w step slots ways from None to within = none_within w from slots to
within_earliest w step slots ways from (Some start) to within =
    earliest_at w from start to (earliest_within w from (Some start) slots to) (λ time is. within_taken w from start slots to time is)
    (λ links time route is. within_first w step slots ways from start links to time within route is)

-- ---- and there is one earliest arrival
pub one_earliest : (w : Ways) (from : ℕ) (start : Option ℕ) (to : ℕ) (a b : Option ℕ) → IsEarliestFrom w from start to a → IsEarliestFrom w from start to b → a ≡ b
one_earliest w from None to a b is_a is_b = is_a ∙ sym is_b
one_earliest w from (Some start) to None None is_a is_b = refl
one_earliest w from (Some start) to None (Some y) is_a is_b = let taken = is_b.taken in absurd (never (sym (is_a taken.0 taken.1) ∙ taken.2))
  where
    never : {y : ℕ} → None ≡ Some y → ⊥
    never e = cc
one_earliest w from (Some start) to (Some x) None is_a is_b = let taken = is_a.taken in absurd (never (sym (is_b taken.0 taken.1) ∙ taken.2))
  where
    never : {y : ℕ} → None ≡ Some y → ⊥
    never e = cc
one_earliest w from (Some start) to (Some x) (Some y) is_a is_b =
    let of_a = is_a.taken in
    let of_b = is_b.taken in
    let below : x ≤ y = is_a.first of_b.0 y of_b.1 of_b.2 in
    let above : y ≤ x = is_b.first of_a.0 x of_a.1 of_a.2 in
    let same : x ≡ y = omega arith in
    ap Some same
