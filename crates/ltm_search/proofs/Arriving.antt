-- An arrival comes earlier over a link.
use Rattle.std.proofs.Common.{◌≡◌, ◌≢◌, ℕ, zero, suc, ◌+◌, ◌-◌, ◌<◌, ◌≤◌, ◌==◌, ◌⊎◌, inl, inr, true, false, List, [], ◌∷◌, ◌++◌, length, All, Option, Some, None, slice_index_or, refl, ap, sym, subst, arith, ◌∙◌}
use Rattle.std.specs.Prelude.{sum_by, slice_set}
use Rattle.std.specs.List.{Contains}
use Rattle.std.specs.List.Sorted.{IsPermutation}
use Rattle.std.proofs.lemmas.Bool.Decides.{nat_tests}
use Rattle.std.proofs.lemmas.List.{get_or-set_other, get_or-set_same, length-set}
use Rattle.std.proofs.lemmas.List.Sums.{sum_by-cons, sum_by-set}
use Rattle.std.proofs.lemmas.List.Elements.{All-cons}
use Rattle.std.proofs.lemmas.List.Sorted.{All-permutation, Contains-permutation, length_permutation}
use Rattle.ltm_units.specs.declared.quantities.Millis.{Millis}
use Rattle.ltm_search.specs.declared.search.Waiting.{Waiting}
use Rattle.ltm_search.specs.Ways.{Ways, AreWays, IsRoute}
use Rattle.ltm_search.specs.Arrivals.{arrival_at}
use Rattle.ltm_search.specs.Search.{millis, is_by, AreTaken, fits_at, fits, fits_over, waiting, IsWaiting, one_if, found, IsSearch, is_earlier, height, effort_of}
use Rattle.ltm_search.proofs.Passed.{and_link, and_arrival}

pub decide : (a b : ℕ) → (a ≡ b) ⊎ (a ≢ b)
decide a b = (elim (a == b) as (λ t. (a == b) ≡ t → (a ≡ b) ⊎ (a ≢ b)) [ true ↦ λ e. inl (grind (arith, nat_tests)) | false ↦ λ e. inr (grind (arith, nat_tests)) ]) refl

pub contains_first : {A : Type 0} (x : A) (xs : List A) → Contains (x ∷ xs) x
contains_first x xs = (0, omega arith, refl)

contains_later : {A : Type 0} (x y : A) (xs : List A) → Contains xs y → Contains (x ∷ xs) y
contains_later x y xs has = (suc has.0, omega (arith, has.1), has.2)

pub contains_cases : {A : Type 0} (x y : A) (xs : List A) → Contains (x ∷ xs) y → (x ≡ y) ⊎ Contains xs y
contains_cases x y xs has = go has.0 has.1 has.2
  where
    go : (k : ℕ) → k < length (x ∷ xs) → slice_index_or (x ∷ xs) k y ≡ y → (x ≡ y) ⊎ Contains xs y
    go zero low at = inl at
    go (suc k) low at = inr (k, omega arith, at)

-- ---- one arrival is set
pub at_same : (a : List (Option Millis)) (u : ℕ) (o : Option Millis) → u < length a → arrival_at (slice_set a u o) u ≡ o
at_same a u o low = get_or-set_same a u o None low

pub at_other : (a : List (Option Millis)) (u n : ℕ) (o : Option Millis) → n ≢ u → arrival_at (slice_set a u o) n ≡ arrival_at a n
at_other a u n o other = get_or-set_other a u n o None other

height_set : (last : ℕ) (a : List (Option Millis)) (u : ℕ) (t : Millis) → u < length a → sum_by (height last) (slice_set a u (Some t)) + height last (arrival_at a u) ≡ sum_by (height last) a + t.0
height_set last a u t low = sum_by-set (height last) a u (Some t) None low

earlier_height : (last : ℕ) (o : Option Millis) (c : ℕ) → c ≤ last → is_earlier o c ≡ true → c < height last o
earlier_height last None c small earlier = omega arith
earlier_height last (Some t) c small earlier = grind (arith, nat_tests)

-- ---- how many nodes are found
one_most : (o : Option Millis) → one_if o ≤ 1
one_most None = omega arith
one_most (Some t) = omega arith

pub found_most : (a : List (Option Millis)) → found a ≤ length a
found_most [] = omega arith
found_most (o ∷ a) = let here = one_most o in let rest = found_most a in let sum : found (o ∷ a) ≡ one_if o + found a = sum_by-cons one_if o a in omega arith

found_set : (a : List (Option Millis)) (u : ℕ) (t : Millis) → u < length a → found (slice_set a u (Some t)) + one_if (arrival_at a u) ≡ found a + 1
found_set a u t low = sum_by-set one_if a u (Some t) None low

-- more links have a later bound
bound_more : (w : Ways) (bound : ℕ → ℕ) → AreWays w bound → (n more : ℕ) → bound n ≤ bound (more + n)
bound_more w bound ways n zero = let same : n ≡ zero + n = omega arith in subst (λ k. bound n ≤ bound k) same (omega arith)
bound_more w bound ways n (suc more) =
    let grown = ways.grows (more + n) in
    let rest = bound_more w bound ways n more in
    let same : more + n + 1 ≡ suc more + n = omega arith in
    let here : bound n ≤ bound (more + n + 1) = omega arith in
    subst (λ k. bound n ≤ bound k) same here

pub bound_rises : (w : Ways) (bound : ℕ → ℕ) → AreWays w bound → (m n : ℕ) → m ≤ n → bound m ≤ bound n
bound_rises w bound ways m n le = let same : n - m + m ≡ n = omega arith in subst (λ k. bound m ≤ bound k) same (bound_more w bound ways m (n - m))

earlier_small : (o : Option Millis) (bound : ℕ → ℕ) (c n n' : ℕ) → is_earlier o c ≡ true → ((t : Millis) → o ≡ Some t → t.0 ≤ bound n) → n' + one_if o ≡ n + 1 → c ≤ bound (n + 1) → c ≤ bound n'
earlier_small None bound c n n' earlier old sum most = subst (λ k. c ≤ bound k) (omega arith) most
earlier_small (Some t) bound c n n' earlier old sum most = let same : n ≡ n' = omega arith in let below : t.0 ≤ bound n = old t refl in let less : c < t.0 = grind (arith, nat_tests) in subst (λ k. c ≤ bound k) same (omega arith)

is_by_now : (o : Option Millis) (c time : ℕ) → is_by o time ≡ true → is_earlier o c ≡ true → is_by (Some (millis c)) time ≡ true
is_by_now None c time is earlier = cc
is_by_now (Some t) c time is earlier = grind (arith, nat_tests)

-- an earlier head fits the better
fits_head : (tail : Option Millis) (f : ℕ → Option ℕ) (o : Option Millis) (c : ℕ) → is_earlier o c ≡ true → fits tail f o ≡ true → fits tail f (Some (millis c)) ≡ true
fits_head None f o c earlier fit = refl
fits_head (Some t) f o c earlier fit = at (f t.0) fit
  where
    at : (exit : Option ℕ) → fits_at exit o ≡ true → fits_at exit (Some (millis c)) ≡ true
    at None fit = refl
    at (Some y) fit = is_by_now o c y fit earlier

-- where the arrival at the head is not later, it fits over the link
pub kept_fits : (f : ℕ → Option ℕ) (t c : ℕ) (tail head : Option Millis) → tail ≡ Some (millis t) → f t ≡ Some c → is_earlier head c ≡ false → fits tail f head ≡ true
kept_fits f t c tail head at is later = subst (λ o. fits o f head ≡ true) (sym at) (subst (λ o. fits_at o head ≡ true) (sym is) (not_later head later))
  where
    not_later : (o : Option Millis) → is_earlier o c ≡ false → is_by o c ≡ true
    not_later None later = cc
    not_later (Some x) later = grind (arith, nat_tests)

waits_still : (q q' : List Waiting) (x : Waiting) (node : ℕ) (o : Option Millis) → IsPermutation (x ∷ q) q' → IsWaiting q node o → IsWaiting q' node o
waits_still q q' x node None perm is = is
waits_still q q' x node (Some t) perm is = Contains-permutation (x ∷ q) q' (waiting t.0 node) perm (contains_later x (waiting t.0 node) q is)

pub told_millis : {x y : Millis} → Some x ≡ Some y → x ≡ y
told_millis e = cc

-- the tail of the link is not its head where one comes earlier, since who passes the link comes later
apart : (w : Ways) (bound : ℕ → ℕ) (a : List (Option Millis)) (link t c : ℕ) → AreWays w bound → link < w.links → arrival_at a (w.tail link) ≡ Some (millis t) → w.leaves link t ≡ Some c
    → is_earlier (arrival_at a (w.head link)) c ≡ true → w.tail link ≢ w.head link
apart w bound a link t c ways low at is earlier same =
    let later = ways.later link t c low is in
    let less : c < t = falls (arrival_at a (w.tail link)) at (subst (λ n. is_earlier (arrival_at a n) c ≡ true) (sym same) earlier) in
    omega arith
  where
    falls : (o : Option Millis) → o ≡ Some (millis t) → is_earlier o c ≡ true → c < t
    falls None at earlier = cc
    falls (Some x) at earlier = let same : x.0 ≡ t = ap (λ (z : Millis). z.0) (told_millis at) in grind (arith, nat_tests)

pub tail_kept : (w : Ways) (bound : ℕ → ℕ) (a : List (Option Millis)) (link t c : ℕ) → AreWays w bound → link < w.links → arrival_at a (w.tail link) ≡ Some (millis t) → w.leaves link t ≡ Some c
    → is_earlier (arrival_at a (w.head link)) c ≡ true → arrival_at (slice_set a (w.head link) (Some (millis c))) (w.tail link) ≡ Some (millis t)
tail_kept w bound a link t c ways low at is earlier = at_other a (w.head link) (w.tail link) (Some (millis c)) (apart w bound a link t c ways low at is earlier) ∙ at

-- what a search is, and the link over which an arrival comes earlier
pub record Arrives (w : Ways) (bound : ℕ → ℕ) (from start : ℕ) (a : List (Option Millis)) (q q' : List Waiting) (link : ℕ) (left : List ℕ) (t c : ℕ) : Type 0 where
  pub ways : AreWays w bound
  pub low : link < w.links
  pub search : IsSearch w bound from start a q (link ∷ left)
  pub at_tail : arrival_at a (w.tail link) ≡ Some (millis t)
  pub is : w.leaves link t ≡ Some c
  pub earlier : is_earlier (arrival_at a (w.head link)) c ≡ true
  pub put : IsPermutation (waiting c (w.head link) ∷ q) q'

module _ (w : Ways) (bound : ℕ → ℕ) (from start : ℕ) (a : List (Option Millis)) (q q' : List Waiting) (link : ℕ) (left : List ℕ) (t c : ℕ) (h : Arrives w bound from start a q q' link left t c) where
  abbrev u : ℕ
  u = w.head link

  abbrev a' : List (Option Millis)
  a' = slice_set a u (Some (millis c))

  u_low : u < length a
  u_low = subst (λ n. u < n) (sym (h.search).one_for_each) ((h.ways).heads link h.low)

  arrived_begun : is_by (arrival_at a' from) start ≡ true
  arrived_begun = elim (decide from u) [
    | inl same ↦ subst (λ n. is_by (arrival_at a' n) start ≡ true) (sym same) (subst (λ o. is_by o start ≡ true) (sym (at_same a u (Some (millis c)) u_low))
        (is_by_now (arrival_at a u) c start (subst (λ n. is_by (arrival_at a n) start ≡ true) same (h.search).begun) h.earlier))
    | inr other ↦ subst (λ o. is_by o start ≡ true) (sym (at_other a u from (Some (millis c)) other)) (h.search).begun
  ]

  arrived_taken : AreTaken w from start a'
  arrived_taken = λ node time there is. elim (decide node u) [
    | inl same ↦
        let at : Some (millis c) ≡ Some time = sym (at_same a u (Some (millis c)) u_low) ∙ subst (λ n. arrival_at a' n ≡ Some time) same is in
        let value : c ≡ time.0 = ap (λ (z : Millis). z.0) (told_millis at) in
        let rest = (h.search).taken (w.tail link) (millis t) ((h.ways).tails link h.low) h.at_tail in (
          rest.0 ++ link ∷ [],
          subst (λ n. IsRoute w from n (rest.0 ++ link ∷ [])) (sym same) (and_link w rest.0 from (w.tail link) link rest.1 h.low refl),
          and_arrival w rest.0 link start t c rest.2 h.is ∙ ap Some value,
        )
    | inr other ↦ (h.search).taken node time there (sym (at_other a u node (Some (millis c)) other) ∙ is)
  ]

  count : found a' + one_if (arrival_at a u) ≡ found a + 1
  count = found_set a u (millis c) u_low

  c_small : c ≤ bound (found a')
  c_small =
      let tail : t ≤ bound (found a) = (h.search).small (w.tail link) (millis t) h.at_tail in
      earlier_small (arrival_at a u) bound c (found a) (found a') h.earlier (λ old was. (h.search).small u old was) count ((h.ways).within link (found a) t c h.low tail h.is)

  found_grows : bound (found a) ≤ bound (found a')
  found_grows = let one = one_most (arrival_at a u) in let sum = count in bound_rises w bound h.ways (found a) (found a') (omega arith)

  arrived_small : (node : ℕ) (time : Millis) → arrival_at a' node ≡ Some time → time.0 ≤ bound (found a')
  arrived_small = λ node time is. elim (decide node u) [
    | inl same ↦
        let at : Some (millis c) ≡ Some time = sym (at_same a u (Some (millis c)) u_low) ∙ subst (λ n. arrival_at a' n ≡ Some time) same is in
        let value : c ≡ time.0 = ap (λ (z : Millis). z.0) (told_millis at) in
        subst (λ n. n ≤ bound (found a')) value c_small
    | inr other ↦
        let old = (h.search).small node time (sym (at_other a u node (Some (millis c)) other) ∙ is) in
        let more = found_grows in
        omega arith
  ]

  arrived_waits : All (λ (x : Waiting). x.node < w.nodes) q'
  arrived_waits = All-permutation (λ (x : Waiting). x.node < w.nodes) (waiting c u ∷ q) q' h.put (All-cons (λ (x : Waiting). x.node < w.nodes) (waiting c u) q ((h.ways).heads link h.low) (h.search).waits)

  tail_other : w.tail link ≢ u
  tail_other = apart w bound a link t c h.ways h.low h.at_tail h.is h.earlier

  tail_at : (l : ℕ) → w.tail l ≢ u → arrival_at a' (w.tail l) ≡ arrival_at a (w.tail l)
  tail_at l other = at_other a u (w.tail l) (Some (millis c)) other

  fits_still : (l : ℕ) → w.tail l ≢ u → fits_over w a l ≡ true → fits_over w a' l ≡ true
  fits_still l other fit =
      subst (λ o. fits o (w.leaves l) (arrival_at a' (w.head l)) ≡ true) (sym (tail_at l other)) (elim (decide (w.head l) u) [
        | inl same ↦
            subst (λ o. fits (arrival_at a (w.tail l)) (w.leaves l) o ≡ true) (sym (subst (λ n. arrival_at a' n ≡ Some (millis c)) (sym same) (at_same a u (Some (millis c)) u_low)))
            (fits_head (arrival_at a (w.tail l)) (w.leaves l) (arrival_at a (w.head l)) c (subst (λ n. is_earlier (arrival_at a n) c ≡ true) (sym same) h.earlier) fit)
        | inr apart ↦ subst (λ o. fits (arrival_at a (w.tail l)) (w.leaves l) o ≡ true) (sym (at_other a u (w.head l) (Some (millis c)) apart)) fit
      ])

  -- the link itself fits now
  fits_now : fits_over w a' link ≡ true
  fits_now =
      subst (λ o. fits o (w.leaves link) (arrival_at a' u) ≡ true) (sym (tail_at link tail_other ∙ h.at_tail))
      (subst (λ o. fits_at o (arrival_at a' u) ≡ true) (sym h.is)
      (subst (λ o. is_by o c ≡ true) (sym (at_same a u (Some (millis c)) u_low)) (grind (arith, nat_tests))))

  fits_or : (l : ℕ) → l < w.links → w.tail l ≢ u → (fits_over w a l ≡ true) ⊎ (IsWaiting q (w.tail l) (arrival_at a (w.tail l)) ⊎ Contains (link ∷ left) l)
      → (fits_over w a' l ≡ true) ⊎ (IsWaiting q' (w.tail l) (arrival_at a' (w.tail l)) ⊎ Contains left l)
  fits_or l low other (inl fit) = inl (fits_still l other fit)
  fits_or l low other (inr (inl waits)) = inr (inl (subst (λ o. IsWaiting q' (w.tail l) o) (sym (tail_at l other)) (waits_still q q' (waiting c u) (w.tail l) (arrival_at a (w.tail l)) h.put waits)))
  fits_or l low other (inr (inr has)) = elim (contains_cases link l left has) [
    | inl same ↦ inl (subst (λ n. fits_over w a' n ≡ true) same fits_now)
    | inr later ↦ inr (inr later)
  ]

  arrived_fits : (l : ℕ) → l < w.links → (fits_over w a' l ≡ true) ⊎ (IsWaiting q' (w.tail l) (arrival_at a' (w.tail l)) ⊎ Contains left l)
  arrived_fits = λ l low. elim (decide (w.tail l) u) [
    | inl same ↦ inr (inl (subst (λ n. IsWaiting q' n (arrival_at a' n)) (sym same) (subst (λ o. IsWaiting q' u o) (sym (at_same a u (Some (millis c)) u_low))
        (Contains-permutation (waiting c u ∷ q) q' (waiting c u) h.put (contains_first (waiting c u) q)))))
    | inr other ↦ fits_or l low other ((h.search).fits l low)
  ]

  pub arrived : IsSearch w bound from start a' q' left
  arrived = record {
    one_for_each = length-set a u (Some (millis c)) ∙ (h.search).one_for_each;
    begun = arrived_begun;
    taken = arrived_taken;
    small = arrived_small;
    waits = arrived_waits;
    fits = arrived_fits;
  }

pub effort_falls : (last : ℕ) (a : List (Option Millis)) (q q' : List Waiting) (u c : ℕ) → u < length a → c ≤ last → is_earlier (arrival_at a u) c ≡ true → IsPermutation (waiting c u ∷ q) q'
    → effort_of last (slice_set a u (Some (millis c))) q' ≤ effort_of last a q
effort_falls last a q q' u c low small earlier put =
    let heights = height_set last a u (millis c) low in
    let less = earlier_height last (arrival_at a u) c small earlier in
    let long : length q' ≡ length (waiting c u ∷ q) = length_permutation (waiting c u ∷ q) q' put in
    omega arith
