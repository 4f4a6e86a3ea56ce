-- What a pair of node and destination has once each has its routes.
use Rattle.std.proofs.Common.{◌≡◌, ◌≢◌, inl, inr, ℕ, zero, suc, ◌+◌, ◌<◌, ◌≤◌, ◌==◌, ◌&&◌, ◌||◌, not, Bool, true, false, cond, List, [], ◌∷◌, ◌++◌, length, filter, map, Result, Ok, Err, refl, ap, sym, subst, arith, ◌∙◌, append-nil}
use Rattle.std.specs.Bool.{if◌then◌else◌}
use Rattle.std.specs.List.{list_any, range_with_len}
use Rattle.std.specs.Ordering.{match_ordering}
use Rattle.std.specs.declared.cmp.Ordering.TheVariants.{Less, Equal, Greater}
use Rattle.std.proofs.lemmas.Bool.Decides.{nat_tests}
use Rattle.std.proofs.lemmas.List.Elements.{filter-append}
use Rattle.std.proofs.lemmas.List.FromFn.{get_or-map-range_with_len}
use Rattle.ltm_diagram.specs.InRange.{LimitsInRange}
use Rattle.ltm_splits.specs.declared.keys.SplitFault.{SplitFault}
use Rattle.ltm_splits.specs.Rows.{SplitRow, split_cmp, key_of, is_of, put_in}
use Rattle.ltm_scenario.specs.Data.{ScenarioData}
use Rattle.ltm_scenario.specs.IsScenario.{IsScenario}
use Rattle.ltm_scenario.specs.Reads.{has_split}
use Rattle.ltm_scenario.specs.Build.{with_split, ◌>>=◌}
use Rattle.ltm_routes.specs.Split.{RoutesData, AreAllRoutes, is_routed, route_split, rows_from, rows_to, lists_below, routes_to, no_routes, route_splits, with_splits}
use Rattle.ltm_routes.specs.Least.{routes_of}
use Rattle.ltm_routes.specs.Missing.{is_missing, missing_from, missing_to, missing_splits, all_routes_of, with_routes}
use Rattle.ltm_routes.proofs.Placed.{other_row, all_missing_to, all_missing}
use Rattle.ltm_routes.proofs.Rows.{equal_is, other_differs, none_of, any_in, any_filter, split_taken, put_others, others_stay, lists_none, lists_same}
use Rattle.ltm_routes.proofs.There.{all_there}
use Rattle.ltm_search.proofs.Arriving.{decide}

-- ---- what is not among rows, and one that is put in
filter_none : (p : SplitRow → Bool) (rows : List SplitRow) → list_any p rows ≡ false → filter p rows ≡ []
filter_none p rows none = go (filter p rows) (sym (any_filter p rows) ∙ none)
  where
    go : (xs : List SplitRow) → any_in xs ≡ false → xs ≡ []
    go [] is = refl
    go (x ∷ xs) is = cc

own_key : (n d : ℕ) (w : List ℕ) → is_of n d (key_of n d 0, w) ≡ true
own_key n d w = grind (arith, nat_tests)

put_own : (n d : ℕ) (w : List ℕ) (rows : List SplitRow) → has_split rows n d ≡ false → filter (is_of n d) (put_in rows (key_of n d 0) w) ≡ (key_of n d 0, w) ∷ []
put_own n d w [] none = ap (λ b. cond b ((key_of n d 0, w) ∷ []) []) (own_key n d w)
put_own n d w (x ∷ xs) none =
    let h = none_of (is_of n d x) (has_split xs n d) none in
    (elim (split_cmp (key_of n d 0) x.0) as (λ o. split_cmp (key_of n d 0) x.0 ≡ o → filter (is_of n d) (match_ordering o ((key_of n d 0, w) ∷ x ∷ xs) ((x.0, w) ∷ xs) (x ∷ put_in xs (key_of n d 0) w)) ≡ (key_of n d 0, w) ∷ []) [
      | Less ↦ λ e. ap (λ b. cond b ((key_of n d 0, w) ∷ filter (is_of n d) (x ∷ xs)) (filter (is_of n d) (x ∷ xs))) (own_key n d w) ∙ ap (λ ys. (key_of n d 0, w) ∷ ys) (filter_none (is_of n d) (x ∷ xs) none)
      | Equal ↦ λ e. absurd (equal_is (split_cmp (key_of n d 0) x.0) (other_differs n d x h.0) e)
      | Greater ↦ λ e. ap (λ b. cond b (x ∷ filter (is_of n d) (put_in xs (key_of n d 0) w)) (filter (is_of n d) (put_in xs (key_of n d 0) w))) h.0 ∙ put_own n d w xs h.1
    ]) refl

-- of rows that are set, one that is of a pair without rows is its only one
own_set : (rows : List SplitRow) (s next : ScenarioData) (n d : ℕ) (w : List ℕ) → with_splits s rows ≡ Ok next → has_split s.splits n d ≡ false → filter (is_of n d) rows ≡ (key_of n d 0, w) ∷ []
    → filter (is_of n d) next.splits ≡ (key_of n d 0, w) ∷ []
own_set [] s next n d w set none own = cc
own_set (x ∷ xs) s next n d w set none own = go (with_split s x.0 x.1) refl set (λ m e fresh rest. own_set xs m next n d w e fresh rest)
  where
    taken : (m : ScenarioData) → with_split s x.0 x.1 ≡ Ok m → with_splits m xs ≡ Ok next → ((m : ScenarioData) → with_splits m xs ≡ Ok next → has_split m.splits n d ≡ false → filter (is_of n d) xs ≡ (key_of n d 0, w) ∷ [] → filter (is_of n d) next.splits ≡ (key_of n d 0, w) ∷ []) → (b : Bool) → is_of n d x ≡ b → cond b (x ∷ filter (is_of n d) xs) (filter (is_of n d) xs) ≡ (key_of n d 0, w) ∷ []
        → filter (is_of n d) next.splits ≡ (key_of n d 0, w) ∷ []
    taken m made e later true is own_is =
        let here : x ≡ (key_of n d 0, w) = cc in
        let others : filter (is_of n d) xs ≡ [] = cc in
        others_stay xs m next n d e (any_filter (is_of n d) xs ∙ ap any_in others)
        ∙ ap (λ (z : ScenarioData). filter (is_of n d) z.splits) (split_taken s m x.0 x.1 made).0
        ∙ ap (λ (row : SplitRow). filter (is_of n d) (put_in s.splits row.0 row.1)) here
        ∙ put_own n d w s.splits none
    taken m made e later false is own_is =
        let same : filter (is_of n d) m.splits ≡ filter (is_of n d) s.splits = ap (λ (z : ScenarioData). filter (is_of n d) z.splits) (split_taken s m x.0 x.1 made).0 ∙ put_others n d x.0 x.1 s.splits is in
        later m e (any_filter (is_of n d) m.splits ∙ ap any_in same ∙ sym (any_filter (is_of n d) s.splits) ∙ none) own_is

    go : (r : Result ScenarioData SplitFault) → with_split s x.0 x.1 ≡ r → (r >>= λ (z : ScenarioData). with_splits z xs) ≡ Ok next → ((m : ScenarioData) → with_splits m xs ≡ Ok next → has_split m.splits n d ≡ false → filter (is_of n d) xs ≡ (key_of n d 0, w) ∷ [] → filter (is_of n d) next.splits ≡ (key_of n d 0, w) ∷ []) → filter (is_of n d) next.splits ≡ (key_of n d 0, w) ∷ []
    go (Ok m) made e later = taken m made e later (is_of n d x) refl own
    go (Err fault) made e later = cc

-- ---- the rows of a pair among those that are missing
filter_lists_none : {A : Type 0} (p : A → Bool) (f : ℕ → List A) (m : ℕ) → ((i : ℕ) → i < m → filter p (f i) ≡ []) → filter p (lists_below m f) ≡ []
filter_lists_none p f zero none = refl
filter_lists_none p f (suc m) none =
    filter-append p (lists_below m f) (f m) ∙ ap (λ xs. xs ++ filter p (f m)) (filter_lists_none p f m (λ i low. none i (omega arith))) ∙ none m (omega arith)

filter_lists : {A : Type 0} (p : A → Bool) (f : ℕ → List A) (n m : ℕ) → n < m → ((i : ℕ) → i ≢ n → filter p (f i) ≡ []) → filter p (lists_below m f) ≡ filter p (f n)
filter_lists p f n zero low others = absurd (omega arith)
filter_lists p f n (suc m) low others = elim (decide n m) [
  | inl same ↦
      filter-append p (lists_below m f) (f m)
      ∙ ap (λ xs. xs ++ filter p (f m)) (filter_lists_none p f m (λ i below. others i (λ e. absurd (omega arith))))
      ∙ ap (λ k. filter p (f k)) (sym same)
  | inr other ↦
      filter-append p (lists_below m f) (f m)
      ∙ ap (λ xs. xs ++ filter p (f m)) (filter_lists p f n m (omega arith) others)
      ∙ ap (λ xs. filter p (f n) ++ xs) (others m (λ e. other (sym e)))
      ∙ append-nil (filter p (f n))
]

other_node : (k n d : ℕ) → k ≢ n → ((k == n) && (d == d)) ≡ false
other_node k n d other = grind (arith, nat_tests)

other_destination : (k n d e : ℕ) → d ≢ e → ((k == n) && (d == e)) ≡ false
other_destination k n d e other = grind (arith, nat_tests)

own_row : (s : ScenarioData) (d n : ℕ) (routes : RoutesData) → filter (is_of n d) (missing_from s d routes n) ≡ missing_from s d routes n
own_row s d n routes = elim (is_missing s d routes n) as (λ b. filter (is_of n d) (if b then (key_of n d 0, route_split s routes n) ∷ [] else []) ≡ (if b then (key_of n d 0, route_split s routes n) ∷ [] else [])) [
  | true ↦ ap (λ b. cond b ((key_of n d 0, route_split s routes n) ∷ []) []) (own_key n d (route_split s routes n))
  | false ↦ refl
]

own_missing : (s : ScenarioData) (n d : ℕ) → n < length s.network.nodes → d < length s.destinations → filter (is_of n d) (missing_splits s) ≡ missing_from s d (routes_of s d) n
own_missing s n d low below =
    filter_lists (is_of n d) (λ e. missing_to s e (routes_of s e)) d (length s.destinations) below
    (λ e other. filter_none (is_of n d) (missing_to s e (routes_of s e))
    (lists_none (is_of n d) (missing_from s e (routes_of s e)) (length s.network.nodes) (λ k there. other_row s e k (routes_of s e) n d (other_destination k n e d other))))
    ∙ filter_lists (is_of n d) (missing_from s d (routes_of s d)) n (length s.network.nodes) low
    (λ k other. filter_none (is_of n d) (missing_from s d (routes_of s d) k) (other_row s d k (routes_of s d) n d (other_node k n d other)))
    ∙ own_row s d n (routes_of s d)

lacks : (s : ScenarioData) (d n : ℕ) (routes : RoutesData) → has_split s.splits n d ≡ false → missing_from s d routes n ≡ rows_from s d routes n
lacks s d n routes none = ap (λ b. if not b && is_routed s d routes n then (key_of n d 0, route_split s routes n) ∷ [] else []) none

pub pair_routed : (s next : ScenarioData) (n d : ℕ) → with_routes s ≡ Ok next → n < length s.network.nodes → d < length s.destinations → has_split s.splits n d ≡ false
    → filter (is_of n d) next.splits ≡ rows_from s d (routes_of s d) n
unfolding with_routes
pair_routed s next n d set low below none = go (is_routed s d (routes_of s d) n) (own_missing s n d low below ∙ lacks s d n (routes_of s d) none)
  where
    go : (b : Bool) → filter (is_of n d) (missing_splits s) ≡ (if b then (key_of n d 0, route_split s (routes_of s d) n) ∷ [] else [])
        → filter (is_of n d) next.splits ≡ (if b then (key_of n d 0, route_split s (routes_of s d) n) ∷ [] else [])
    go true own = own_set (missing_splits s) s next n d (route_split s (routes_of s d) n) set none own
    go false own = others_stay (missing_splits s) s next n d set (any_filter (is_of n d) (missing_splits s) ∙ ap any_in own) ∙ filter_none (is_of n d) s.splits none

-- ---- a pair that has rows keeps them
there_none : (s : ScenarioData) (e k : ℕ) (routes : RoutesData) → has_split s.splits k e ≡ true → missing_from s e routes k ≡ []
there_none s e k routes is = ap (λ b. if not b && is_routed s e routes k then (key_of k e 0, route_split s routes k) ∷ [] else []) is

none_there : (s : ScenarioData) (e k : ℕ) (routes : RoutesData) (n d : ℕ) → has_split s.splits n d ≡ true → list_any (is_of n d) (missing_from s e routes k) ≡ false
none_there s e k routes n d is = (elim ((k == n) && (e == d)) as (λ b. ((k == n) && (e == d)) ≡ b → list_any (is_of n d) (missing_from s e routes k) ≡ false) [
  | true ↦ λ same.
      let node : k ≡ n = grind (arith, nat_tests) in
      let end : e ≡ d = grind (arith, nat_tests) in
      ap (list_any (is_of n d)) (there_none s e k routes (ap (λ m. has_split s.splits m e) node ∙ ap (has_split s.splits n) end ∙ is))
  | false ↦ λ other. other_row s e k routes n d other
]) refl

pub pair_stands : (s next : ScenarioData) (n d : ℕ) → with_routes s ≡ Ok next → has_split s.splits n d ≡ true → filter (is_of n d) next.splits ≡ filter (is_of n d) s.splits
unfolding with_routes
pair_stands s next n d set is =
    others_stay (missing_splits s) s next n d set
    (lists_none (is_of n d) (λ e. missing_to s e (routes_of s e)) (length s.destinations)
    (λ e below. lists_none (is_of n d) (missing_from s e (routes_of s e)) (length s.network.nodes) (λ k low. none_there s e k (routes_of s e) n d is)))

-- ---- where no row stands
pub all_are_missing : LimitsInRange → (s : ScenarioData) (all : List RoutesData) → IsScenario s → AreAllRoutes s all → s.splits ≡ [] → with_routes s ≡ with_splits s (route_splits s all)
unfolding with_routes
all_are_missing in_range s all is are none =
    ap (with_splits s) (
    all_missing_to s (routes_of s) (length s.destinations) none
    ∙ lists_same (λ d. rows_to s d (routes_of s d)) (λ d. rows_to s d (routes_to all d)) (length s.destinations)
    (λ d low. ap (rows_to s d) (sym (ap (λ xs. routes_to xs d) (all_there in_range s all is are) ∙ get_or-map-range_with_len (routes_of s) 0 (length s.destinations) d d no_routes low (omega arith))))
    )
