-- A scenario whose nodes have their routes lacks none.
use Rattle.std.proofs.Common.{◌≡◌, ℕ, zero, suc, ◌<◌, ◌&&◌, not, Bool, true, false, List, [], ◌∷◌, ◌++◌, length, filter, Result, Ok, Err, refl, ap, sym, subst, ◌∙◌}
use Rattle.std.specs.Bool.{if◌then◌else◌}
use Rattle.ltm_splits.specs.declared.keys.SplitFault.{SplitFault}
use Rattle.ltm_splits.specs.Rows.{SplitRow, key_of, is_of, put_in}
use Rattle.ltm_scenario.specs.Data.{ScenarioData}
use Rattle.ltm_scenario.specs.Reads.{has_split}
use Rattle.ltm_scenario.specs.Build.{with_split, ◌>>=◌}
use Rattle.ltm_routes.specs.Split.{RoutesData, KeepsRest, is_routed, route_split, lists_below, with_splits}
use Rattle.ltm_routes.specs.Least.{routes_of}
use Rattle.ltm_routes.specs.Missing.{is_missing, missing_from, missing_to, missing_splits, with_routes}
use Rattle.ltm_routes.proofs.Rows.{split_taken, any_in, any_filter, lists_same}
use Rattle.ltm_routes.proofs.Placed.{routes_alike}
use Rattle.ltm_routes.proofs.Pairs.{pair_routed, pair_stands}

rest_kept : (rows : List SplitRow) (s next : ScenarioData) → with_splits s rows ≡ Ok next → KeepsRest s next
rest_kept [] s next set = let same : next ≡ s = cc in same ∙ ap (λ xs. record s { splits = xs }) (ap (λ (z : ScenarioData). z.splits) (sym same))
rest_kept (x ∷ xs) s next set = go (with_split s x.0 x.1) refl set (λ m e. rest_kept xs m next e)
  where
    go : (r : Result ScenarioData SplitFault) → with_split s x.0 x.1 ≡ r → (r >>= λ (z : ScenarioData). with_splits z xs) ≡ Ok next
        → ((m : ScenarioData) → with_splits m xs ≡ Ok next → KeepsRest m next) → KeepsRest s next
    go (Ok m) made e later = later m e ∙ ap (λ (z : ScenarioData). record z { splits = next.splits }) (split_taken s m x.0 x.1 made).0
    go (Err fault) made e later = cc

pub routes_rest : (s next : ScenarioData) → with_routes s ≡ Ok next → KeepsRest s next
unfolding with_routes
routes_rest s next set = rest_kept (missing_splits s) s next set

has_one : (next : ScenarioData) (n d : ℕ) (rows : List SplitRow) → filter (is_of n d) next.splits ≡ rows → has_split next.splits n d ≡ any_in rows
has_one next n d rows is = any_filter (is_of n d) next.splits ∙ ap any_in is

settled_at : (s next : ScenarioData) (d n : ℕ) → with_routes s ≡ Ok next → n < length s.network.nodes → d < length s.destinations → (b : Bool) → has_split s.splits n d ≡ b → is_missing next d (routes_of next d) n ≡ false
settled_at s next d n set low below true there =
    let stands : has_split next.splits n d ≡ true = has_one next n d (filter (is_of n d) s.splits) (pair_stands s next n d set there) ∙ sym (any_filter (is_of n d) s.splits) ∙ there in
    ap (λ b. not b && is_routed next d (routes_of next d) n) stands
settled_at s next d n set low below false none = go (is_routed s d (routes_of s d) n) refl (pair_routed s next n d set low below none)
  where
    alike : routes_of next d ≡ routes_of s d
    alike = sym (routes_alike s next d (routes_rest s next set))

    go : (b : Bool) → is_routed s d (routes_of s d) n ≡ b → filter (is_of n d) next.splits ≡ (if b then (key_of n d 0, route_split s (routes_of s d) n) ∷ [] else []) → is_missing next d (routes_of next d) n ≡ false
    go true is own = ap (λ b. not b && is_routed next d (routes_of next d) n) (has_one next n d _ own)
    go false is own =
        let still : is_routed next d (routes_of next d) n ≡ false =
        ap (λ r. is_routed next d r n) alike ∙ ap (λ (z : ScenarioData). is_routed z d (routes_of s d) n) (routes_rest s next set) ∙ is in
        ap (λ b. not b && is_routed next d (routes_of next d) n) (has_one next n d [] own) ∙ still

lists_empty : {A : Type 0} (f : ℕ → List A) (n : ℕ) → ((i : ℕ) → i < n → f i ≡ []) → lists_below n f ≡ []
lists_empty {A = A} f n none = lists_same f (λ _. []) n none ∙ empty n
  where
    empty : (m : ℕ) → ◌≡◌ {A = List A} (lists_below m (λ _. [])) []
    empty zero = refl
    empty (suc m) = ap (λ xs. xs ++ []) (empty m)

at_none : (s next : ScenarioData) → with_routes s ≡ Ok next → (d n : ℕ) → n < length next.network.nodes → d < length next.destinations → missing_from next d (routes_of next d) n ≡ []
at_none s next set d n low below =
    let rest : KeepsRest s next = routes_rest s next set in
    ap (λ b. if b then (key_of n d 0, route_split next (routes_of next d) n) ∷ [] else [])
    (settled_at s next d n set (subst (λ (z : ScenarioData). n < length z.network.nodes) rest low) (subst (λ (z : ScenarioData). d < length z.destinations) rest below) (has_split s.splits n d) refl)

none_missing : (s next : ScenarioData) → with_routes s ≡ Ok next → missing_splits next ≡ []
none_missing s next set =
    lists_empty (λ d. missing_to next d (routes_of next d)) (length next.destinations)
    (λ d below. lists_empty (missing_from next d (routes_of next d)) (length next.network.nodes) (λ n low. at_none s next set d n low below))

pub routes_settle : (s next : ScenarioData) → with_routes s ≡ Ok next → with_routes next ≡ Ok next
unfolding with_routes
routes_settle s next set = ap (with_splits next) (none_missing s next set)
