-- The lines of rows, list by list, and the names of links, link by link.
use Rattle.std.proofs.Common.{ℕ, ◌≡◌, ◌+◌, ◌==◌, true, false, List, [], ◌∷◌, ◌++◌, map, refl, ap, subst, sym, ◌∙◌, append_assoc}
use Rattle.std.specs.Prelude.{All, if◌then◌else◌}
use Rattle.std.specs.List.{flat_map}
use Rattle.std.proofs.lemmas.List.Concat.{flat_map-append}
use Rattle.std.proofs.lemmas.List.Elements.{All-append}
use Rattle.ltm_units.specs.declared.places.LinkId.{LinkId}
use Rattle.ltm_network.specs.Network.{NetworkData, link_name}
use Rattle.ltm_splits.specs.Rows.{SplitRow}
use Rattle.ltm_scenario.specs.Data.{ScenarioData}
use Rattle.ltm_routes.specs.Split.{RoutesData, begins_at, weight_of, lists_below, rows_to, routes_to}
use Rattle.ltm_routes.proofs.Rows.{lists_more}
use Rattle.ltm_routes_command.specs.declared.lines.RouteLines.{RouteLines}
use Rattle.ltm_routes_command.specs.Lines.{sent_over, lines_to}

pub walk_more : {A : Type 0} (f : A → List ℕ) (list : ℕ → List A) (n : ℕ) → flat_map f (lists_below (n + 1) list) ≡ flat_map f (lists_below n list) ++ flat_map f (list n)
walk_more f list n = ap (flat_map f) (lists_more list n) ∙ flat_map-append f (lists_below n list) (list n)

pub all_more : {A : Type 0} (P : A → Type 0) (list : ℕ → List A) (n : ℕ) → All P (lists_below n list) → All P (list n) → All P (lists_below (n + 1) list)
all_more P list n before here = subst (All P) (sym (lists_more list n)) (All-append P (lists_below n list) (list n) before here)

-- one list more at the end of a text
pub lines_added : {A : Type 0} (f : A → List ℕ) (list : ℕ → List A) (n : ℕ) (head old new : List ℕ) → old ≡ head ++ flat_map f (lists_below n list) → new ≡ old ++ flat_map f (list n) → new ≡ head ++ flat_map f (lists_below (n + 1) list)
lines_added f list n head old new before here =
    here ∙ ap (λ t. t ++ flat_map f (list n)) before ∙ append_assoc head (flat_map f (lists_below n list)) (flat_map f (list n)) ∙ ap (λ t. head ++ t) (sym (walk_more f list n))

-- the lines of a destination more
pub text_added : (which : RouteLines) (s : ScenarioData) (all : List RoutesData) (d : ℕ) (routes : RoutesData) (head old new : List ℕ) → routes_to all d ≡ routes
    → old ≡ head ++ lists_below d (λ e. lines_to which s (routes_to all e) e) → new ≡ old ++ lines_to which s routes d → new ≡ head ++ lists_below (d + 1) (λ e. lines_to which s (routes_to all e) e)
text_added which s all d routes head old new same before here =
    let list : ℕ → List ℕ = λ e. lines_to which s (routes_to all e) e in
    here ∙ ap (λ t. t ++ lines_to which s routes d) before ∙ ap (λ r. (head ++ lists_below d list) ++ lines_to which s r d) (sym same)
    ∙ append_assoc head (lists_below d list) (list d) ∙ ap (λ t. head ++ t) (sym (lists_more list d))

pub rows_named : (s : ScenarioData) (all : List RoutesData) (d : ℕ) (routes : RoutesData) (P : SplitRow → Type 0) → routes_to all d ≡ routes
    → All P (lists_below d (λ e. rows_to s e (routes_to all e))) → All P (rows_to s d routes) → All P (lists_below (d + 1) (λ e. rows_to s e (routes_to all e)))
rows_named s all d routes P same before here = all_more P (λ e. rows_to s e (routes_to all e)) d before (subst (λ r. All P (rows_to s d r)) (sym same) here)

-- the names of the links with which routes begin
abbrev pub begun : NetworkData → RoutesData → List LinkId → List (List ℕ)
begun d routes links = flat_map (λ (link : LinkId). if begins_at routes link.0 then link_name d link.0 ∷ [] else []) links

-- they are those of the links with weight 1
pub gathered : (d : NetworkData) (routes : RoutesData) (links : List LinkId)
    → begun d routes links ≡ map (link_name d) (sent_over (map (λ (link : LinkId). link.0) links) (map (weight_of routes) (map (λ (link : LinkId). link.0) links)))
gathered d routes [] = refl
gathered d routes (link ∷ links) =
    let more = gathered d routes links in
    let numbers : List ℕ = map (λ (l : LinkId). l.0) links in
    let sent : List ℕ = sent_over numbers (map (weight_of routes) numbers) in
    elim (begins_at routes link.0) as (λ b. (if b then link_name d link.0 ∷ [] else []) ++ begun d routes links ≡ map (link_name d) (if (if b then 1 else 0) == 1 then link.0 ∷ sent else sent)) [
      | true ↦ ap (λ names. link_name d link.0 ∷ names) more
      | false ↦ more
    ]
