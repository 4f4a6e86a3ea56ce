-- The row in force is one of the rows.
use Rattle.std.proofs.Common.{◌≡◌, ℕ, Bool, true, false, cond, ◌&&◌, List, [], ◌∷◌, length, Option, Some, None, ◌∙◌, ap, refl, nat_le}
use Rattle.std.specs.Prelude.{All, IfSome, filter}
use Rattle.std.specs.List.{AllByRecursion, last_or}
use Rattle.std.specs.Option.{option_map}
use Rattle.std.proofs.lemmas.List.Elements.{recursion_from_All}
use Rattle.std.proofs.Common.{arith}
use Rattle.std.proofs.lemmas.Bool.Decides.{nat_tests}
use Rattle.ltm_network.specs.Network.{out_links}
use Rattle.ltm_splits.specs.Rows.{SplitRow, is_of, rows_begun, row_in_force}
use Rattle.ltm_scenario.specs.Data.{ScenarioData}
use Rattle.ltm_scenario.specs.IsScenario.{IsSplitOf}

last_holds : (P : SplitRow → Type 0) (o : Option SplitRow) (xs : List SplitRow) → IfSome o P → AllByRecursion P xs → IfSome (last_or o xs) P
last_holds P o [] h all = h
last_holds P o (x ∷ xs) h all = last_holds P (Some x) xs all.0 all.1

filter_holds : (P Q : SplitRow → Type 0) (p : SplitRow → Bool) → ((row : SplitRow) → P row → p row ≡ true → Q row) → (xs : List SplitRow) → AllByRecursion P xs → AllByRecursion Q (filter p xs)
filter_holds P Q p f [] all = tt
filter_holds P Q p f (x ∷ xs) all =
    elim (p x) as (λ b. p x ≡ b → AllByRecursion Q (cond b (x ∷ filter p xs) (filter p xs))) [
      | true ↦ λ is. (f x all.0 is, filter_holds P Q p f xs all.1)
      | false ↦ λ is. filter_holds P Q p f xs all.1
    ] refl

kept : (W : List ℕ → Type 0) (o : Option SplitRow) → IfSome o (λ row. W row.1) → IfSome (option_map (λ row. row.1) o) W
kept W None h = tt
kept W (Some row) h = h

-- what the weights of each row of the pair are, the weights in force are
pub in_force : (P : SplitRow → Type 0) (W : List ℕ → Type 0) (rows : List SplitRow) (n d t : ℕ) → ((row : SplitRow) → P row → (is_of n d row && nat_le row.0.from t) ≡ true → W row.1) → All P rows → IfSome (row_in_force rows n d t) W
in_force P W rows n d t f all =
    kept W (last_or None (rows_begun rows n d t))
    (last_holds (λ row. W row.1) None (rows_begun rows n d t) tt
    (filter_holds P (λ row. W row.1) (λ row. is_of n d row && nat_le row.0.from t) f rows (recursion_from_All P rows all)))

of_pair : (s : ScenarioData) (n d t : ℕ) (row : SplitRow) → IsSplitOf s row → (is_of n d row && nat_le row.0.from t) ≡ true → length row.1 ≡ length (out_links s.network n)
of_pair s n d t row one is = let node : row.0.node.0 ≡ n = grind (arith, nat_tests) in one.weight_for_each ∙ ap (λ u. length (out_links s.network u)) node

-- it has a weight for each out-link
pub weight_for_each : (s : ScenarioData) (n d t : ℕ) → All (IsSplitOf s) s.splits → IfSome (row_in_force s.splits n d t) (λ w. length w ≡ length (out_links s.network n))
weight_for_each s n d t all = in_force (IsSplitOf s) (λ w. length w ≡ length (out_links s.network n)) s.splits n d t (of_pair s n d t) all
