-- Over a longer horizon the reaches of an edit hold the same pairs of the slots before.
use Rattle.std.proofs.Common.{◌≡◌, ℕ, ◌<◌, ◌≤◌, ◌==◌, ◌&&◌, ◌||◌, nat_lt, nat_le, min, [], ◌∷◌, ◌++◌, false, Some, None, Option, arith, inl, inr, refl, sym, ap, ◌∙◌}
use Rattle.std.specs.Option.{option_map_or}
use Rattle.std.proofs.lemmas.Bool.{cases_lt, lt-ltb, le-ltb}
use Rattle.ltm_network.specs.Network.{NetworkData, find_node, find_link, tail_of, head_of}
use Rattle.ltm_scenario.specs.declared.edit.Edit.{Edit}
use Rattle.ltm_scenario.specs.declared.edit.Edit.TheVariants.{Demand, Limit, Split, Splits, Diagram, Exit, Horizon}
use Rattle.ltm_pairs.specs.Reaches.{reach, lies_in_one}
use Rattle.ltm_pairs.specs.Touched.{touched_in}

-- a slot before two ends is before both
ends_alike : (t a b : ℕ) → t < a → t < b → nat_lt t a ≡ nat_lt t b
ends_alike t a b ha hb = lt-ltb t a ha ∙ sym (lt-ltb t b hb)

cut_alike : (t to a b : ℕ) → t < a → t < b → nat_lt t (min to a) ≡ nat_lt t (min to b)
cut_alike t to a b ha hb = elim (cases_lt t to) [
  | inl before ↦ ends_alike t (min to a) (min to b) (omega arith) (omega arith)
  | inr past ↦ le-ltb t (min to a) (omega arith) ∙ sym (le-ltb t (min to b) (omega arith))
]

-- a reach of a name that is found, up to either end
at_alike : (at : ℕ → ℕ) (o : Option ℕ) (from a b u t : ℕ) → nat_lt t a ≡ nat_lt t b →
    lies_in_one (option_map_or (λ n. reach (at n) from a ∷ []) o []) u t ≡ lies_in_one (option_map_or (λ n. reach (at n) from b ∷ []) o []) u t
at_alike at None from a b u t e = refl
at_alike at (Some n) from a b u t e = ap (λ x. ((at n == u) && (nat_le from t && x)) || false) e

both_alike : (tail head : ℕ → ℕ) (o : Option ℕ) (from a b u t : ℕ) → nat_lt t a ≡ nat_lt t b →
    lies_in_one (option_map_or (λ l. reach (tail l) from a ∷ []) o [] ++ option_map_or (λ l. reach (head l) from a ∷ []) o []) u t
    ≡ lies_in_one (option_map_or (λ l. reach (tail l) from b ∷ []) o [] ++ option_map_or (λ l. reach (head l) from b ∷ []) o []) u t
both_alike tail head None from a b u t e = refl
both_alike tail head (Some l) from a b u t e =
    ap (λ x. ((tail l == u) && (nat_le from t && x)) || (((head l == u) && (nat_le from t && x)) || false)) e

pub longer_reaches : (network : NetworkData) (slots more : ℕ) (edit : Edit) (u t : ℕ) → t < slots → slots ≤ more → lies_in_one (touched_in network more edit) u t ≡ lies_in_one (touched_in network slots edit) u t
longer_reaches network slots more (Demand origin destination from to amount) u t before longer =
    at_alike (λ n. n) (find_node network origin) from more slots u t (ends_alike t more slots (omega arith) before)
longer_reaches network slots more (Limit link from to amount) u t before longer =
    at_alike (tail_of network) (find_link network link) from (min to more) (min to slots) u t (cut_alike t to more slots (omega arith) before)
longer_reaches network slots more (Split node destination from weights) u t before longer =
    at_alike (λ n. n) (find_node network node) from more slots u t (ends_alike t more slots (omega arith) before)
longer_reaches network slots more (Splits node destination rows) u t before longer =
    at_alike (λ n. n) (find_node network node) 0 more slots u t (ends_alike t more slots (omega arith) before)
longer_reaches network slots more (Diagram link diagram) u t before longer =
    both_alike (tail_of network) (head_of network) (find_link network link) 0 more slots u t (ends_alike t more slots (omega arith) before)
longer_reaches network slots more (Exit link from to amount) u t before longer =
    at_alike (head_of network) (find_link network link) from (min to more) (min to slots) u t (cut_alike t to more slots (omega arith) before)
longer_reaches network slots more (Horizon horizon) u t before longer = refl
