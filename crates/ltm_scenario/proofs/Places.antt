-- The tables of places, and of limits.
use Rattle.std.proofs.Common.{◌≡◌, ◌≢◌, ℕ, ◌-◌, ◌<◌, ◌≤◌, List, [], ◌∷◌, ◌++◌, length, map, take, replicate, get_or, Option, Some, None, refl, sym, ap, ◌∙◌, arith, inl, inr, get_or-set_same, get_or-set_other}
use Rattle.std.proofs.Math.ListN.{set}
use Rattle.std.proofs.lemmas.Bool.{cases_lt, cases_eq}
use Rattle.std.proofs.lemmas.List.{get_or_past, get_or-append_right, get_or_append_left, get_or-replicate, length-replicate, take_all, map-append}
use Rattle.ltm_units.specs.declared.places.NodeId.{NodeId}
use Rattle.ltm_scenario.specs.Reads.{destination_of}
use Rattle.ltm_scenario.proofs.Added.{place_of_new, place_of_other}

abbrev nowhere : Option ℕ
nowhere = None

long_none : (n : ℕ) → length (replicate n nowhere) ≡ n
long_none n = length-replicate n nowhere

-- a table that ends with no places says the same
padded : (xs : List (Option ℕ)) (n i : ℕ) → get_or (xs ++ replicate n None) i None ≡ get_or xs i None
padded xs n i =
    elim (cases_lt i (length xs)) [
      | inl inside ↦ get_or_append_left xs (replicate n None) None i inside
      | inr past ↦
          get_or-append_right xs (replicate n None) (length xs) i None refl past
          ∙ elim (cases_lt (i - length xs) n) as (λ _. get_or (replicate n None) (i - length xs) None ≡ get_or xs i None) [
            | inl short ↦ get_or-replicate n (i - length xs) None None short ∙ sym (get_or_past xs i None past)
            | inr long ↦ get_or_past (replicate n None) (i - length xs) None (omega (arith, long_none n)) ∙ sym (get_or_past xs i None past)
          ]
    ]

pub none_padded : (xs ys : List (Option ℕ)) (count n i : ℕ) → length xs ≤ count → ys ≡ take count xs ++ replicate n None → get_or ys i None ≡ get_or xs i None
none_padded xs ys count n i short is =
    ap (λ t. get_or t i None) (is ∙ ap (λ t. t ++ replicate n None) (take_all count xs short)) ∙ padded xs n i

-- the places once a node was put last
pub put_keeps : (ds : List ℕ) (places : List (Option ℕ)) (node : ℕ) → ((n : ℕ) → get_or places n None ≡ destination_of ds n) → destination_of ds node ≡ None → node < length places → (n : ℕ) → get_or (set places node (Some (length ds))) n None ≡ destination_of (ds ++ node ∷ []) n
put_keeps ds places node kept new inside n =
    elim (cases_eq node n) [
      | inl same ↦ ap (λ i. get_or (set places node (Some (length ds))) i None) (sym same) ∙ get_or-set_same places node (Some (length ds)) None inside ∙ sym (place_of_new ds node new) ∙ ap (destination_of (ds ++ node ∷ [])) same
      | inr apart ↦
          let other : n ≢ node = λ e. apart (sym e) in
          get_or-set_other places node n (Some (length ds)) None other ∙ kept n ∙ sym (place_of_other ds node n apart)
    ]

abbrev pub numbers : List NodeId → List ℕ
numbers nodes = map (λ (node : NodeId). node.0) nodes

pub numbers-push : (nodes more : List NodeId) (node : NodeId) → more ≡ nodes ++ node ∷ [] → numbers more ≡ numbers nodes ++ node.0 ∷ []
numbers-push nodes more node is = ap numbers is ∙ map-append (λ (n : NodeId). n.0) nodes (node ∷ [])
