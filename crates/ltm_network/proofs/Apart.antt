-- Names that stand apart, and what naming one more keeps.
use Rattle.std.proofs.Common.{◌≡◌, ℕ, suc, ◌+◌, ◌<◌, ◌≤◌, Bool, true, false, cond, List, [], ◌∷◌, ◌++◌, length, get_or, is_some, unwrap_or, Contains, IsNone, ◌↔◌, Option, Some, None, refl, sym, ap, subst, ◌∙◌, arith, length-append, inl, inr}
use Rattle.std.specs.List.{position_from}
use Rattle.std.specs.Option.{option_map}
use Rattle.std.proofs.Math.ListN.{get_or-append}
use Rattle.std.proofs.Math.Seq.{get_or-append_seam}
use Rattle.std.proofs.lemmas.List.{get_or-map, length-map}
use Rattle.std.proofs.lemmas.Bool.{cases_lt}
use Rattle.ltm_network.specs.Names.{same, place_of, with_name, number_of, AreApart}
use Rattle.ltm_network.specs.Network.{Link, NetworkData, no_link, link_names, link_name}
use Rattle.ltm_network.specs.IsNetwork.{NamesAreFound}
use Rattle.ltm_network.proofs.Finding.{same_exact, same_itself, none_stands}

-- what is found passes, and stands in the list
pub position_here : {A : Type 0} (p : A → Bool) (k : ℕ) (xs : List A) (d : A) (m : ℕ) → position_from p k xs ≡ Some m → (i : ℕ) × ((m ≡ k + i) × (i < length xs) × (p (get_or xs i d) ≡ true))
position_here p k [] d m is = cc
position_here p k (x ∷ xs) d m is =
    elim (p x) as (λ b. p x ≡ b → cond b (Some k) (position_from p (k + 1) xs) ≡ Some m → (i : ℕ) × ((m ≡ k + i) × (i < length (x ∷ xs)) × (p (get_or (x ∷ xs) i d) ≡ true))) [
      | true ↦ λ yes e. let at : k ≡ m = cc in (0, (omega arith, omega arith, yes))
      | false ↦ λ apart e. let later = position_here p (k + 1) xs d m e in (suc later.0, (omega (arith, later.1.0), omega (arith, later.1.1), later.1.2))
    ] refl is

pub position_kept : {A : Type 0} (p : A → Bool) (k : ℕ) (xs ys : List A) (n : ℕ) → position_from p k xs ≡ Some n → position_from p k (xs ++ ys) ≡ Some n
position_kept p k [] ys n is = cc
position_kept p k (x ∷ xs) ys n is =
    elim (p x) as (λ b. cond b (Some k) (position_from p (k + 1) xs) ≡ Some n → cond b (Some k) (position_from p (k + 1) (xs ++ ys)) ≡ Some n) [
      | true ↦ λ e. e
      | false ↦ λ e. position_kept p (k + 1) xs ys n e
    ] is

pub position_last : {A : Type 0} (p : A → Bool) (k : ℕ) (xs : List A) (x : A) → position_from p k xs ≡ None → p x ≡ true → position_from p k (xs ++ x ∷ []) ≡ Some (k + length xs)
position_last p k [] x none is = ap (λ b. cond b (Some k) None) is ∙ ap Some (omega arith)
position_last p k (y ∷ ys) x none is =
    elim (p y) as (λ b. cond b (Some k) (position_from p (k + 1) ys) ≡ None → cond b (Some k) (position_from p (k + 1) (ys ++ x ∷ [])) ≡ Some (k + length (y ∷ ys))) [
      | true ↦ λ e. cc
      | false ↦ λ e. position_last p (k + 1) ys x e is ∙ ap Some (omega arith)
    ] none

pub position_still_none : {A : Type 0} (p : A → Bool) (k : ℕ) (xs : List A) (x : A) → position_from p k xs ≡ None → p x ≡ false → position_from p k (xs ++ x ∷ []) ≡ None
position_still_none p k [] x none apart = ap (λ b. cond b (Some k) None) apart
position_still_none p k (y ∷ ys) x none apart =
    elim (p y) as (λ b. cond b (Some k) (position_from p (k + 1) ys) ≡ None → cond b (Some k) (position_from p (k + 1) (ys ++ x ∷ [])) ≡ None) [
      | true ↦ λ e. cc
      | false ↦ λ e. position_still_none p (k + 1) ys x e apart
    ] none

-- a name that stands at a place
named_there_or : (names : List (List ℕ)) (name d : List ℕ) (n : ℕ) → place_of names name ≡ Some n → (n < length names) × (get_or names n d ≡ name)
named_there_or names name d n is =
    let here = position_here (same name) 0 names d n is in
    let at : here.0 ≡ n = omega (arith, here.1.0) in
    (omega (arith, here.1.1), ap (λ k. get_or names k d) (sym at) ∙ sym (same_exact _ _ here.1.2))

pub named_there : (names : List (List ℕ)) (name : List ℕ) (n : ℕ) → place_of names name ≡ Some n → (n < length names) × (get_or names n [] ≡ name)
named_there names name n is = named_there_or names name [] n is

-- nothing is found exactly where the name does not stand
pub none_found : {A : Type 0} (number : A → ℕ) (o : Option A) (names : List (List ℕ)) (name : List ℕ) → option_map number o ≡ place_of names name → IsNone o ↔ (Contains names name → ⊥)
none_found number (Some x) names name is =
    let there = named_there_or names name name (number x) (sym is) in
    (λ none. cc, λ absent. absurd (absent (number x, there.0, there.1)))
none_found number None names name is = (
  λ none has.
      let apart : same name (get_or names has.0 name) ≡ false = none_stands (same name) 0 names name (sym is) has.0 has.1 in
      let here : same name (get_or names has.0 name) ≡ true = subst (λ x. same name x ≡ true) (sym has.2) (same_itself name) in
      let bad : true ≡ false = sym here ∙ apart in cc,
  λ absent. refl,
)

-- one more name, by whether it stood already
apart_by : (names : List (List ℕ)) (name : List ℕ) (o : Option ℕ) → place_of names name ≡ o → AreApart names → AreApart (cond (is_some o) names (names ++ name ∷ []))
apart_by names name (Some n) is apart = apart
apart_by names name None is apart = λ place less.
    elim (cases_lt place (length names)) [
      | inl before ↦
          ap (place_of (names ++ name ∷ [])) (get_or-append names (name ∷ []) [] place before)
          ∙ position_kept (same (get_or names place [])) 0 names (name ∷ []) place (apart place before)
      | inr last ↦
          let e : place ≡ length names = omega (arith, length-append names (name ∷ [])) in
          subst (λ k. place_of (names ++ name ∷ []) (get_or (names ++ name ∷ []) k []) ≡ Some k) (sym e)
          (ap (place_of (names ++ name ∷ [])) (get_or-append_seam names name [] []) ∙ position_last (same name) 0 names name is (same_itself name) ∙ ap Some (omega arith))
    ]

pub apart_named : (names : List (List ℕ)) (name : List ℕ) → AreApart names → AreApart (with_name names name)
apart_named names name apart = apart_by names name (place_of names name) refl apart

pub apart_pushed : (names : List (List ℕ)) (name : List ℕ) → place_of names name ≡ None → AreApart names → AreApart (names ++ name ∷ [])
apart_pushed names name is apart = apart_by names name None is apart

inside_by : (names : List (List ℕ)) (name : List ℕ) (o : Option ℕ) → place_of names name ≡ o → unwrap_or o (length names) < length (cond (is_some o) names (names ++ name ∷ []))
inside_by names name (Some n) is = (named_there names name n is).0
inside_by names name None is = omega (arith, length-append names (name ∷ []))

-- the number of a name is inside once it is named
pub number_inside : (names : List (List ℕ)) (name : List ℕ) → number_of names name < length (with_name names name)
number_inside names name = inside_by names name (place_of names name) refl

at_by : (names : List (List ℕ)) (name : List ℕ) (o : Option ℕ) → place_of names name ≡ o → get_or (cond (is_some o) names (names ++ name ∷ [])) (unwrap_or o (length names)) [] ≡ name
at_by names name (Some n) is = (named_there names name n is).1
at_by names name None is = get_or-append_seam names name [] []

-- the name stands there
pub named_at : (names : List (List ℕ)) (name : List ℕ) → get_or (with_name names name) (number_of names name) [] ≡ name
named_at names name = at_by names name (place_of names name) refl

kept_by : (names : List (List ℕ)) (name : List ℕ) (b : Bool) (i : ℕ) → i < length names → get_or (cond b names (names ++ name ∷ [])) i [] ≡ get_or names i []
kept_by names name true i less = refl
kept_by names name false i less = get_or-append names (name ∷ []) [] i less

-- the names before stay where they are
pub named_kept : (names : List (List ℕ)) (name : List ℕ) (i : ℕ) → i < length names → get_or (with_name names name) i [] ≡ get_or names i []
named_kept names name i less = kept_by names name (is_some (place_of names name)) i less

long_by : (names : List (List ℕ)) (name : List ℕ) (b : Bool) → (length names ≤ length (cond b names (names ++ name ∷ []))) × (length (cond b names (names ++ name ∷ [])) ≤ length names + 1)
long_by names name true = (omega arith, omega arith)
long_by names name false = (omega (arith, length-append names (name ∷ [])), omega (arith, length-append names (name ∷ [])))

pub length-named : (names : List (List ℕ)) (name : List ℕ) → (length names ≤ length (with_name names name)) × (length (with_name names name) ≤ length names + 1)
length-named names name = long_by names name (is_some (place_of names name))

found_by : (names : List (List ℕ)) (other name : List ℕ) (b : Bool) (n : ℕ) → place_of names name ≡ Some n → place_of (cond b names (names ++ other ∷ [])) name ≡ Some n
found_by names other name true n is = is
found_by names other name false n is = position_kept (same name) 0 names (other ∷ []) n is

-- a name that stood is found where it was
pub found_still : (names : List (List ℕ)) (other name : List ℕ) (n : ℕ) → place_of names name ≡ Some n → place_of (with_name names other) name ≡ Some n
found_still names other name n is = found_by names other name (is_some (place_of names other)) n is

none_by : (names : List (List ℕ)) (other name : List ℕ) (b : Bool) → place_of names name ≡ None → same name other ≡ false → place_of (cond b names (names ++ other ∷ [])) name ≡ None
none_by names other name true none apart = none
none_by names other name false none apart = position_still_none (same name) 0 names other none apart

-- a name that did not stand does not, after another one
pub none_still : (names : List (List ℕ)) (other name : List ℕ) → place_of names name ≡ None → same name other ≡ false → place_of (with_name names other) name ≡ None
none_still names other name none apart = none_by names other name (is_some (place_of names other)) none apart

pub link_at : (d : NetworkData) (link : ℕ) → link < length d.links → get_or (link_names d) link [] ≡ link_name d link
link_at d link less = get_or-map (λ (l : Link). l.name) d.links link no_link [] less

pub length-link_names : (d : NetworkData) → length (link_names d) ≡ length d.links
length-link_names d = length-map d.links (λ (l : Link). l.name)

pub names_found : NamesAreFound
names_found = record {
  link_found = λ d link net less.
      ap (place_of (link_names d)) (sym (link_at d link less)) ∙ net.links_apart link (omega (arith, length-link_names d));
  link_named = λ d name link is.
      let there = named_there (link_names d) name link is in
      let less : link < length d.links = omega (arith, there.0, length-link_names d) in
      (less, sym (link_at d link less) ∙ there.1);
  node_found = λ d node net less. net.nodes_apart node less;
  node_named = λ d name node is. named_there d.nodes name node is;
}
