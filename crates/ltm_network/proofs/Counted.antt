-- The numbers of the elements that pass a test, and the place of each.
use Rattle.std.proofs.Common.{◌≡◌, ℕ, suc, zero, ◌+◌, ◌<◌, ◌≤◌, ◌==◌, Bool, true, false, cond, List, [], ◌∷◌, ◌++◌, length, take, get_or, refl, ap, subst, ◌∙◌, arith}
use Rattle.std.proofs.lemmas.Bool.Decides.{nat_tests}
use Rattle.ltm_network.specs.Numbers.{numbers_of}
use Rattle.ltm_network.specs.Network.{Link, NetworkData, no_link, leaves, enters, out_links, in_links}
use Rattle.ltm_network.specs.IsNetwork.{IsNetwork}
use Rattle.ltm_network.specs.Places.{HasPlaces}

numbers_of-push : {A : Type 0} (p : A → Bool) (k : ℕ) (xs : List A) (x : A) → numbers_of p k (xs ++ x ∷ []) ≡ numbers_of p k xs ++ cond (p x) ((k + length xs) ∷ []) []
numbers_of-push p k [] x = ap (λ n. cond (p x) (n ∷ []) []) (let e : k ≡ k + 0 = omega arith in e)
numbers_of-push p k (y ∷ ys) x =
    let later : (k + 1) + length ys ≡ k + length (y ∷ ys) = omega arith in
    let more : numbers_of p (k + 1) (ys ++ x ∷ []) ≡ numbers_of p (k + 1) ys ++ cond (p x) ((k + length (y ∷ ys)) ∷ []) [] = numbers_of-push p (k + 1) ys x ∙ ap (λ n. numbers_of p (k + 1) ys ++ cond (p x) (n ∷ []) []) later in
    elim (p y) as (λ b. cond b (k ∷ numbers_of p (k + 1) (ys ++ x ∷ [])) (numbers_of p (k + 1) (ys ++ x ∷ [])) ≡ cond b (k ∷ numbers_of p (k + 1) ys) (numbers_of p (k + 1) ys) ++ cond (p x) ((k + length (y ∷ ys)) ∷ []) []) [
      | true ↦ ap (λ t. k ∷ t) more
      | false ↦ more
    ]

no_more : (xs : List ℕ) → xs ++ [] ≡ xs
no_more [] = refl
no_more (x ∷ xs) = ap (λ t. x ∷ t) (no_more xs)

pub passes : {A : Type 0} (p : A → Bool) (xs : List A) (x : A) (n : ℕ) → p x ≡ true → n ≡ length xs → numbers_of p 0 (xs ++ x ∷ []) ≡ numbers_of p 0 xs ++ n ∷ []
passes p xs x n is e = numbers_of-push p 0 xs x ∙ ap (λ b. numbers_of p 0 xs ++ cond b ((0 + length xs) ∷ []) []) is ∙ ap (λ m. numbers_of p 0 xs ++ m ∷ []) (omega (arith, e))

pub fails : {A : Type 0} (p : A → Bool) (xs : List A) (x : A) → p x ≡ false → numbers_of p 0 (xs ++ x ∷ []) ≡ numbers_of p 0 xs
fails p xs x is = numbers_of-push p 0 xs x ∙ ap (λ b. numbers_of p 0 xs ++ cond b ((0 + length xs) ∷ []) []) is ∙ no_more _

one_less : (j n : ℕ) → suc j < suc n → j < n
one_less j n h = omega arith

-- an element that passes stands at the place that as many before it give
pub at_place : {A : Type 0} (p : A → Bool) (k : ℕ) (xs : List A) (d : A) (i : ℕ) → i < length xs → p (get_or xs i d) ≡ true →
    (length (numbers_of p k (take i xs)) < length (numbers_of p k xs)) × (get_or (numbers_of p k xs) (length (numbers_of p k (take i xs))) 0 ≡ k + i)
at_place p k [] d i less is = absurd (omega arith)
at_place p k (x ∷ xs) d zero less is =
    let here : numbers_of p k (x ∷ xs) ≡ k ∷ numbers_of p (k + 1) xs = ap (λ b. cond b (k ∷ numbers_of p (k + 1) xs) (numbers_of p (k + 1) xs)) is in
    (omega (arith, ap length here), ap (λ ns. get_or ns 0 0) here ∙ omega arith)
at_place p k (x ∷ xs) d (suc i) less is =
    let later = at_place p (k + 1) xs d i (one_less _ _ less) is in
    elim (p x) as (λ b. (length (cond b (k ∷ numbers_of p (k + 1) (take i xs)) (numbers_of p (k + 1) (take i xs))) < length (cond b (k ∷ numbers_of p (k + 1) xs) (numbers_of p (k + 1) xs)))
    × (get_or (cond b (k ∷ numbers_of p (k + 1) xs) (numbers_of p (k + 1) xs)) (length (cond b (k ∷ numbers_of p (k + 1) (take i xs)) (numbers_of p (k + 1) (take i xs)))) 0 ≡ k + suc i)) [
      | true ↦ (omega (arith, later.0), later.1 ∙ omega arith)
      | false ↦ (later.0, later.1 ∙ omega arith)
    ]

-- at a place stands an element that passes, and as many before it
pub from_place : {A : Type 0} (p : A → Bool) (k : ℕ) (xs : List A) (d : A) (j : ℕ) → j < length (numbers_of p k xs) →
    (i : ℕ) × ((get_or (numbers_of p k xs) j 0 ≡ k + i) × (i < length xs) × (p (get_or xs i d) ≡ true) × (length (numbers_of p k (take i xs)) ≡ j))
from_place p k [] d j less = absurd (omega arith)
from_place p k (x ∷ xs) d zero less =
    elim (p x) as (λ b. p x ≡ b → zero < length (cond b (k ∷ numbers_of p (k + 1) xs) (numbers_of p (k + 1) xs)) →
    (i : ℕ) × ((get_or (cond b (k ∷ numbers_of p (k + 1) xs) (numbers_of p (k + 1) xs)) zero 0 ≡ k + i) × (i < length (x ∷ xs)) × (p (get_or (x ∷ xs) i d) ≡ true) × (length (numbers_of p k (take i (x ∷ xs))) ≡ zero))) [
      | true ↦ λ yes h. (0, (omega arith, omega arith, yes, refl))
      | false ↦ λ apart h.
          let later = from_place p (k + 1) xs d zero h in (
            suc later.0,
            (
              later.1.0 ∙ omega arith,
              omega (arith, later.1.1),
              later.1.2,
              ap (λ b. length (cond b (k ∷ numbers_of p (k + 1) (take later.0 xs)) (numbers_of p (k + 1) (take later.0 xs)))) apart ∙ later.1.3,
            ),
          )
    ] refl less
from_place p k (x ∷ xs) d (suc j) less =
    elim (p x) as (λ b. p x ≡ b → suc j < length (cond b (k ∷ numbers_of p (k + 1) xs) (numbers_of p (k + 1) xs)) →
    (i : ℕ) × ((get_or (cond b (k ∷ numbers_of p (k + 1) xs) (numbers_of p (k + 1) xs)) (suc j) 0 ≡ k + i) × (i < length (x ∷ xs)) × (p (get_or (x ∷ xs) i d) ≡ true) × (length (numbers_of p k (take i (x ∷ xs))) ≡ suc j))) [
      | true ↦ λ yes h.
          let later = from_place p (k + 1) xs d j (one_less _ _ h) in (
            suc later.0,
            (
              later.1.0 ∙ omega arith,
              omega (arith, later.1.1),
              later.1.2,
              ap (λ b. length (cond b (k ∷ numbers_of p (k + 1) (take later.0 xs)) (numbers_of p (k + 1) (take later.0 xs)))) yes ∙ ap suc later.1.3,
            ),
          )
      | false ↦ λ apart h.
          let later = from_place p (k + 1) xs d (suc j) h in (
            suc later.0,
            (
              later.1.0 ∙ omega arith,
              omega (arith, later.1.1),
              later.1.2,
              ap (λ b. length (cond b (k ∷ numbers_of p (k + 1) (take later.0 xs)) (numbers_of p (k + 1) (take later.0 xs)))) apart ∙ later.1.3,
            ),
          )
    ] refl less

above : {A : Type 0} (p : A → Bool) (k : ℕ) (xs : List A) (d : A) (j : ℕ) → j < length (numbers_of p k xs) → k ≤ get_or (numbers_of p k xs) j 0
above p k xs d j less = let at = from_place p k xs d j less in omega (arith, at.1.0)

-- the numbers rise
pub in_order : {A : Type 0} (p : A → Bool) (k : ℕ) (xs : List A) (d : A) (i j : ℕ) → i < j → j < length (numbers_of p k xs) → get_or (numbers_of p k xs) i 0 < get_or (numbers_of p k xs) j 0
in_order p k [] d i j before less = absurd (omega arith)
in_order p k (x ∷ xs) d i zero before less = absurd (omega arith)
in_order p k (x ∷ xs) d zero (suc j) before less =
    elim (p x) as (λ b. suc j < length (cond b (k ∷ numbers_of p (k + 1) xs) (numbers_of p (k + 1) xs)) → get_or (cond b (k ∷ numbers_of p (k + 1) xs) (numbers_of p (k + 1) xs)) zero 0 < get_or (cond b (k ∷ numbers_of p (k + 1) xs) (numbers_of p (k + 1) xs)) (suc j) 0) [
      | true ↦ λ h. omega (arith, above p (k + 1) xs d j (one_less _ _ h))
      | false ↦ λ h. in_order p (k + 1) xs d zero (suc j) before h
    ] less
in_order p k (x ∷ xs) d (suc i) (suc j) before less =
    elim (p x) as (λ b. suc j < length (cond b (k ∷ numbers_of p (k + 1) xs) (numbers_of p (k + 1) xs)) → get_or (cond b (k ∷ numbers_of p (k + 1) xs) (numbers_of p (k + 1) xs)) (suc i) 0 < get_or (cond b (k ∷ numbers_of p (k + 1) xs) (numbers_of p (k + 1) xs)) (suc j) 0) [
      | true ↦ λ h. in_order p (k + 1) xs d i j (one_less _ _ before) (one_less _ _ h)
      | false ↦ λ h. in_order p (k + 1) xs d (suc i) (suc j) before h
    ] less

first_fails : {A : Type 0} (p : A → Bool) (x : A) (xs : List A) (d : A) → ((i : ℕ) → i < length (x ∷ xs) → p (get_or (x ∷ xs) i d) ≡ false) → p x ≡ false
first_fails p x xs d none = none 0 (omega arith)

pub none_passes : {A : Type 0} (p : A → Bool) (k : ℕ) (xs : List A) (d : A) → ((i : ℕ) → i < length xs → p (get_or xs i d) ≡ false) → numbers_of p k xs ≡ []
none_passes p k [] d none = refl
none_passes p k (x ∷ xs) d none =
    ap (λ b. cond b (k ∷ numbers_of p (k + 1) xs) (numbers_of p (k + 1) xs)) (first_fails p x xs d none)
    ∙ none_passes p (k + 1) xs d (λ i less. none (suc i) (omega arith))

equal_passes : (n : ℕ) → (n == n) ≡ true
equal_passes n = grind (arith, nat_tests)

passes_equal : (a b : ℕ) → (a == b) ≡ true → a ≡ b
passes_equal a b is = grind (arith, nat_tests)

below_fails : (a b n : ℕ) → a < n → n ≤ b → (a == b) ≡ false
below_fails a b n less past = grind (arith, nat_tests)

-- the link at a place on one side of a node, where the side is told by a link's node
side_at : (node_of : Link → ℕ) (links : List Link) (link : ℕ) → link < length links →
    (length (numbers_of (λ l. node_of l == node_of (get_or links link no_link)) 0 (take link links)) < length (numbers_of (λ l. node_of l == node_of (get_or links link no_link)) 0 links))
    × (get_or (numbers_of (λ l. node_of l == node_of (get_or links link no_link)) 0 links) (length (numbers_of (λ l. node_of l == node_of (get_or links link no_link)) 0 (take link links))) 0 ≡ link)
side_at node_of links link less =
    let at = at_place (λ l. node_of l == node_of (get_or links link no_link)) 0 links no_link link less (equal_passes (node_of (get_or links link no_link))) in
    (at.0, at.1 ∙ omega arith)

side_from : (node_of : Link → ℕ) (links : List Link) (node place : ℕ) → place < length (numbers_of (λ l. node_of l == node) 0 links) →
    (get_or (numbers_of (λ l. node_of l == node) 0 links) place 0 < length links)
    × (node_of (get_or links (get_or (numbers_of (λ l. node_of l == node) 0 links) place 0) no_link) ≡ node)
    × (length (numbers_of (λ l. node_of l == node_of (get_or links (get_or (numbers_of (λ l. node_of l == node) 0 links) place 0) no_link)) 0 (take (get_or (numbers_of (λ l. node_of l == node) 0 links) place 0) links)) ≡ place)
side_from node_of links node place less =
    let from = from_place (λ l. node_of l == node) 0 links no_link place less in
    let at : from.0 ≡ get_or (numbers_of (λ l. node_of l == node) 0 links) place 0 = omega (arith, from.1.0) in
    let here : node_of (get_or links from.0 no_link) ≡ node = passes_equal _ _ from.1.2 in
    let at_node : length (numbers_of (λ l. node_of l == node_of (get_or links from.0 no_link)) 0 (take from.0 links)) ≡ place = ap (λ n. length (numbers_of (λ l. node_of l == n) 0 (take from.0 links))) here ∙ from.1.3 in
    let Q : ℕ → Type 0 = λ link. (link < length links) × (node_of (get_or links link no_link) ≡ node) × (length (numbers_of (λ l. node_of l == node_of (get_or links link no_link)) 0 (take link links)) ≡ place) in
    subst Q at (from.1.1, here, at_node)

side_none : (node_of : Link → ℕ) (links : List Link) (nodes node : ℕ) → ((link : ℕ) → link < length links → node_of (get_or links link no_link) < nodes) → nodes ≤ node → numbers_of (λ l. node_of l == node) 0 links ≡ []
side_none node_of links nodes node inside past = none_passes (λ l. node_of l == node) 0 links no_link (λ link less. below_fails _ _ nodes (inside link less) past)

pub none_leaves : (d : NetworkData) → IsNetwork d → (node : ℕ) → length d.nodes ≤ node → out_links d node ≡ []
none_leaves d net node past = side_none (λ l. l.tail) d.links (length d.nodes) node net.tail_is_node past

pub none_enters : (d : NetworkData) → IsNetwork d → (node : ℕ) → length d.nodes ≤ node → in_links d node ≡ []
none_enters d net node past = side_none (λ l. l.head) d.links (length d.nodes) node net.head_is_node past

pub has_places : (d : NetworkData) → HasPlaces d
has_places d = record {
  out_place_below = λ link less. (side_at (λ l. l.tail) d.links link less).0;
  out_link_at = λ link less. (side_at (λ l. l.tail) d.links link less).1;
  out_link_is_link = λ node place less. (side_from (λ l. l.tail) d.links node place less).0;
  out_link_starts = λ node place less. (side_from (λ l. l.tail) d.links node place less).1;
  out_place_of = λ node place less. (side_from (λ l. l.tail) d.links node place less).2;
  out_in_order = λ node earlier later before less. in_order (leaves node) 0 d.links no_link earlier later before less;
  in_place_below = λ link less. (side_at (λ l. l.head) d.links link less).0;
  in_link_at = λ link less. (side_at (λ l. l.head) d.links link less).1;
  in_link_is_link = λ node place less. (side_from (λ l. l.head) d.links node place less).0;
  in_link_ends = λ node place less. (side_from (λ l. l.head) d.links node place less).1;
  in_place_of = λ node place less. (side_from (λ l. l.head) d.links node place less).2;
  in_in_order = λ node earlier later before less. in_order (enters node) 0 d.links no_link earlier later before less;
  none_leaves = none_leaves d;
  none_enters = none_enters d;
}
