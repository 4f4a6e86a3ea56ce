-- A network along roads takes the next one.
use Rattle.std.proofs.Common.{◌≡◌, ◌≢◌, ℕ, suc, ◌+◌, ◌^◌, ◌<◌, ◌≤◌, ◌==◌, Bool, true, false, cond, List, [], ◌∷◌, length, get_or, is_some, nat_le, Option, Some, None, Ok, refl, sym, ap, ◌∙◌, arith, count_by}
use Rattle.std.specs.Option.{option_map_or}
use Rattle.std.proofs.lemmas.Bool.Decides.{nat_tests}
use Rattle.ltm_units.specs.Results.{refuse, ◌>>>◌}
use Rattle.ltm_network.specs.Names.{same}
use Rattle.ltm_network.specs.Numbers.{numbers_of}
use Rattle.ltm_network.specs.Network.{NetworkData, no_link, link_names, find_link, find_node, tail_of, head_of, leaves, enters, out_links, in_links, out_degree, in_degree, checked}
use Rattle.ltm_network.proofs.Apart.{named_there, link_at, length-link_names}
use Rattle.ltm_network.proofs.Finding.{same_exact, position_none}
use Rattle.ltm_make.specs.declared.grid.Road.{Road}
use Rattle.ltm_make.specs.Names.{name_of_node, name_of_link}
use Rattle.ltm_units.specs.Bounds.{default_links}
use Rattle.ltm_make.specs.Roads.{no_road, road_at, IsAlong}
use Rattle.ltm_make.proofs.Along.{numbered_apart}
use Rattle.ltm_make.proofs.Counting.{count_by-append, is_same}

-- roads of which both ends are numbers below
pub record AreBelow (most : ℕ) (roads : List Road) : Type 0 where
  pub from : (i : ℕ) → i < length roads → (road_at roads i).from < most
  pub to : (i : ℕ) → i < length roads → (road_at roads i).to < most

or_false : (b : Bool) → (b ≡ true → ⊥) → b ≡ false
or_false true h = absurd (h refl)
or_false false h = refl

one_less : (m n : ℕ) → suc m ≡ suc n → m ≡ n
one_less m n e = omega arith

here_by : (bp bq : Bool) (k n m : ℕ) (rest : List ℕ) → length rest ≤ m → (bp ≡ true → bq ≡ true) → length (cond bp (k ∷ rest) rest) ≤ cond {A = ℕ} bq 1 0 + m
here_by true true k n m rest l h = omega arith
here_by true false k n m rest l h = let e : false ≡ true = h refl in cc
here_by false true k n m rest l h = omega arith
here_by false false k n m rest l h = omega arith

-- no more pass one test than another, where each that passes the first has a partner that passes the other
passes_fewer : {A B : Type 0} (p : A → Bool) (q : B → Bool) (k : ℕ) (xs : List A) (ys : List B) (a : A) (b : B) → length xs ≡ length ys →
    ((i : ℕ) → i < length xs → p (get_or xs i a) ≡ true → q (get_or ys i b) ≡ true) → length (numbers_of p k xs) ≤ count_by q ys
passes_fewer p q k [] ys a b long each = omega arith
passes_fewer p q k (x ∷ xs) [] a b long each = absurd (omega arith)
passes_fewer p q k (x ∷ xs) (y ∷ ys) a b long each =
    let less : length (numbers_of p (k + 1) xs) ≤ count_by q ys = passes_fewer p q (k + 1) xs ys a b (one_less _ _ long) (λ i l h. each (suc i) (omega arith) h) in
    omega (arith, count_by-append q (y ∷ []) ys, here_by (p x) (q y) k 0 (count_by q ys) (numbers_of p (k + 1) xs) less (each 0 (omega arith)))

-- as many links leave a node as roads start there, or fewer
out_by : (d : NetworkData) (roads : List Road) (c : ℕ) (o : Option ℕ) → o ≡ find_node d (name_of_node c) → IsAlong d roads → AreBelow (2 ^ 64) roads → c < 2 ^ 64 →
    option_map_or (λ node. length (out_links d node)) o 0 ≤ count_by (λ (r : Road). r.from == c) roads
out_by d roads c None is h below small = omega arith
out_by d roads c (Some u) is h below small =
    passes_fewer (leaves u) (λ (r : Road). r.from == c) 0 d.links roads no_link no_road h.long
    (λ i l leaves_it.
    let l' : i < length roads = omega (arith, h.long) in
    let at : tail_of d i ≡ u = grind (arith, nat_tests) in
    let there = named_there d.nodes (name_of_node (road_at roads i).from) (tail_of d i) (h.tails i l') in
    let mine = named_there d.nodes (name_of_node c) u (sym is) in
    let names : name_of_node (road_at roads i).from ≡ name_of_node c = sym there.1 ∙ (ap (λ (k : ℕ). get_or d.nodes k []) at ∙ mine.1) in
    is_same (road_at roads i).from c (numbered_apart 120 (road_at roads i).from c (below.from i l') small names))

pub out_few : (d : NetworkData) (roads : List Road) (c : ℕ) → IsAlong d roads → AreBelow (2 ^ 64) roads → c < 2 ^ 64 → out_degree d (name_of_node c) ≤ count_by (λ (r : Road). r.from == c) roads
out_few d roads c h below small = out_by d roads c (find_node d (name_of_node c)) refl h below small

in_by : (d : NetworkData) (roads : List Road) (c : ℕ) (o : Option ℕ) → o ≡ find_node d (name_of_node c) → IsAlong d roads → AreBelow (2 ^ 64) roads → c < 2 ^ 64 →
    option_map_or (λ node. length (in_links d node)) o 0 ≤ count_by (λ (r : Road). r.to == c) roads
in_by d roads c None is h below small = omega arith
in_by d roads c (Some u) is h below small =
    passes_fewer (enters u) (λ (r : Road). r.to == c) 0 d.links roads no_link no_road h.long
    (λ i l enters_it.
    let l' : i < length roads = omega (arith, h.long) in
    let at : head_of d i ≡ u = grind (arith, nat_tests) in
    let there = named_there d.nodes (name_of_node (road_at roads i).to) (head_of d i) (h.heads i l') in
    let mine = named_there d.nodes (name_of_node c) u (sym is) in
    let names : name_of_node (road_at roads i).to ≡ name_of_node c = sym there.1 ∙ (ap (λ (k : ℕ). get_or d.nodes k []) at ∙ mine.1) in
    is_same (road_at roads i).to c (numbered_apart 120 (road_at roads i).to c (below.to i l') small names))

pub in_few : (d : NetworkData) (roads : List Road) (c : ℕ) → IsAlong d roads → AreBelow (2 ^ 64) roads → c < 2 ^ 64 → in_degree d (name_of_node c) ≤ count_by (λ (r : Road). r.to == c) roads
in_few d roads c h below small = in_by d roads c (find_node d (name_of_node c)) refl h below small

-- the next link has a name of its own
pub new_name : (d : NetworkData) (roads : List Road) → IsAlong d roads → length roads < 2 ^ 64 → find_link d (name_of_link (length d.links)) ≡ None
new_name d roads h few =
    position_none (same (name_of_link (length d.links))) 0 (link_names d) []
    (λ j l. or_false (same (name_of_link (length d.links)) (get_or (link_names d) j []))
    (λ is.
    let l' : j < length d.links = omega (arith, length-link_names d) in
    let names : name_of_link (length d.links) ≡ name_of_link j = same_exact (name_of_link (length d.links)) (get_or (link_names d) j []) is ∙ (link_at d j l' ∙ h.names j (omega (arith, h.long))) in
    let one : length d.links ≡ j = numbered_apart 108 (length d.links) j (omega (arith, h.long)) (omega (arith, h.long)) names in
    absurd (omega arith)))

-- what is asked of a road that comes next
pub record IsNext (roads : List Road) (r : Road) : Type 0 where
  pub few : length roads < default_links
  pub from_small : r.from < 2 ^ 64
  pub to_small : r.to < 2 ^ 64
  pub apart : r.from ≢ r.to
  pub from_few : count_by (λ (x : Road). x.from == r.from) roads < 4
  pub to_few : count_by (λ (x : Road). x.to == r.to) roads < 4

all_pass : (a b c e f : Bool) (fa fb fc fe ff : Rattle.ltm_network.specs.declared.network.NetworkFault.NetworkFault) → a ≡ false → b ≡ false → c ≡ false → e ≡ false → f ≡ false →
    (refuse a fa >>> refuse b fb >>> refuse c fc >>> refuse e fe >>> refuse f ff) ≡ Ok tt
all_pass false false false false false fa fb fc fe ff x y z u v = refl
all_pass a b c e f fa fb fc fe ff x y z u v = cc

not_over : (m n : ℕ) → n < m → nat_le m n ≡ false
not_over m n l = grind (arith, nat_tests)

pub next_is_taken : (d : NetworkData) (roads : List Road) (r : Road) → IsAlong d roads → AreBelow (2 ^ 64) roads → IsNext roads r →
    checked d (name_of_link (length d.links)) (name_of_node r.from) (name_of_node r.to) ≡ Ok tt
unfolding checked
next_is_taken d roads r h below next =
    all_pass _ _ _ _ _ _ _ _ _ _
    (ap is_some (new_name d roads h (omega (arith, next.few))))
    (or_false (same (name_of_node r.from) (name_of_node r.to)) (λ is. next.apart (numbered_apart 120 r.from r.to next.from_small next.to_small (same_exact (name_of_node r.from) (name_of_node r.to) is))))
    (not_over d.most_links (length d.links) (omega (arith, h.takes, h.long, next.few)))
    (not_over 4 (out_degree d (name_of_node r.from)) (omega (arith, out_few d roads r.from h below next.from_small, next.from_few)))
    (not_over 4 (in_degree d (name_of_node r.to)) (omega (arith, in_few d roads r.to h below next.to_small, next.to_few)))
