-- The out-links of a node over which a split row sends traffic, by name.
use Rattle.std.proofs.Common.{ℕ, ◌≡◌, ◌+◌, ◌≤◌, ◌<◌, ◌==◌, ◌&&◌, Bool, true, false, not, List, [], ◌∷◌, length, map, sum, Some, refl, ap, sym, subst, arith, ◌∙◌, nat_le}
use Rattle.std.specs.Prelude.{All, ⊤, if◌then◌else◌, ◌||◌, slice_index_or}
use Rattle.std.specs.Option.{option_map_or}
use Rattle.std.specs.List.{list_all}
use Rattle.std.specs.Cmp.Lexicographic.{same_text, nat_list_eq_equiv}
use Rattle.std.proofs.lemmas.Bool.Decides.{nat_tests}
use Rattle.std.proofs.lemmas.List.{length-map, get_or_default}
use Rattle.std.proofs.lemmas.List.Sums.{sum_by-cons}
use Rattle.std.proofs.lemmas.List.Elements.{All-head, All-tail, All-cons, All-nil}
use Rattle.ltm_network.specs.Numbers.{numbers_of}
use Rattle.ltm_network.specs.Names.{same}
use Rattle.ltm_network.specs.Network.{NetworkData, find_link, link_name, tail_of, out_links}
use Rattle.ltm_network.specs.IsNetwork.{IsNetwork, NamesAreFound}
use Rattle.ltm_network.specs.Places.{LinksAtTheirPlaces}
use Rattle.ltm_scenario.specs.Weights.{NamedWeight, is_named, are_apart, are_weights}
use Rattle.ltm_scenario.specs.Edits.{weight_of}
use Rattle.ltm_routes_command.specs.Lines.{sent_over}
use Rattle.ltm_routes_command.proofs.Weights.{ones, ones_long}

-- numbers that rise from one that none is below
abbrev pub Rising : ℕ → List ℕ → Type 0
Rising low [] = ⊤
Rising low (x ∷ xs) = (low ≤ x) × Rising (x + 1) xs

rising_less : (less low : ℕ) (xs : List ℕ) → less ≤ low → Rising low xs → Rising less xs
rising_less less low [] below is = tt
rising_less less low (x ∷ xs) below is = (let h = is.0 in omega arith, is.1)

pub numbers_rise : {A : Type 0} (test : A → Bool) (first : ℕ) (xs : List A) → Rising first (numbers_of test first xs)
numbers_rise test first [] = tt
numbers_rise test first (x ∷ xs) =
    let more = numbers_rise test (first + 1) xs in
    elim (test x) as (λ b. Rising first (if b then first ∷ numbers_of test (first + 1) xs else numbers_of test (first + 1) xs)) [
      | true ↦ (omega arith, more)
      | false ↦ rising_less first (first + 1) (numbers_of test (first + 1) xs) (omega arith) more
    ]

-- ---- those with weight 1 among them
pub sent_rise : (low : ℕ) (links weights : List ℕ) → Rising low links → Rising low (sent_over links weights)
sent_rise low [] weights is = tt
sent_rise low (link ∷ links) [] is = tt
sent_rise low (link ∷ links) (weight ∷ weights) is =
    let more = sent_rise (link + 1) links weights is.1 in
    elim (weight == 1) as (λ b. Rising low (if b then link ∷ sent_over links weights else sent_over links weights)) [
      | true ↦ (is.0, more)
      | false ↦ rising_less low (link + 1) (sent_over links weights) (let h = is.0 in omega arith) more
    ]

pub sent_all : (P : ℕ → Type 0) (links weights : List ℕ) → All P links → All P (sent_over links weights)
sent_all P [] weights all = All-nil P
sent_all P (link ∷ links) [] all = All-nil P
sent_all P (link ∷ links) (weight ∷ weights) all =
    let more = sent_all P links weights (All-tail P link links all) in
    elim (weight == 1) as (λ b. All P (if b then link ∷ sent_over links weights else sent_over links weights)) [
      | true ↦ All-cons P link (sent_over links weights) (All-head P link links all) more
      | false ↦ more
    ]

pub sent_few : (links weights : List ℕ) → length (sent_over links weights) ≤ length links
sent_few [] weights = omega arith
sent_few (link ∷ links) [] = omega arith
sent_few (link ∷ links) (weight ∷ weights) =
    let more = sent_few links weights in
    elim (weight == 1) as (λ b. length (if b then link ∷ sent_over links weights else sent_over links weights) ≤ length (link ∷ links)) [
      | true ↦ omega arith
      | false ↦ omega arith
    ]

abbrev pub bit : (ℕ → Bool) → ℕ → ℕ
bit test link = if test link then 1 else 0

-- as many links are sent over as the weights sum to, where each is 0 or 1
pub sent_sum : (test : ℕ → Bool) (links : List ℕ) → length (sent_over links (map (bit test) links)) ≡ sum (map (bit test) links)
sent_sum test [] = refl
sent_sum test (link ∷ links) =
    let more = sent_sum test links in
    elim (test link) as (λ b. length (if (if b then 1 else 0) == 1 then link ∷ sent_over links (map (bit test) links) else sent_over links (map (bit test) links)) ≡ sum ((if b then 1 else 0) ∷ map (bit test) links)) [
      | true ↦ let e = sum_by-cons (λ (n : ℕ). n) 1 (map (bit test) links) in omega arith
      | false ↦ let e = sum_by-cons (λ (n : ℕ). n) 0 (map (bit test) links) in omega arith
    ]

-- ---- names
true_or_false : (b : Bool) → (b ≡ true → ⊥) → b ≡ false
true_or_false true h = absurd (h refl)
true_or_false false h = refl

some_same : (i j : ℕ) → Some i ≡ Some j → i ≡ j
some_same i j e = cc

-- two links of a network have different names
names_differ : (d : NetworkData) (a b : ℕ) → NamesAreFound → IsNetwork d → a < length d.links → b < length d.links → a < b → same (link_name d a) (link_name d b) ≡ false
names_differ d a b found network low high below = true_or_false (same (link_name d a) (link_name d b)) (λ is.
    let equal : link_name d a ≡ link_name d b = same_text (link_name d a) (link_name d b) (sym is) in
    let one : a ≡ b = some_same a b (sym (found.link_found d a network low) ∙ ap (find_link d) equal ∙ found.link_found d b network high) in
    omega arith)

same_turned : (a b : List ℕ) → same a b ≡ same b a
same_turned a b = nat_list_eq_equiv.symm a b

same_itself : (a : List ℕ) → same a a ≡ true
same_itself a = nat_list_eq_equiv.refl a

abbrev pub AllLinks : NetworkData → List ℕ → Type 0
AllLinks d links = All (λ link. link < length d.links) links

none_named : (d : NetworkData) (x low : ℕ) (links : List ℕ) → NamesAreFound → IsNetwork d → x < length d.links → x < low → Rising low links → AllLinks d links
    → is_named (link_name d x) (ones (map (link_name d) links)) ≡ false
none_named d x low [] found network here below rising there = refl
none_named d x low (link ∷ links) found network here below rising there =
    let h = rising.0 in
    let inside : link < length d.links = All-head (λ link. link < length d.links) link links there in
    let differ : same (link_name d link) (link_name d x) ≡ false = same_turned (link_name d link) (link_name d x) ∙ names_differ d x link found network here inside (omega arith) in
    ap (λ b. b || is_named (link_name d x) (ones (map (link_name d) links))) differ
    ∙ none_named d x (link + 1) links found network here (omega arith) rising.1 (All-tail (λ link. link < length d.links) link links there)

pub apart : (d : NetworkData) (low : ℕ) (links : List ℕ) → NamesAreFound → IsNetwork d → Rising low links → AllLinks d links → are_apart (ones (map (link_name d) links)) ≡ true
apart d low [] found network rising there = refl
apart d low (link ∷ links) found network rising there =
    let inside : link < length d.links = All-head (λ link. link < length d.links) link links there in
    let rest = All-tail (λ link. link < length d.links) link links there in
    ap (λ b. not b && are_apart (ones (map (link_name d) links))) (none_named d link (link + 1) links found network inside (omega arith) rising.1 rest)
    ∙ apart d (link + 1) links found network rising.1 rest

pub are_some : (d : NetworkData) (low : ℕ) (links : List ℕ) → NamesAreFound → IsNetwork d → Rising low links → AllLinks d links → 1 ≤ length links → length links ≤ 4
    → are_weights (ones (map (link_name d) links)) ≡ true
are_some d low links found network rising there some few =
    let long : length (ones (map (link_name d) links)) ≡ length links = ones_long (map (link_name d) links) ∙ length-map links (link_name d) in
    let least : nat_le 1 (length (ones (map (link_name d) links))) ≡ true = grind (arith, nat_tests) in
    let most : nat_le (length (ones (map (link_name d) links))) 4 ≡ true = grind (arith, nat_tests) in
    ap (λ b. b && nat_le (length (ones (map (link_name d) links))) 4 && are_apart (ones (map (link_name d) links))) least
    ∙ ap (λ b. b && are_apart (ones (map (link_name d) links))) most
    ∙ apart d low links found network rising there

-- ---- the weights at the node, by these names
unnamed : (name : List ℕ) (ws : List NamedWeight) → is_named name ws ≡ false → weight_of ws name ≡ 0
unnamed name [] none = refl
unnamed name (w ∷ ws) none =
    elim (same w.0 name) as (λ b. (b || is_named name ws) ≡ false → (if b then w.1 else weight_of ws name) ≡ 0) [
      | true ↦ λ h. cc
      | false ↦ λ h. unnamed name ws h
    ] none

-- a weight with the name of an earlier link is passed over
passed : (d : NetworkData) (x low : ℕ) (ws : List NamedWeight) (links : List ℕ) → NamesAreFound → IsNetwork d → x < length d.links → x < low → Rising low links → AllLinks d links
    → map (λ link. weight_of ((link_name d x, 1) ∷ ws) (link_name d link)) links ≡ map (λ link. weight_of ws (link_name d link)) links
passed d x low ws [] found network here below rising there = refl
passed d x low ws (link ∷ links) found network here below rising there =
    let h = rising.0 in
    let inside : link < length d.links = All-head (λ link. link < length d.links) link links there in
    let differ : same (link_name d x) (link_name d link) ≡ false = names_differ d x link found network here inside (omega arith) in
    ap (λ b. (if b then 1 else weight_of ws (link_name d link)) ∷ map (λ link. weight_of ((link_name d x, 1) ∷ ws) (link_name d link)) links) differ
    ∙ ap (λ t. weight_of ws (link_name d link) ∷ t) (passed d x (link + 1) ws links found network here (omega arith) rising.1 (All-tail (λ link. link < length d.links) link links there))

-- the names that were written give back the weights
pub weights_back : (d : NetworkData) (test : ℕ → Bool) (low : ℕ) (links : List ℕ) → NamesAreFound → IsNetwork d → Rising low links → AllLinks d links
    → map (λ link. weight_of (ones (map (link_name d) (sent_over links (map (bit test) links)))) (link_name d link)) links ≡ map (bit test) links
weights_back d test low [] found network rising there = refl
weights_back d test low (link ∷ links) found network rising there =
    let inside : link < length d.links = All-head (λ link. link < length d.links) link links there in
    let rest : AllLinks d links = All-tail (λ link. link < length d.links) link links there in
    let sent : List ℕ = sent_over links (map (bit test) links) in
    let ws : List NamedWeight = ones (map (link_name d) sent) in
    let more = weights_back d test (link + 1) links found network rising.1 rest in
    let none : weight_of ws (link_name d link) ≡ 0 =
    unnamed (link_name d link) ws (none_named d link (link + 1) sent found network inside (omega arith) (sent_rise (link + 1) links (map (bit test) links) rising.1) (sent_all (λ link. link < length d.links) links (map (bit test) links) rest)) in
    elim (test link) as (λ b. map (λ l. weight_of (ones (map (link_name d) (if (if b then 1 else 0) == 1 then link ∷ sent else sent))) (link_name d l)) (link ∷ links) ≡ (if b then 1 else 0) ∷ map (bit test) links) [
      | true ↦
          ap (λ b. (if b then 1 else weight_of ws (link_name d link)) ∷ map (λ l. weight_of ((link_name d link, 1) ∷ ws) (link_name d l)) links) (same_itself (link_name d link))
          ∙ ap (λ t. 1 ∷ t) (passed d link (link + 1) ws links found network inside (omega arith) rising.1 rest ∙ more)
      | false ↦ ap (λ n. n ∷ map (λ l. weight_of ws (link_name d l)) links) none ∙ ap (λ t. 0 ∷ t) more
    ]

-- ---- each of them leaves the node
at_default : (xs : List ℕ) (k d : ℕ) → k < length xs → slice_index_or xs k d ≡ slice_index_or xs k 0
at_default xs k d low = get_or_default xs k d 0 low

pub out_are_links : (d : NetworkData) (node : ℕ) → LinksAtTheirPlaces → AllLinks d (out_links d node)
out_are_links d node places k e low = subst (λ l. l < length d.links) (sym (at_default (out_links d node) k e low)) ((places d).out_link_is_link node k low)

pub out_leave : (d : NetworkData) (node : ℕ) → LinksAtTheirPlaces → All (λ link. tail_of d link ≡ node) (out_links d node)
out_leave d node places k e low = subst (λ l. tail_of d l ≡ node) (sym (at_default (out_links d node) k e low)) ((places d).out_link_starts node k low)

both_hold : (a b : Bool) → a ≡ true → b ≡ true → (a && b) ≡ true
both_hold true b x y = y
both_hold false b x y = cc

pub named_leave : (d : NetworkData) (node : ℕ) (links : List ℕ) → NamesAreFound → IsNetwork d → AllLinks d links → All (λ link. tail_of d link ≡ node) links
    → list_all (λ (w : NamedWeight). option_map_or (λ link. tail_of d link == node) (find_link d w.0) false) (ones (map (link_name d) links)) ≡ true
named_leave d node [] found network there leave = refl
named_leave d node (link ∷ links) found network there leave =
    let inside : link < length d.links = All-head (λ link. link < length d.links) link links there in
    let leaves : tail_of d link ≡ node = All-head (λ link. tail_of d link ≡ node) link links leave in
    let here : option_map_or (λ link. tail_of d link == node) (find_link d (link_name d link)) false ≡ true =
    ap (λ o. option_map_or (λ link. tail_of d link == node) o false) (found.link_found d link network inside) ∙ (let e : (tail_of d link == node) ≡ true = grind (arith, nat_tests, leaves) in e) in
    both_hold _ _ here (named_leave d node links found network (All-tail (λ link. link < length d.links) link links there) (All-tail (λ link. tail_of d link ≡ node) link links leave))
