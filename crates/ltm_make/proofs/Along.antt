-- A network along roads has a link for each, and takes the next one.
use Rattle.std.proofs.Common.{◌≡◌, ℕ, ◌+◌, ◌^◌, ◌<◌, Bool, cond, List, [], ◌∷◌, ◌++◌, length, get_or, is_some, unwrap_or, Option, Some, None, refl, sym, ap, subst, ◌∙◌, arith, length-append, append_assoc, inl, inr}
use Rattle.std.proofs.Math.ListN.{get_or-append}
use Rattle.std.proofs.lemmas.List.{get_or_push, append-nil}
use Rattle.std.proofs.lemmas.Bool.{cases_lt}
use Rattle.std.proofs.lemmas.Fmt.{decimal_injective}
use Rattle.ltm_network.specs.Names.{same, place_of, with_name, number_of}
use Rattle.ltm_network.specs.Network.{Link, NetworkData, no_link, empty_network, tail_of, head_of}
use Rattle.ltm_network.proofs.Apart.{position_last, found_still}
use Rattle.ltm_network.proofs.Finding.{same_itself}
use Rattle.ltm_units.specs.Bounds.{default_links}
use Rattle.ltm_make.specs.declared.grid.Road.{Road}
use Rattle.ltm_make.specs.Names.{numbered, name_of_node, name_of_link}
use Rattle.ltm_make.specs.Links.{with_road_link}
use Rattle.ltm_make.specs.Roads.{no_road, road_at, network_along, IsAlong}

-- names tell their numbers
pub numbered_apart : (letter m n : ℕ) → m < 2 ^ 64 → n < 2 ^ 64 → numbered letter m ≡ numbered letter n → m ≡ n
unfolding numbered
numbered_apart letter m n x y e = decimal_injective m n x y (cc)

-- a name is found once it is named
placed_by : (names : List (List ℕ)) (name : List ℕ) (o : Option ℕ) → o ≡ place_of names name → place_of (with_name names name) name ≡ Some (unwrap_or o (length names))
placed_by names name (Some n) is = found_still names name name n (sym is)
placed_by names name None is =
    ap (λ (b : Bool). place_of (cond b names (names ++ name ∷ [])) name) (ap is_some (sym is))
    ∙ (position_last (same name) 0 names name (sym is) (same_itself name) ∙ ap Some (let z : 0 + length names ≡ length names = omega arith in z))

pub placed : (names : List (List ℕ)) (name : List ℕ) → place_of (with_name names name) name ≡ Some (number_of names name)
placed names name = placed_by names name (place_of names name) refl

-- nothing leads along no road
pub along_none : IsAlong (empty_network default_links) []
along_none = record { takes = refl; long = refl; names = λ i l. absurd (omega arith); tails = λ i l. absurd (omega arith); heads = λ i l. absurd (omega arith) }

-- and with one link more it leads along one road more
pub along_more : (d : NetworkData) (roads : List Road) (r : Road) → IsAlong d roads → IsAlong (with_road_link d r) (roads ++ r ∷ [])
along_more d roads r h =
    let t : List ℕ = name_of_node r.from in
    let e : List ℕ = name_of_node r.to in
    let nodes : List (List ℕ) = with_name (with_name d.nodes t) e in
    let link : Link = record { name = name_of_link (length d.links); tail = number_of d.nodes t; head = number_of (with_name d.nodes t) e } in
    let long : length (roads ++ r ∷ []) ≡ length roads + 1 = omega (arith, length-append roads (r ∷ [])) in
    let old : (i : ℕ) → i < length roads → get_or (d.links ++ link ∷ []) i no_link ≡ get_or d.links i no_link = λ i l. get_or-append d.links (link ∷ []) no_link i (omega (arith, h.long)) in
    let new : (i : ℕ) → i ≡ length roads → get_or (d.links ++ link ∷ []) i no_link ≡ link = λ i at. get_or_push d.links link no_link i (omega (arith, h.long)) in
    let old_road : (i : ℕ) → i < length roads → road_at (roads ++ r ∷ []) i ≡ road_at roads i = λ i l. get_or-append roads (r ∷ []) no_road i l in
    let new_road : (i : ℕ) → i ≡ length roads → road_at (roads ++ r ∷ []) i ≡ r = λ i at. get_or_push roads r no_road i (sym at) in
    record {
      takes = h.takes;
      long = omega (arith, length-append d.links (link ∷ []), long, h.long);
      names = λ i l. elim (cases_lt i (length roads)) [
        | inl low ↦ ap (λ (x : Link). x.name) (old i low) ∙ h.names i low
        | inr high ↦
            let at : i ≡ length roads = omega arith in
            ap (λ (x : Link). x.name) (new i at) ∙ ap name_of_link (let z : length d.links ≡ i = omega (arith, h.long) in z)
      ];
      tails = λ i l. elim (cases_lt i (length roads)) [
        | inl low ↦
            ap (λ (x : Road). place_of nodes (name_of_node x.from)) (old_road i low)
            ∙ (found_still (with_name d.nodes t) e (name_of_node (road_at roads i).from) (tail_of d i) (found_still d.nodes t (name_of_node (road_at roads i).from) (tail_of d i) (h.tails i low))
            ∙ ap (λ (x : Link). Some x.tail) (sym (old i low)))
        | inr high ↦
            let at : i ≡ length roads = omega arith in
            ap (λ (x : Road). place_of nodes (name_of_node x.from)) (new_road i at)
            ∙ (found_still (with_name d.nodes t) e t (number_of d.nodes t) (placed d.nodes t)
            ∙ ap (λ (x : Link). Some x.tail) (sym (new i at)))
      ];
      heads = λ i l. elim (cases_lt i (length roads)) [
        | inl low ↦
            ap (λ (x : Road). place_of nodes (name_of_node x.to)) (old_road i low)
            ∙ (found_still (with_name d.nodes t) e (name_of_node (road_at roads i).to) (head_of d i) (found_still d.nodes t (name_of_node (road_at roads i).to) (head_of d i) (h.heads i low))
            ∙ ap (λ (x : Link). Some x.head) (sym (old i low)))
        | inr high ↦
            let at : i ≡ length roads = omega arith in
            ap (λ (x : Road). place_of nodes (name_of_node x.to)) (new_road i at)
            ∙ (placed (with_name d.nodes t) e
            ∙ ap (λ (x : Link). Some x.head) (sym (new i at)))
      ];
    }

-- so a network along roads leads along them all
pub along : (d : NetworkData) (done roads : List Road) → IsAlong d done → IsAlong (network_along d roads) (done ++ roads)
along d done [] h = subst (λ (z : List Road). IsAlong d z) (sym (append-nil done)) h
along d done (r ∷ roads) h =
    subst (λ (z : List Road). IsAlong (network_along (with_road_link d r) roads) z) (append_assoc done (r ∷ []) roads)
    (along (with_road_link d r) (done ++ r ∷ []) roads (along_more d done r h))
