-- Which roads a grid has, and the links along them.
use Rattle.std.proofs.Common.{◌≡◌, ◌≢◌, ℕ, zero, suc, ◌+◌, ◌-◌, ◌*◌, ◌/◌, ◌%◌, ◌^◌, ◌<◌, ◌≤◌, ◌==◌, Bool, true, false, cond, List, [], ◌++◌, length, get_or, unwrap_or, Option, Some, refl, sym, ap, subst, ◌∙◌, arith, length-append, inl, inr}
use Rattle.std.proofs.Math.ListN.{get_or-append}
use Rattle.std.proofs.lemmas.List.{get_or-append-add}
use Rattle.std.proofs.lemmas.Bool.{cases_lt}
use Rattle.std.proofs.lemmas.Bool.Decides.{nat_tests}
use Rattle.std.proofs.lemmas.Nat.{mul-le, mod-mul-add, div-add-mod', mod_below}
use Rattle.ltm_network.specs.Names.{place_of}
use Rattle.ltm_network.specs.Network.{NetworkData, tail_of, head_of, out_links, out_link, out_place}
use Rattle.ltm_network.proofs.Apart.{named_there}
use Rattle.ltm_network.proofs.Counted.{has_places}
use Rattle.ltm_make.specs.declared.grid.Road.{Road}
use Rattle.ltm_make.specs.Names.{name_of_node}
use Rattle.ltm_make.specs.Grid.{has_right, has_below, both_ways, roads_at, roads}
use Rattle.ltm_make.specs.Roads.{no_road, road_at, IsAlong}
use Rattle.ltm_make.specs.Branches.{number}
use Rattle.ltm_make.specs.Splits.{IsFound, HasLink, IsGrid}
use Rattle.ltm_make.proofs.Along.{numbered_apart}
use Rattle.ltm_make.proofs.Counting.{is_other}

-- some road of a list leads from a to b
pub record HasRoad (list : List Road) (a b : ℕ) : Type 0 where
  pub index : ℕ
  pub inside : index < length list
  pub at : road_at list index ≡ record { from = a; to = b }

in_left : (xs ys : List Road) (a b : ℕ) → HasRoad xs a b → HasRoad (xs ++ ys) a b
in_left xs ys a b h = record {
  index = h.index;
  inside = omega (arith, h.inside, length-append xs ys);
  at = get_or-append xs ys no_road h.index h.inside ∙ h.at;
}

in_right : (xs ys : List Road) (a b : ℕ) → HasRoad ys a b → HasRoad (xs ++ ys) a b
in_right xs ys a b h = record {
  index = length xs + h.index;
  inside = omega (arith, h.inside, length-append xs ys);
  at = get_or-append-add xs ys h.index no_road ∙ h.at;
}

road_among : (n w j m a b : ℕ) → HasRoad (roads_at n w j) a b → j < m → HasRoad (roads n w m) a b
road_among n w j zero a b h l = absurd (omega arith)
road_among n w j (suc m) a b h l =
    elim (cases_lt j m) [
      | inl low ↦ in_left (roads n w m) (roads_at n w m) a b (road_among n w j m a b h low)
      | inr high ↦
          let at : j ≡ m = omega arith in
          in_right (roads n w m) (roads_at n w m) a b (subst (λ (z : ℕ). HasRoad (roads_at n w z) a b) at h)
    ]

there : (a b : ℕ) → HasRoad (both_ways a b) a b
there a b = record { index = 0; inside = omega arith; at = refl }

back : (a b : ℕ) → HasRoad (both_ways a b) b a
back a b = record { index = 1; inside = omega arith; at = refl }

to_right : (n w j a b : ℕ) → has_right n w j ≡ true → HasRoad (both_ways j (j + 1)) a b → HasRoad (roads_at n w j) a b
to_right n w j a b e h =
    in_left (cond (has_right n w j) (both_ways j (j + 1)) []) (cond (has_below n w j) (both_ways j (j + w)) []) a b
    (subst (λ (t : Bool). HasRoad (cond t (both_ways j (j + 1)) []) a b) (sym e) h)

to_below : (n w j a b : ℕ) → has_below n w j ≡ true → HasRoad (both_ways j (j + w)) a b → HasRoad (roads_at n w j) a b
to_below n w j a b e h =
    in_right (cond (has_right n w j) (both_ways j (j + 1)) []) (cond (has_below n w j) (both_ways j (j + w)) []) a b
    (subst (λ (t : Bool). HasRoad (cond t (both_ways j (j + w)) []) a b) (sym e) h)

is_right : (n w j : ℕ) → j % w + 1 < w → j + 1 < n → has_right n w j ≡ true
is_right n w j x y = grind (arith, nat_tests)

is_below : (n w j : ℕ) → j + w < n → has_below n w j ≡ true
is_below n w j x = grind (arith, nat_tests)

-- the column of a node, and that of the node to its left
pub column_left : (w k : ℕ) → 1 ≤ w → 0 < k % w → (k - 1) % w + 1 ≡ k % w
column_left w k some h =
    let whole = div-add-mod' k w in
    let e : k - 1 ≡ k / w * w + (k % w - 1) = omega arith in
    let f : (k - 1) % w ≡ (k / w * w + (k % w - 1)) % w = ap (λ (z : ℕ). z % w) e in
    omega (arith, f, mod-mul-add (k / w) w (k % w - 1) (omega (arith, mod_below k w some)))

pub column_first : (w k : ℕ) → k < w → k % w ≡ k
column_first w k l =
    let e : k ≡ 0 * w + k = omega arith in
    ap (λ (z : ℕ). z % w) e ∙ mod-mul-add 0 w k l

-- a node has a road to its left, up, and along the first row
pub left_road : (n w k : ℕ) → 1 ≤ w → k < n → 0 < k % w → HasRoad (roads n w n) k (k - 1)
left_road n w k some l h =
    let pos : 0 < k = elim (cases_lt 0 k) [ inl p ↦ p | inr z ↦ let e : k ≡ 0 = omega arith in let f : k % w ≡ 0 = ap (λ (y : ℕ). y % w) e ∙ column_first w 0 some in absurd (omega arith) ] in
    let e : k - 1 + 1 ≡ k = omega arith in
    road_among n w (k - 1) n k (k - 1)
    (to_right n w (k - 1) k (k - 1) (is_right n w (k - 1) (omega (arith, column_left w k some h, mod_below k w some)) (omega arith))
    (subst (λ (z : ℕ). HasRoad (both_ways (k - 1) (k - 1 + 1)) z (k - 1)) e (back (k - 1) (k - 1 + 1))))
    (omega arith)

pub up_road : (n w k : ℕ) → 1 ≤ w → w ≤ k → k < n → HasRoad (roads n w n) k (k - w)
up_road n w k some above l =
    let e : k - w + w ≡ k = omega arith in
    road_among n w (k - w) n k (k - w)
    (to_below n w (k - w) k (k - w) (is_below n w (k - w) (omega arith))
    (subst (λ (z : ℕ). HasRoad (both_ways (k - w) (k - w + w)) z (k - w)) e (back (k - w) (k - w + w))))
    (omega arith)

pub right_road : (n w k : ℕ) → k % w + 1 < w → k + 1 < n → HasRoad (roads n w n) k (k + 1)
right_road n w k h l = road_among n w k n k (k + 1) (to_right n w k k (k + 1) (is_right n w k h l) (there k (k + 1))) (omega arith)

-- the width of a grid is 2 or more, and no more than its nodes
pub some_width : (n w : ℕ) → IsGrid n w → 2 ≤ w
some_width n w g =
    elim (cases_lt w 2) [
      | inl small ↦ absurd (omega (arith, g.some, g.wide.enough, mul-le w w 1 1 (omega arith) (omega arith)))
      | inr enough ↦ enough
    ]

pub few_width : (n w : ℕ) → IsGrid n w → w ≤ n
few_width n w g =
    elim (cases_lt n w) [
      | inl past ↦ absurd (omega (arith, g.some, g.wide.least n past, mul-le n 1 n n (omega arith) (omega (arith, g.some))))
      | inr within ↦ within
    ]

pub narrow_width : (n w : ℕ) → IsGrid n w → w ≤ 20
narrow_width n w g =
    elim (cases_lt 20 w) [
      | inl past ↦ absurd (omega (arith, g.few, g.wide.least 20 past))
      | inr within ↦ within
    ]

-- every node has a road from it
pub road_from : (n w k : ℕ) → IsGrid n w → k < n → (t : ℕ) × HasRoad (roads n w n) k t
road_from n w k g l =
    let wide : 2 ≤ w = some_width n w g in
    elim (cases_lt 0 (k % w)) [
      | inl right ↦ (k - 1, left_road n w k (omega arith) l right)
      | inr first ↦ elim (cases_lt k w) [
        | inl top ↦
            let none : k % w ≡ k = column_first w k top in
            (k + 1, right_road n w k (omega arith) (omega (arith, g.some)))
        | inr below ↦ (k - w, up_road n w k (omega arith) below l)
      ]
    ]

-- ---- links along roads
from_found : (d : NetworkData) (k u : ℕ) → place_of d.nodes (name_of_node k) ≡ Some u → number d k ≡ u
from_found d k u e = ap (λ (o : Option ℕ). unwrap_or o (length d.nodes)) e

found_by : (d : NetworkData) (k u : ℕ) → place_of d.nodes (name_of_node k) ≡ Some u → IsFound d k
found_by d k u e = e ∙ ap Some (sym (from_found d k u e))

pub start_found : (d : NetworkData) (list : List Road) (a b : ℕ) → IsAlong d list → HasRoad list a b → IsFound d a
start_found d list a b h r =
    found_by d a (tail_of d r.index) (ap (λ (x : Road). place_of d.nodes (name_of_node x.from)) (sym r.at) ∙ h.tails r.index r.inside)

pub end_found : (d : NetworkData) (list : List Road) (a b : ℕ) → IsAlong d list → HasRoad list a b → IsFound d b
end_found d list a b h r =
    found_by d b (head_of d r.index) (ap (λ (x : Road). place_of d.nodes (name_of_node x.to)) (sym r.at) ∙ h.heads r.index r.inside)

pub road_link : (d : NetworkData) (list : List Road) (a b : ℕ) → IsAlong d list → HasRoad list a b → HasLink d a b
road_link d list a b h r =
    let i : ℕ = r.index in
    let tail : number d a ≡ tail_of d r.index = from_found d a (tail_of d r.index) (ap (λ (x : Road). place_of d.nodes (name_of_node x.from)) (sym r.at) ∙ h.tails r.index r.inside) in
    let head : number d b ≡ head_of d r.index = from_found d b (head_of d r.index) (ap (λ (x : Road). place_of d.nodes (name_of_node x.to)) (sym r.at) ∙ h.heads r.index r.inside) in
    let link : r.index < length d.links = omega (arith, h.long, r.inside) in
    let places = has_places d in
    record {
      place = out_place d r.index;
      inside = subst (λ (u : ℕ). out_place d r.index < length (out_links d u)) (sym tail) (places.out_place_below r.index link);
      leads = ap (λ (u : ℕ). head_of d (out_link d u (out_place d r.index))) tail ∙ (ap (head_of d) (places.out_link_at r.index link) ∙ sym head);
    }

pub node_found : (d : NetworkData) (n w k : ℕ) → IsGrid n w → IsAlong d (roads n w n) → k < n → IsFound d k
node_found d n w k g h l = let r = road_from n w k g l in start_found d (roads n w n) k r.0 h r.1

-- nodes have numbers of their own
pub numbers_apart : (d : NetworkData) (j k : ℕ) → IsFound d j → IsFound d k → j < 2 ^ 64 → k < 2 ^ 64 → j ≢ k → (number d j == number d k) ≡ false
numbers_apart d j k fj fk x y apart =
    is_other (number d j) (number d k)
    (λ same. apart (numbered_apart 120 j k x y (sym (named_there d.nodes (name_of_node j) (number d j) fj).1 ∙ (ap (λ (u : ℕ). get_or d.nodes u []) same ∙ (named_there d.nodes (name_of_node k) (number d k) fk).1))))
