-- A scenario whose nodes are covered by split rows from slot 0 is valid.
use Rattle.std.proofs.Common.{◌≡◌, ℕ, suc, ◌+◌, ◌*◌, ◌<◌, ◌≤◌, ◌==◌, ◌&&◌, ◌||◌, not, Bool, true, false, cond, nat_le, List, [], ◌∷◌, length, get_or, refl, ap, ◌∙◌, arith}
use Rattle.std.specs.List.{list_all, zip, range_with_len}
use Rattle.std.proofs.lemmas.List.Sums.{list_all-from_AllPass, sum_by-le}
use Rattle.std.proofs.lemmas.List.Folds.{list_any_at}
use Rattle.std.proofs.lemmas.List.FromFn.{length-range_with_len}
use Rattle.std.proofs.lemmas.Bool.Decides.{nat_tests}
use Rattle.ltm_network.specs.Network.{head_of, out_links, in_links}
use Rattle.ltm_network.specs.IsNetwork.{IsNetwork}
use Rattle.ltm_network.proofs.Counted.{has_places}
use Rattle.ltm_splits.specs.Rows.{SplitRow, is_of}
use Rattle.ltm_scenario.specs.declared.setup.Setup.{Setup}
use Rattle.ltm_scenario.specs.Setup.{default_cells}
use Rattle.ltm_scenario.specs.Data.{ScenarioData}
use Rattle.ltm_scenario.specs.Reads.{destination_node, has_split}
use Rattle.ltm_scenario.specs.Cells.{arms_of, width_of, width, widths, cells_of, cells_with, cells}
use Rattle.ltm_scenario.specs.Valid.{leads_on, is_demand_split, is_split_begun, is_split_led, IsValid}
use Rattle.ltm_scenario.specs.IsScenario.{IsScenario}
use Rattle.ltm_make.specs.Links.{made_setup}
use Rattle.ltm_make.proofs.Counting.{is_same}
use Rattle.ltm_make.proofs.Covered.{Begun}

-- what is asked: two destinations, the setup of a made case, and for each node a split row for each destination that it is not
pub record IsCovered (s : ScenarioData) : Type 0 where
  pub two : length s.destinations ≡ 2
  pub setup : s.setup ≡ made_setup
  pub begun : Begun s.splits
  pub covered : (u d : ℕ) → u < length s.network.nodes → d < 2 → (u == destination_node s d) ≡ false → has_split s.splits u d ≡ true

or_second : (a b : Bool) → b ≡ true → (a || b) ≡ true
or_second true b e = refl
or_second false b e = e

or_else : (a b : Bool) → (a ≡ false → b ≡ true) → (a || b) ≡ true
or_else true b h = refl
or_else false b h = h refl

and_join : (a b : Bool) → a ≡ true → b ≡ true → (a && b) ≡ true
and_join a b e f = ap (λ (x : Bool). x && b) e ∙ f

-- each link leads on
link_leads : (s : ScenarioData) → IsCovered s → (d link weight : ℕ) → d < 2 → head_of s.network link < length s.network.nodes → leads_on s d link weight ≡ true
link_leads s h d link weight l there =
    or_second (weight == 0) ((head_of s.network link == destination_node s d) || has_split s.splits (head_of s.network link) d)
    (or_else (head_of s.network link == destination_node s d) (has_split s.splits (head_of s.network link) d) (h.covered (head_of s.network link) d there l))

links_lead : (s : ScenarioData) → IsCovered s → (d : ℕ) → d < 2 → (links weights : List ℕ) → ((i : ℕ) → i < length links → head_of s.network (get_or links i 0) < length s.network.nodes) →
    list_all (λ (p : ℕ × ℕ). leads_on s d p.0 p.1) (zip links weights) ≡ true
links_lead s h d l [] weights there = refl
links_lead s h d l (link ∷ links) [] there = refl
links_lead s h d l (link ∷ links) (weight ∷ weights) there =
    and_join (leads_on s d link weight) (list_all (λ (p : ℕ × ℕ). leads_on s d p.0 p.1) (zip links weights))
    (link_leads s h d link weight l (there 0 (omega arith)))
    (links_lead s h d l links weights (λ i x. there (suc i) (omega arith)))

-- the cells are few
few_arms : (ins outs : ℕ) → ins ≤ 4 → arms_of ins outs ≤ 5
few_arms ins outs l = elim (outs == 0) as (λ (b : Bool). cond b ins (ins + 1) ≤ 5) [ true ↦ omega arith | false ↦ omega arith ]

few_in_row : (s : ScenarioData) (u : ℕ) → IsNetwork s.network → length s.destinations ≡ 2 → width s u ≤ 46
few_in_row s u net two =
    let arms : ℕ = arms_of (length (in_links s.network u)) (length (out_links s.network u)) in
    let outs : ℕ = length (out_links s.network u) in
    let few = few_arms (length (in_links s.network u)) (length (out_links s.network u)) (net.few_in u) in
    let same : width s u ≡ width_of (arms_of (length (in_links s.network u)) (length (out_links s.network u))) (length (out_links s.network u)) 2 =
    ap (λ (n : ℕ). width_of (arms_of (length (in_links s.network u)) (length (out_links s.network u))) (length (out_links s.network u)) n) two in
    omega (arith, same, few, net.few_out u)

few_widths : (s : ScenarioData) → IsNetwork s.network → length s.destinations ≡ 2 → widths s ≤ 46 * length s.network.nodes
unfolding widths
few_widths s net two =
    omega (
      arith,
      sum_by-le (width s) 46 (range_with_len 0 (length s.network.nodes)) (λ k d l. few_in_row s (get_or (range_with_len 0 (length s.network.nodes)) k d) net two),
      length-range_with_len 0 (length s.network.nodes),
    )

few_cells : (s : ScenarioData) → IsScenario s → IsCovered s → cells s ≤ default_cells
unfolding cells cells_with
few_cells s is h =
    let by : cells_of s.setup.slots (widths s) (length s.network.links) (length s.network.nodes) (length s.destinations) ≡ cells_of 60 (widths s) (length s.network.links) (length s.network.nodes) 2 =
    ap (λ (n : ℕ). cells_of n (widths s) (length s.network.links) (length s.network.nodes) (length s.destinations)) (ap (λ (z : Setup). z.slots) h.setup)
    ∙ ap (λ (n : ℕ). cells_of 60 (widths s) (length s.network.links) (length s.network.nodes) n) h.two in
    omega (arith, by, few_widths s is.network h.two, is.network.few_links, is.most_links, ap (λ (z : Setup). z.most_links) h.setup, is.network.few_nodes)

true_le : (a b : ℕ) → a ≤ b → nat_le a b ≡ true
true_le a b l = grind (arith, nat_tests)

pub is_valid : (s : ScenarioData) → IsScenario s → IsCovered s → IsValid s
is_valid s is h = record {
  demand_is_split = list_all-from_AllPass (is_demand_split s) s.demand
      (λ k d l. let r = is.demand k d l in h.covered (get_or s.demand k d).origin.0 (get_or s.demand k d).destination r.origin_is_node (omega (arith, r.destination_is_one, h.two)) r.ends_differ);
  splits_are_begun = list_all-from_AllPass (is_split_begun s) s.splits
      (λ k d l.
      let row : SplitRow = get_or s.splits k d in
      list_any_at (λ (x : SplitRow). is_of (get_or s.splits k d).0.node.0 (get_or s.splits k d).0.destination x && (x.0.from == 0)) s.splits k d l
      (and_join (is_of (get_or s.splits k d).0.node.0 (get_or s.splits k d).0.destination (get_or s.splits k d)) ((get_or s.splits k d).0.from == 0)
      (and_join ((get_or s.splits k d).0.node.0 == (get_or s.splits k d).0.node.0) ((get_or s.splits k d).0.destination == (get_or s.splits k d).0.destination)
      (is_same (get_or s.splits k d).0.node.0 (get_or s.splits k d).0.node.0 refl) (is_same (get_or s.splits k d).0.destination (get_or s.splits k d).0.destination refl))
      (is_same (get_or s.splits k d).0.from 0 (h.begun k d l))));
  splits_are_led = list_all-from_AllPass (is_split_led s) s.splits
      (λ k d l.
      let r = is.splits k d l in
      links_lead s h (get_or s.splits k d).0.destination (omega (arith, r.destination_is_one, h.two)) (out_links s.network (get_or s.splits k d).0.node.0) (get_or s.splits k d).1
      (λ i x. is.network.head_is_node (get_or (out_links s.network (get_or s.splits k d).0.node.0) i 0) ((has_places s.network).out_link_is_link (get_or s.splits k d).0.node.0 i x)));
  small = ap (λ (z : Setup). not z.history || nat_le (cells s) z.most_cells) h.setup ∙ true_le (cells s) default_cells (few_cells s is h);
}
