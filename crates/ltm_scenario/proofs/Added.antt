-- A node becomes a destination.
use Rattle.std.proofs.Common.{IfSome, suc, ◌-◌, ◌≡◌, ℕ, ◌+◌, ◌<◌, ◌≤◌, ◌==◌, List, [], ◌∷◌, ◌++◌, length, Bool, true, false, cond, if◌then◌else◌, Option, Some, None, Ok, Err, get_or, slice_index, nat_le, refl, sym, ap, subst, ◌∙◌, arith, inl, inr, length-append}
use Rattle.std.proofs.lemmas.Bool.{cases_lt}
use Rattle.std.proofs.lemmas.Bool.Decides.{nat_tests}
use Rattle.std.proofs.lemmas.List.{get_or_push, get_or_append_left}
use Rattle.std.proofs.lemmas.List.Elements.{All-push}
use Rattle.std.specs.List.{position_from}
use Rattle.ltm_scenario.specs.declared.faults.DestinationFault.TheVariants.{TooMany}
use Rattle.ltm_scenario.specs.Data.{ScenarioData}
use Rattle.ltm_scenario.specs.Reads.{destination_of}
use Rattle.ltm_scenario.specs.Build.{with_destination_at}
use Rattle.ltm_scenario.specs.IsScenario.{IsScenario}

-- one more element is looked at last
position_push : (p : ℕ → Bool) (i : ℕ) (xs : List ℕ) (x : ℕ) → position_from p i xs ≡ None → position_from p i (xs ++ x ∷ []) ≡ (if p x then Some (i + length xs) else None)
position_push p i [] x none = elim (p x) as (λ b. cond b (Some i) None ≡ cond b (Some (i + 0)) None) [ true ↦ ap Some (omega arith) | false ↦ refl ]
position_push p i (y ∷ ys) x none =
    elim (p y) as (λ b. cond b (Some i) (position_from p (i + 1) ys) ≡ None → cond b (Some i) (position_from p (i + 1) (ys ++ x ∷ [])) ≡ (if p x then Some (i + length (y ∷ ys)) else None)) [
      | true ↦ λ e. cc
      | false ↦ λ e. position_push p (i + 1) ys x e ∙ ap (λ n. if p x then Some n else None) (let e : i + 1 + length ys ≡ i + length (y ∷ ys) = omega arith in e)
    ] none

position_stays : (p : ℕ → Bool) (i n : ℕ) (xs ys : List ℕ) → position_from p i xs ≡ Some n → position_from p i (xs ++ ys) ≡ Some n
position_stays p i n [] ys some = cc
position_stays p i n (x ∷ xs) ys some =
    elim (p x) as (λ b. cond b (Some i) (position_from p (i + 1) xs) ≡ Some n → cond b (Some i) (position_from p (i + 1) (xs ++ ys)) ≡ Some n) [
      | true ↦ λ e. e
      | false ↦ λ e. position_stays p (i + 1) n xs ys e
    ] some

-- the place of a new destination is the last
pub place_of_new : (ds : List ℕ) (node : ℕ) → destination_of ds node ≡ None → destination_of (ds ++ node ∷ []) node ≡ Some (length ds)
place_of_new ds node none =
    let itself : (node == node) ≡ true = grind (arith, nat_tests) in
    position_push (λ d. d == node) 0 ds node none ∙ ap (λ b. if b then Some (0 + length ds) else None) itself ∙ ap Some (omega arith)

-- every other node keeps its place
pub place_of_other : (ds : List ℕ) (node other : ℕ) → (node ≡ other → ⊥) → destination_of (ds ++ node ∷ []) other ≡ destination_of ds other
place_of_other ds node other apart =
    elim (destination_of ds other) as (λ r. destination_of ds other ≡ r → destination_of (ds ++ node ∷ []) other ≡ r) [
      | None ↦ λ none. position_push (λ d. d == other) 0 ds node none ∙ ap (λ b. if b then Some (0 + length ds) else None) (let no : (node == other) ≡ false = grind (arith, nat_tests, apart) in no)
      | Some n ↦ λ some. position_stays (λ d. d == other) 0 n ds (node ∷ []) some
    ] refl

node_stays : (ds : List ℕ) (node k : ℕ) → k < length ds → slice_index (ds ++ node ∷ []) k ≡ slice_index ds k
node_stays ds node k h = get_or_append_left ds (node ∷ []) 0 k h

pushed_is_scenario : (s : ScenarioData) (node : ℕ) → IsScenario s → node < length s.network.nodes → destination_of s.destinations node ≡ None → length s.destinations < s.setup.most_destinations → IsScenario (record s { destinations = s.destinations ++ node ∷ [] })
pushed_is_scenario s node is there none few =
    let ds : List ℕ = s.destinations ++ node ∷ [] in
    let long : length ds ≡ length s.destinations + 1 = length-append s.destinations (node ∷ []) in
    record {
      setup = is.setup;
      network = is.network;
      most_links = is.most_links;
      diagram_for_each = is.diagram_for_each;
      limits = is.limits;
      entry = is.entry;
      exit = is.exit;
      few_destinations = omega arith;
      destinations_are_nodes = All-push (λ n. n < length s.network.nodes) s.destinations node is.destinations_are_nodes there;
      destinations_apart = λ k below.
          elim (cases_lt k (length s.destinations)) [
            | inl old ↦
                ap (destination_of ds) (node_stays s.destinations node k old)
                ∙ position_stays (λ d. d == slice_index s.destinations k) 0 k s.destinations (node ∷ []) (is.destinations_apart k old)
            | inr new ↦
                let last : k ≡ length s.destinations = omega arith in
                ap (destination_of ds) (ap (slice_index ds) last ∙ get_or_push s.destinations node 0 (length s.destinations) refl)
                ∙ place_of_new s.destinations node none ∙ ap Some (sym last)
          ];
      demand = λ k d below.
          let old = is.demand k d below in
          record {
            origin_is_node = old.origin_is_node;
            origin_has_out_link = old.origin_has_out_link;
            destination_is_one = omega (arith, old.destination_is_one);
            ends_differ = ap (λ n. (get_or s.demand k d).origin.0 == n) (node_stays s.destinations node (get_or s.demand k d).destination old.destination_is_one) ∙ old.ends_differ;
          };
      demand_rows = is.demand_rows;
      weights = is.weights;
      splits = λ k d below.
          let old = is.splits k d below in
          record {
            node_is_node = old.node_is_node;
            destination_is_one = omega (arith, old.destination_is_one);
            ends_differ = ap (λ n. (get_or s.splits k d).0.node.0 == n) (node_stays s.destinations node (get_or s.splits k d).0.destination old.destination_is_one) ∙ old.ends_differ;
            weight_for_each = old.weight_for_each;
          };
    }

pub added_is_scenario : (s : ScenarioData) (node : ℕ) (next : List ℕ) → IsScenario s → node < length s.network.nodes → with_destination_at s.setup.most_destinations s.destinations node (destination_of s.destinations node) ≡ Ok next → IsScenario (record s { destinations = next })
added_is_scenario s node next is there done =
    elim (destination_of s.destinations node) as (λ r. destination_of s.destinations node ≡ r → with_destination_at s.setup.most_destinations s.destinations node r ≡ Ok next → IsScenario (record s { destinations = next })) [
      | Some place ↦ λ _ e. let same : s.destinations ≡ next = cc in subst (λ ds. IsScenario (record s { destinations = ds })) same is
      | None ↦ λ none e.
          elim (nat_le s.setup.most_destinations (length s.destinations)) as (λ b. nat_le s.setup.most_destinations (length s.destinations) ≡ b → cond b (Err TooMany) (Ok (s.destinations ++ node ∷ [])) ≡ Ok next → IsScenario (record s { destinations = next })) [
            | true ↦ λ _ e. cc
            | false ↦ λ few e.
                let same : s.destinations ++ node ∷ [] ≡ next = cc in
                let less : length s.destinations < s.setup.most_destinations = grind (arith, nat_tests) in
                subst (λ ds. IsScenario (record s { destinations = ds })) same (pushed_is_scenario s node is there none less)
          ] refl e
    ] refl done

-- the place that a node has is its own
place_tells : (i n : ℕ) (ds : List ℕ) (node : ℕ) → position_from (λ d. d == node) i ds ≡ Some n → (i ≤ n) × (n < i + length ds) × (get_or ds (n - i) 0 ≡ node)
place_tells i n [] node h = cc
place_tells i n (d ∷ ds) node h =
    elim (d == node) as (λ b. (d == node) ≡ b → cond b (Some i) (position_from (λ x. x == node) (i + 1) ds) ≡ Some n → (i ≤ n) × (n < i + length (d ∷ ds)) × (get_or (d ∷ ds) (n - i) 0 ≡ node)) [
      | true ↦ λ is e.
          let same : i ≡ n = cc in
          let here : d ≡ node = grind (arith, nat_tests) in
          (omega arith, omega arith, ap (λ k. get_or (d ∷ ds) k 0) (let z : n - i ≡ 0 = omega arith in z) ∙ here)
      | false ↦ λ _ e.
          let r = place_tells (i + 1) n ds node e in
          (omega (arith, r.0), omega (arith, r.1), ap (λ k. get_or (d ∷ ds) k 0) (let z : n - i ≡ suc (n - (i + 1)) = omega (arith, r.0) in z) ∙ r.2)
    ] refl h

pub place_there : (ds : List ℕ) (node : ℕ) (r : Option ℕ) → r ≡ destination_of ds node → IfSome r (λ place. (place < length ds) × (slice_index ds place ≡ node))
place_there ds node None is = tt
place_there ds node (Some n) is =
    let told = place_tells 0 n ds node (sym is) in
    (omega (arith, told.1), ap (λ k. get_or ds k 0) (let z : n ≡ n - 0 = omega arith in z) ∙ told.2)
