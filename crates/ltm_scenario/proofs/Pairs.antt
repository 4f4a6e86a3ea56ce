-- All split rows of a node and a destination at once: they keep a scenario one and valid, and are undone.
use Rattle.std.proofs.Common.{◌≡◌, ℕ, ◌<◌, ◌≤◌, suc, ◌==◌, ◌&&◌, ◌||◌, Bool, true, false, cond, nat_lt, List, [], ◌∷◌, ◌++◌, length, get_or, All, Some, Ok, Err, refl, sym, ap, subst, ◌∙◌, arith}
use Rattle.std.specs.Prelude.{filter, slice_get}
use Rattle.std.specs.Option.{option_map}
use Rattle.std.specs.List.{list_any, list_all}
use Rattle.std.specs.declared.cmp.Ordering.{Ordering}
use Rattle.std.specs.declared.cmp.Ordering.TheVariants.{Less, Equal, Greater}
use Rattle.std.specs.Ordering.{is_lt, is_gt}
use Rattle.std.proofs.lemmas.Bool.Decides.{nat_tests}
use Rattle.std.proofs.lemmas.List.Elements.{All-append, All-filter, All-map}
use Rattle.std.proofs.lemmas.List.{length-map}
use Rattle.std.proofs.lemmas.List.Sums.{AllPass-from_list_all, list_all-from_AllPass}
use Rattle.ltm_units.specs.declared.places.NodeId.{NodeId}
use Rattle.ltm_network.specs.Network.{out_links, link_name}
use Rattle.ltm_splits.specs.declared.keys.SplitFault.TheVariants.{TooManyRows}
use Rattle.ltm_splits.specs.Rows as splits
use Rattle.ltm_splits.specs.Rows.{SplitRow, SplitsData, HaveWeights, is_of, key_of}
use Rattle.ltm_splits.specs.Table.{Entry, rows_of_pair}
use Rattle.ltm_splits.specs.Weights.{AreWeights}
use Rattle.ltm_splits.specs.Replaced as of_pair
use Rattle.ltm_splits.specs.Replaced.{pair_cmp, replaced}
use Rattle.ltm_scenario.specs.declared.parts.Parts.{Parts}
use Rattle.ltm_scenario.specs.declared.parts.undo.Undo.TheVariants.{Pair}
use Rattle.ltm_scenario.specs.Data.{ScenarioData, splits_of}
use Rattle.ltm_scenario.specs.Weights.{NamedRow}
use Rattle.ltm_scenario.specs.Reads.{has_split, destination_node}
use Rattle.ltm_scenario.specs.Edits.{weights_at, weight_of, entries_said}
use Rattle.ltm_scenario.specs.Valid.{IsValid, has_start, all_lead_on, is_demand_split, is_split_begun, is_split_led}
use Rattle.ltm_scenario.specs.IsScenario.{IsScenario, IsSplitOf}
use Rattle.ltm_scenario.specs.Parts.{scenario_in, state_in, AreParts}
use Rattle.ltm_scenario.specs.Undo.{Undoes}
use Rattle.ltm_scenario.proofs.Kept.{with_split_rows}
use Rattle.ltm_scenario.proofs.Changed.{splits_there}
use Rattle.ltm_scenario.proofs.Keeps.{with_rows, and_join, all_weaker, all_lead_more, still_small}
use Rattle.ltm_scenario.proofs.Undoing.{undoes_by}

-- the data once the rows of a pair are others
pub with_pair_rows : (d next : SplitsData) (n e : ℕ) (entries : List Entry) → of_pair.with_pair d n e entries ≡ Ok next → next ≡ splits.with_rows d (replaced d.rows n e entries)
with_pair_rows d next n e entries is =
    elim (nat_lt d.most_rows (length (replaced d.rows n e entries))) as (λ b. cond b (Err TooManyRows) (Ok (splits.with_rows d (replaced d.rows n e entries))) ≡ Ok next → next ≡ splits.with_rows d (replaced d.rows n e entries)) [
      | true ↦ λ r. cc
      | false ↦ λ r. cc
    ] is

module _ (n d : ℕ) (entries : List Entry) where
  abbrev own : List SplitRow
  own = rows_of_pair n d entries

  abbrev before : List SplitRow → List SplitRow
  before rows = filter (λ row. is_lt (pair_cmp n d row)) rows

  abbrev behind : List SplitRow → List SplitRow
  behind rows = filter (λ row. is_gt (pair_cmp n d row)) rows

  -- what holds of all rows, and of the new ones
  all_replaced : (P : SplitRow → Type 0) (rows : List SplitRow) → All P rows → All P own → All P (replaced rows n d entries)
  unfolding replaced
  all_replaced P rows all here =
      All-append P (before rows) (own ++ behind rows) (All-filter (λ row. is_lt (pair_cmp n d row)) P rows all) (All-append P own (behind rows) here (All-filter (λ row. is_gt (pair_cmp n d row)) P rows all))

  passes_replaced : (p : SplitRow → Bool) (rows : List SplitRow) → list_all p rows ≡ true → list_all p own ≡ true → list_all p (replaced rows n d entries) ≡ true
  passes_replaced p rows all here =
      list_all-from_AllPass p (replaced rows n d entries) (all_replaced (λ row. p row ≡ true) rows (AllPass-from_list_all p rows all) (AllPass-from_list_all p own here))

  -- what some row passes
  any_append : (p : SplitRow → Bool) (xs ys : List SplitRow) → list_any p (xs ++ ys) ≡ (list_any p xs || list_any p ys)
  any_append p [] ys = refl
  any_append p (x ∷ xs) ys = elim (p x) as (λ b. (b || list_any p (xs ++ ys)) ≡ ((b || list_any p xs) || list_any p ys)) [ true ↦ refl | false ↦ any_append p xs ys ]

  any_parts : (p : SplitRow → Bool) (rows : List SplitRow) → list_any p (replaced rows n d entries) ≡ (list_any p (before rows) || (list_any p own || list_any p (behind rows)))
  unfolding replaced
  any_parts p rows = any_append p (before rows) (own ++ behind rows) ∙ ap (λ b. list_any p (before rows) || b) (any_append p own (behind rows))

  in_first : (a b c : Bool) → a ≡ true → (a || (b || c)) ≡ true
  in_first a b c h = ap (λ x. x || (b || c)) h

  in_second : (a b c : Bool) → b ≡ true → (a || (b || c)) ≡ true
  in_second true b c h = refl
  in_second false b c h = ap (λ x. x || c) h

  in_third : (a b c : Bool) → c ≡ true → (a || (b || c)) ≡ true
  in_third true b c h = refl
  in_third false true c h = refl
  in_third false false c h = h

  first_more : (x a b c : Bool) → (a || (b || c)) ≡ true → ((x || a) || (b || c)) ≡ true
  first_more true a b c h = refl
  first_more false a b c h = h

  third_more : (x a b c : Bool) → (a || (b || c)) ≡ true → (a || (b || (x || c))) ≡ true
  third_more x true b c h = refl
  third_more x false true c h = refl
  third_more true false false c h = refl
  third_more false false false c h = h

  is_of_equal : (row : SplitRow) → pair_cmp n d row ≡ Equal → is_of n d row ≡ true
  is_of_equal row e = grind (arith, nat_tests)

  -- a test that some row passes is passed by some row of the others, or by some new one
  any_stays : (p : SplitRow → Bool) → ((row : SplitRow) → is_of n d row ≡ true → p row ≡ true → list_any p own ≡ true) → (rows : List SplitRow) → list_any p rows ≡ true → (list_any p (before rows) || (list_any p own || list_any p (behind rows))) ≡ true
  any_stays p here [] some = cc
  any_stays p here (x ∷ xs) some =
      let a : Bool = list_any p (before xs) in
      let b : Bool = list_any p own in
      let c : Bool = list_any p (behind xs) in
      elim (p x) as (λ t. p x ≡ t → (t || list_any p xs) ≡ true → (list_any p (before (x ∷ xs)) || (b || list_any p (behind (x ∷ xs)))) ≡ true) [
        | true ↦ λ is _. elim (pair_cmp n d x) as (λ (r : Ordering). pair_cmp n d x ≡ r → (list_any p (cond (is_lt r) (x ∷ before xs) (before xs)) || (b || list_any p (cond (is_gt r) (x ∷ behind xs) (behind xs)))) ≡ true) [
          | Less ↦ λ _. in_first (p x || a) b c (ap (λ t. t || a) is)
          | Equal ↦ λ e. in_second a b c (here x (is_of_equal x e) is)
          | Greater ↦ λ _. in_third a b (p x || c) (ap (λ t. t || c) is)
        ] refl
        | false ↦ λ _ rest. elim (pair_cmp n d x) as (λ (r : Ordering). (list_any p (cond (is_lt r) (x ∷ before xs) (before xs)) || (b || list_any p (cond (is_gt r) (x ∷ behind xs) (behind xs)))) ≡ true) [
          | Less ↦ first_more (p x) a b c (any_stays p here xs rest)
          | Equal ↦ any_stays p here xs rest
          | Greater ↦ third_more (p x) a b c (any_stays p here xs rest)
        ]
      ] refl some

  -- ---- where the first of the new rows begins at slot 0
  abbrev BeginsAtStart : List Entry → Type 0
  BeginsAtStart es = option_map (λ e. e.0) (slice_get es 0) ≡ Some 0

  own_starts : (es : List Entry) → BeginsAtStart es → has_start (rows_of_pair n d es) n d ≡ true
  own_starts [] h = cc
  own_starts (e ∷ es) h =
      let zero_is : e.0 ≡ 0 = cc in
      let it : (is_of n d (key_of n d e.0, e.1) && (e.0 == 0)) ≡ true = grind (arith, nat_tests) in
      ap (λ b. b || has_start (rows_of_pair n d es) n d) it

  start_is_split : (rows : List SplitRow) (m k : ℕ) → has_start rows m k ≡ true → has_split rows m k ≡ true
  start_is_split [] m k h = cc
  start_is_split (x ∷ xs) m k h = elim (is_of m k x) as (λ b. ((b && (x.0.from == 0)) || has_start xs m k) ≡ true → (b || has_split xs m k) ≡ true) [
    | true ↦ λ _. refl
    | false ↦ λ rest. start_is_split xs m k rest
  ] h

  same_pair : (row : SplitRow) (m k : ℕ) → is_of n d row ≡ true → is_of m k row ≡ true → (m ≡ n) × (k ≡ d)
  same_pair row m k a b = (grind (arith, nat_tests), grind (arith, nat_tests))

  and_first : (a b : Bool) → (a && b) ≡ true → a ≡ true
  and_first true b e = refl
  and_first false b e = cc

  pub start_stays : BeginsAtStart entries → (rows : List SplitRow) (m k : ℕ) → has_start rows m k ≡ true → has_start (replaced rows n d entries) m k ≡ true
  start_stays first rows m k h =
      let p : SplitRow → Bool = λ row. is_of m k row && (row.0.from == 0) in
      any_parts p rows ∙ any_stays p (λ row of is.
      let same = same_pair row m k of (and_first (is_of m k row) (row.0.from == 0) is) in
      ap (λ v. has_start own v k) same.0 ∙ ap (λ v. has_start own n v) same.1 ∙ own_starts entries first) rows h

  pub split_stays : BeginsAtStart entries → (rows : List SplitRow) (m k : ℕ) → has_split rows m k ≡ true → has_split (replaced rows n d entries) m k ≡ true
  split_stays first rows m k h =
      any_parts (is_of m k) rows ∙ any_stays (is_of m k) (λ row of is.
      let same = same_pair row m k of is in
      ap (λ v. has_split own v k) same.0 ∙ ap (λ v. has_split own n v) same.1 ∙ start_is_split own n d (own_starts entries first)) rows h

  pub start_there : BeginsAtStart entries → (rows : List SplitRow) → has_start (replaced rows n d entries) n d ≡ true
  start_there first rows =
      let p : SplitRow → Bool = λ row. is_of n d row && (row.0.from == 0) in
      any_parts p rows ∙ in_second (list_any p (before rows)) (list_any p own) (list_any p (behind rows)) (own_starts entries first)

  -- ---- where there is a new row
  own_some : (es : List Entry) → 0 < length es → has_split (rows_of_pair n d es) n d ≡ true
  own_some [] some = absurd (omega arith)
  own_some (e ∷ es) some = let it : is_of n d (key_of n d e.0, e.1) ≡ true = grind (arith, nat_tests) in ap (λ b. b || has_split (rows_of_pair n d es) n d) it

  pub split_there : 0 < length entries → (rows : List SplitRow) → has_split (replaced rows n d entries) n d ≡ true
  split_there some rows =
      any_parts (is_of n d) rows ∙ in_second (list_any (is_of n d) (before rows)) (list_any (is_of n d) own) (list_any (is_of n d) (behind rows)) (own_some entries some)

  pub pair_is_scenario : (s : ScenarioData) → IsScenario s → All (IsSplitOf s) own → HaveWeights (replaced s.splits n d entries) → IsScenario (record s { splits = replaced s.splits n d entries })
  pair_is_scenario s is here have = with_split_rows s (replaced s.splits n d entries) is (all_replaced (IsSplitOf s) s.splits is.splits here) have

  -- ---- they keep a scenario valid
  own_pass : (p : SplitRow → Bool) (es : List Entry) → All (λ e. p (key_of n d e.0, e.1) ≡ true) es → list_all p (rows_of_pair n d es) ≡ true
  own_pass p [] all = refl
  own_pass p (e ∷ es) all = and_join (p (key_of n d e.0, e.1)) (list_all p (rows_of_pair n d es)) (all 0 e (omega arith)) (own_pass p es (λ i x less. all (suc i) x (omega arith)))

  pub pair_kept : (s : ScenarioData) → IsValid s → BeginsAtStart entries → All (λ e. all_lead_on s n d e.1 ≡ true) entries → IsValid (record s { splits = replaced s.splits n d entries })
  pair_kept s valid first closed =
      let next : ScenarioData = with_rows s (replaced s.splits n d entries) in
      let stays : (m k : ℕ) → has_split s.splits m k ≡ true → has_split next.splits m k ≡ true = split_stays first s.splits in
      record {
        demand_is_split = all_weaker (is_demand_split s) (is_demand_split next) (λ row. stays row.origin.0 row.destination) s.demand valid.demand_is_split;
        splits_are_begun = passes_replaced (is_split_begun next) s.splits
            (all_weaker (is_split_begun s) (is_split_begun next) (λ row. start_stays first s.splits row.0.node.0 row.0.destination) s.splits valid.splits_are_begun)
            (own_pass (is_split_begun next) entries (λ i e less. start_there first s.splits));
        splits_are_led = passes_replaced (is_split_led next) s.splits
            (all_weaker (is_split_led s) (is_split_led next) (λ row. all_lead_more s next.splits stays row.0.node.0 row.0.destination row.1) s.splits valid.splits_are_led)
            (own_pass (is_split_led next) entries (λ i e less. all_lead_more s next.splits stays n d (get_or entries i e).1 (closed i e less)));
        small = still_small s next refl refl refl valid.small;
      }

-- the rows that an edit says are rows of the scenario
pub said_are_splits : (s : ScenarioData) (n d : ℕ) (rows : List NamedRow) → n < length s.network.nodes → d < length s.destinations → (n == destination_node s d) ≡ false → All (IsSplitOf s) (rows_of_pair n d (entries_said s n rows))
said_are_splits s n d rows node destination ends =
    All-map (IsSplitOf s) (λ (e : Entry). (key_of n d e.0, e.1)) (entries_said s n rows)
    (All-map (λ (e : Entry). IsSplitOf s (key_of n d e.0, e.1)) (λ (row : NamedRow). (row.0, weights_at s n row.1)) rows
    (λ i row less. record { node_is_node = node; destination_is_one = destination; ends_differ = ends; weight_for_each = length-map (out_links s.network n) (λ link. weight_of (get_or rows i row).1 (link_name s.network link)) }))

-- ---- the parts
pub with_pair_parts : (t : Parts) (next : SplitsData) (n d : ℕ) (entries : List Entry) → AreParts t → All (IsSplitOf (scenario_in t)) (rows_of_pair n d entries) → of_pair.with_pair t.splits n d entries ≡ Ok next → HaveWeights next.rows → AreParts (record t { splits = next })
with_pair_parts t next n d entries are is done have =
    let there : of_pair.with_pair (splits_of (scenario_in t)) n d entries ≡ Ok next = ap (λ (s : SplitsData). of_pair.with_pair s n d entries) (sym (splits_there t are)) ∙ done in
    let rows : next ≡ splits.with_rows (splits_of (scenario_in t)) (replaced t.splits.rows n d entries) = with_pair_rows (splits_of (scenario_in t)) next n d entries there in
    record {
      scenario = subst (λ (s : SplitsData). IsScenario (record (scenario_in t) { splits = s.rows })) (sym rows) (pair_is_scenario n d entries (scenario_in t) are.scenario is (subst (λ (s : SplitsData). HaveWeights s.rows) rows have));
      pace = are.pace;
      demand_slots = are.demand_slots;
      splits_slots = ap (λ (s : SplitsData). s.slots) rows;
      entry_slots = are.entry_slots;
      exit_slots = are.exit_slots;
      demand_most = are.demand_most;
      demand_tabled = are.demand_tabled;
      splits_most = ap (λ (s : SplitsData). s.most_rows) rows;
    }

pub pair_undoes : (t : Parts) (next : SplitsData) (node : NodeId) (d : ℕ) (entries was : List Entry) → AreParts t → 0 < length entries → of_pair.with_pair t.splits node.0 d entries ≡ Ok next → replaced next.rows node.0 d was ≡ t.splits.rows → All (λ e. AreWeights e.1) was → length t.splits.rows ≤ t.splits.most_rows →
    Undoes (state_in t) (state_in (record t { splits = next })) (Pair node d was)
pair_undoes t next node d entries was are some done back weights few =
    let rows : next ≡ splits.with_rows t.splits (replaced t.splits.rows node.0 d entries) = with_pair_rows t.splits next node.0 d entries done in
    undoes_by (state_in t) (state_in (record t { splits = next })) (Pair node d was) are.scenario
    (ap (λ (rs : List SplitRow). record (scenario_in t) { splits = rs }) back)
    (ap (λ (s : SplitsData). has_split s.rows node.0 d) rows ∙ split_there node.0 d entries some t.splits.rows, weights, omega (arith, ap length back, few, are.splits_most))
