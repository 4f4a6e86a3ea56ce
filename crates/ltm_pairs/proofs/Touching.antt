-- What an edit does to what pairs read.
use Rattle.std.proofs.Common.{◌≡◌, ◌≢◌, ℕ, ◌+◌, ◌-◌, ◌<◌, ◌≤◌, ◌⊎◌, ◌==◌, List, [], false, cond, length, Some, Option, get_or, slice_index, slice_set, arith, inl, inr, refl, sym, ap, ◌∙◌, get_or-set_other}
use Rattle.std.specs.Prelude.{slice_get}
use Rattle.std.specs.Option.{option_map_or}
use Rattle.std.proofs.lemmas.Bool.{cases_lt, cases_eq}
use Rattle.std.proofs.lemmas.Bool.Decides.{nat_tests}
use Rattle.std.proofs.lemmas.Option.{slice_get-get_or, slice_get_past}
use Rattle.std.proofs.Math.ListN.{length-set}
use Rattle.ltm_network.specs.Network.{find_node, find_link, tail_of, head_of, in_link, out_link}
use Rattle.ltm_network.proofs.Counted.{has_places}
use Rattle.ltm_diagram.specs.declared.diagram.Diagram.{Diagram}
use Rattle.ltm_demand.specs.declared.row.DemandRow.{DemandRow}
use Rattle.ltm_demand.specs.Rows.{edited_rows}
use Rattle.ltm_splits.specs.declared.keys.SplitKey.{SplitKey}
use Rattle.ltm_splits.specs.Rows.{put_in}
use Rattle.ltm_splits.specs.Table.{Entry}
use Rattle.ltm_splits.specs.Replaced.{replaced}
use Rattle.ltm_limits.specs.Limits.{with_limit, AreWhole}
use Rattle.ltm_scenario.specs.Data.{ScenarioData}
use Rattle.ltm_scenario.specs.Horizon.{with_slots}
use Rattle.ltm_diagram.specs.Passing.{capacity_in}
use Rattle.ltm_setting.specs.Setting.{set_by, limits_at, produced_by, setting_of}
use Rattle.ltm_loading.specs.Networks.{SameFor}
use Rattle.ltm_pairs.specs.Reaches.{reach, lies_in}
use Rattle.ltm_pairs.proofs.EditLaws.{EditLaws}

-- not in a reach: another node, or another slot
pub outside : (node from to u t : ℕ) → lies_in u t (reach node from to) ≡ false → t < to → (node ≡ u → ⊥) ⊎ (t < from)
outside node from to u t h l = elim (cases_eq node u) [
  | inr apart ↦ inl apart
  | inl same ↦ inr (elim (cases_lt t from) [ inl low ↦ low | inr high ↦ absurd (grind (arith, nat_tests)) ])
]

pub outside_slots : (node from to u t : ℕ) → lies_in u t (reach node from to) ≡ false → (node ≡ u → ⊥) ⊎ ((t < from) ⊎ (to ≤ t))
outside_slots node from to u t h = elim (cases_eq node u) [
  | inr apart ↦ inl apart
  | inl same ↦ inr (elim (cases_lt t from) [
    | inl low ↦ inl low
    | inr high ↦ elim (cases_lt t to) [ inl below ↦ absurd (grind (arith, nat_tests)) | inr past ↦ inr past ]
  ])
]

-- ---- demand
produced_stays : EditLaws → (rows : List DemandRow) (row : DemandRow) (u d t k : ℕ) → (row.origin.0 ≡ u → ⊥) ⊎ (t < row.from) → k ≤ t + 1 → produced_by (edited_rows rows row) u d k ≡ produced_by rows u d k
produced_stays laws rows row u d t k h l = elim (cases_eq k 0) [
  | inl none ↦ grind (arith, nat_tests)
  | inr some ↦
      let silent : (row.origin.0 ≡ u → ⊥) ⊎ (k - 1 < row.from) = elim h [ inl apart ↦ inl apart | inr soon ↦ inr (omega arith) ] in
      ap (λ z. cond (k == 0) 0 z) (laws.production rows row u d (k - 1) silent)
]

pub by_demand : EditLaws → (s : ScenarioData) (row : DemandRow) (u t : ℕ) → (row.origin.0 ≡ u → ⊥) ⊎ (t < row.from) → SameFor (setting_of (record s { demand = edited_rows s.demand row })) (setting_of s) u t
unfolding setting_of
by_demand laws s row u t h = record {
  network = record { nodes = refl; links = refl; destinations = refl; ins = refl; in_link = refl; outs = refl; out_link = refl; own = refl; by_turn = refl };
  step = refl;
  free_time = λ i x. refl;
  in_capacity = λ i x. refl;
  exit_limit = λ i x. refl;
  wave_time = λ j x. refl;
  out_capacity = λ j x. refl;
  storage = λ j x. refl;
  entry_limit = λ j x. refl;
  origin_capacity = refl;
  produced = λ d k x l. produced_stays laws s.demand row u d t k h l;
  weight = λ d j x y. refl;
}

-- ---- weights
pub by_split : EditLaws → (s : ScenarioData) (key : SplitKey) (w : List ℕ) (u t : ℕ) → (key.node.0 ≡ u → ⊥) ⊎ (t < key.from) → SameFor (setting_of (record s { splits = put_in s.splits key w })) (setting_of s) u t
unfolding setting_of
by_split laws s key w u t h = record {
  network = record { nodes = refl; links = refl; destinations = refl; ins = refl; in_link = refl; outs = refl; out_link = refl; own = refl; by_turn = refl };
  step = refl;
  free_time = λ i x. refl;
  in_capacity = λ i x. refl;
  exit_limit = λ i x. refl;
  wave_time = λ j x. refl;
  out_capacity = λ j x. refl;
  storage = λ j x. refl;
  entry_limit = λ j x. refl;
  origin_capacity = refl;
  produced = λ d k x l. refl;
  weight = λ d j x y. ap (λ (o : Option (List ℕ)). option_map_or (λ weights. slice_index weights j) o 0) (laws.weights s.splits key w u d t h);
}

pub by_pair : EditLaws → (s : ScenarioData) (n e : ℕ) (entries : List Entry) (u t : ℕ) → (n ≡ u → ⊥) → SameFor (setting_of (record s { splits = replaced s.splits n e entries })) (setting_of s) u t
unfolding setting_of
by_pair laws s n e entries u t apart = record {
  network = record { nodes = refl; links = refl; destinations = refl; ins = refl; in_link = refl; outs = refl; out_link = refl; own = refl; by_turn = refl };
  step = refl;
  free_time = λ i x. refl;
  in_capacity = λ i x. refl;
  exit_limit = λ i x. refl;
  wave_time = λ j x. refl;
  out_capacity = λ j x. refl;
  storage = λ j x. refl;
  entry_limit = λ j x. refl;
  origin_capacity = refl;
  produced = λ d k x l. refl;
  weight = λ d j x y. ap (λ (o : Option (List ℕ)). option_map_or (λ weights. slice_index weights j) o 0) (laws.pairs s.splits n e entries u d t (inl (λ same. apart (sym same))));
}

-- ---- limits
pub by_entry : EditLaws → (s : ScenarioData) (link from to limit u t : ℕ) → link < length s.entry → from ≤ to → to ≤ length (get_or s.entry link []) → (tail_of s.network link ≡ u → ⊥) ⊎ ((t < from) ⊎ (to ≤ t)) →
    SameFor (setting_of (record s { entry = with_limit s.entry link from to limit })) (setting_of s) u t
unfolding setting_of
by_entry laws s link from to limit u t there order fits h = record {
  network = record { nodes = refl; links = refl; destinations = refl; ins = refl; in_link = refl; outs = refl; out_link = refl; own = refl; by_turn = refl };
  step = refl;
  free_time = λ i x. refl;
  in_capacity = λ i x. refl;
  exit_limit = λ i x. refl;
  wave_time = λ j x. refl;
  out_capacity = λ j x. refl;
  storage = λ j x. refl;
  entry_limit = λ j x. laws.limits.elsewhere s.entry link from to limit (out_link s.network u j) t there order fits (elim h [
    | inl apart ↦ inl (λ same. apart (ap (tail_of s.network) (sym same) ∙ (has_places s.network).out_link_starts u j x))
    | inr slots ↦ inr slots
  ]);
  origin_capacity = refl;
  produced = λ d k x l. refl;
  weight = λ d j x y. refl;
}

pub by_exit : EditLaws → (s : ScenarioData) (link from to limit u t : ℕ) → link < length s.exit → from ≤ to → to ≤ length (get_or s.exit link []) → (head_of s.network link ≡ u → ⊥) ⊎ ((t < from) ⊎ (to ≤ t)) →
    SameFor (setting_of (record s { exit = with_limit s.exit link from to limit })) (setting_of s) u t
unfolding setting_of
by_exit laws s link from to limit u t there order fits h = record {
  network = record { nodes = refl; links = refl; destinations = refl; ins = refl; in_link = refl; outs = refl; out_link = refl; own = refl; by_turn = refl };
  step = refl;
  free_time = λ i x. refl;
  in_capacity = λ i x. refl;
  exit_limit = λ i x. laws.limits.elsewhere s.exit link from to limit (in_link s.network u i) t there order fits (elim h [
    | inl apart ↦ inl (λ same. apart (ap (head_of s.network) (sym same) ∙ (has_places s.network).in_link_ends u i x))
    | inr slots ↦ inr slots
  ]);
  wave_time = λ j x. refl;
  out_capacity = λ j x. refl;
  storage = λ j x. refl;
  entry_limit = λ j x. refl;
  origin_capacity = refl;
  produced = λ d k x l. refl;
  weight = λ d j x y. refl;
}

-- ---- diagrams
slice_get-set_other : (ds : List Diagram) (i j : ℕ) (d : Diagram) → j ≢ i → slice_get (slice_set ds i d) j ≡ slice_get ds j
slice_get-set_other ds i j d apart = elim (cases_lt j (length ds)) [
  | inl there ↦
      slice_get-get_or (slice_set ds i d) j d (omega (length-set ds i d, arith))
      ∙ (ap (λ z. Some z) (get_or-set_other ds i j d d apart) ∙ sym (slice_get-get_or ds j d there))
  | inr past ↦ slice_get_past (slice_set ds i d) j (omega (length-set ds i d, arith)) ∙ sym (slice_get_past ds j past)
]

limits_stay : (s : ScenarioData) (link : ℕ) (diagram : Diagram) (l : ℕ) → l ≢ link → limits_at (record s { diagrams = slice_set s.diagrams link diagram }) l ≡ limits_at s l
limits_stay s link diagram l apart = ap (λ (o : Option Diagram). set_by s.setup.step.0 s.setup.carry o) (slice_get-set_other s.diagrams link l diagram apart)

pub by_diagram : (s : ScenarioData) (link : ℕ) (diagram : Diagram) (u t : ℕ) → (tail_of s.network link ≡ u → ⊥) → (head_of s.network link ≡ u → ⊥) →
    SameFor (setting_of (record s { diagrams = slice_set s.diagrams link diagram })) (setting_of s) u t
unfolding setting_of
by_diagram s link diagram u t tail head =
    let enters : (i : ℕ) → i < length (Rattle.ltm_network.specs.Network.in_links s.network u) → in_link s.network u i ≢ link =
    λ i x same. head (ap (head_of s.network) (sym same) ∙ (has_places s.network).in_link_ends u i x) in
    let leaves : (j : ℕ) → j < length (Rattle.ltm_network.specs.Network.out_links s.network u) → out_link s.network u j ≢ link =
    λ j x same. tail (ap (tail_of s.network) (sym same) ∙ (has_places s.network).out_link_starts u j x) in
    record {
      network = record { nodes = refl; links = refl; destinations = refl; ins = refl; in_link = refl; outs = refl; out_link = refl; own = refl; by_turn = refl };
      step = refl;
      free_time = λ i x. ap (λ z. z.free_ms) (limits_stay s link diagram (in_link s.network u i) (enters i x));
      in_capacity = λ i x. ap (λ z. capacity_in z t) (limits_stay s link diagram (in_link s.network u i) (enters i x));
      exit_limit = λ i x. refl;
      wave_time = λ j x. ap (λ z. z.wave_ms) (limits_stay s link diagram (out_link s.network u j) (leaves j x));
      out_capacity = λ j x. ap (λ z. capacity_in z t) (limits_stay s link diagram (out_link s.network u j) (leaves j x));
      storage = λ j x. ap (λ z. z.storage) (limits_stay s link diagram (out_link s.network u j) (leaves j x));
      entry_limit = λ j x. refl;
      origin_capacity = refl;
      produced = λ d k x l. refl;
      weight = λ d j x y. refl;
    }

-- ---- the horizon
-- the row of a link is as long as the horizon
pub row_long : (limits : List (List ℕ)) (links slots link : ℕ) → AreWhole limits links slots → link < links → length (get_or limits link []) ≡ slots
row_long limits links slots link whole l = whole.long link [] (omega (arith, whole.for_each))

pub by_horizon : EditLaws → (s : ScenarioData) (slots u t : ℕ) → AreWhole s.entry (length s.network.links) s.setup.slots → AreWhole s.exit (length s.network.links) s.setup.slots → t < s.setup.slots → SameFor (setting_of (with_slots s slots)) (setting_of s) u t
unfolding setting_of
by_horizon laws s slots u t entry exit before =
    record {
      network = record { nodes = refl; links = refl; destinations = refl; ins = refl; in_link = refl; outs = refl; out_link = refl; own = refl; by_turn = refl };
      step = refl;
      free_time = λ i x. refl;
      in_capacity = λ i x. refl;
      exit_limit = λ i x.
          let there = (has_places s.network).in_link_is_link u i x in
          laws.longer.here s.exit slots (in_link s.network u i) t (omega (arith, exit.for_each, there)) (omega (arith, before, row_long s.exit (length s.network.links) s.setup.slots (in_link s.network u i) exit there));
      wave_time = λ j x. refl;
      out_capacity = λ j x. refl;
      storage = λ j x. refl;
      entry_limit = λ j x.
          let there = (has_places s.network).out_link_is_link u j x in
          laws.longer.here s.entry slots (out_link s.network u j) t (omega (arith, entry.for_each, there)) (omega (arith, before, row_long s.entry (length s.network.links) s.setup.slots (out_link s.network u j) entry there));
      origin_capacity = refl;
      produced = λ d k x l. refl;
      weight = λ d j x y. refl;
    }
