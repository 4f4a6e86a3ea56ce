-- One road, worked by hand: what its pairs read, before and after its entry is closed for a slot.
--
-- Link a leads from n1 to n2, in 4 slots of 1000 ms. Its free-flow time is 2000 ms, its wave time 4000 ms, its capacity 500
-- units a slot and its storage 3000 units. n1 produces 500 units for n2 in each of the slots 0 and 1.
use Rattle.std.specs.Prelude.{◌≡◌, ℕ, ◌==◌, List, [], ◌∷◌, map, slice_index, slice_index_or, if◌then◌else◌, false, Some, None}
use Rattle.ltm_curve.specs.Counts.{Counts}
use Rattle.ltm_loading.specs.Setting.{Setting, IsSetting}
use Rattle.ltm_loading.specs.Pairs.{pair_row}
use Rattle.ltm_loading.specs.Loading.{IsLoading}
use Rattle.ltm_loading.specs.Differing.{differing}

-- n1 is node 0; n2 is node 1 and destination 0; so many units may enter a in slot 0
abbrev pub one_road : ℕ → Setting
one_road limit = record {
  step = 1000;
  slots = 4;
  nodes = 2;
  links = 1;
  destinations = 1;
  origin_capacity = 1000;
  by_turn = false;
  tail = λ l. 0;
  head = λ l. 1;
  ins = λ u. u;
  in_link = λ u i. 0;
  in_place = λ l. 0;
  outs = λ u. if u == 0 then 1 else 0;
  out_link = λ u j. 0;
  out_place = λ l. 0;
  free_time = λ l. 2000;
  wave_time = λ l. 4000;
  capacity = λ l t. 500;
  storage = λ l. 3000;
  entry_limit = λ l t. if t == 0 then limit else 32000;
  exit_limit = λ l t. 32000;
  own = λ u. if u == 0 then None else Some 0;
  place = λ d. 1;
  produced = λ u d k. if u == 0 then slice_index (0 ∷ 500 ∷ 1000 ∷ 1000 ∷ 1000 ∷ []) k else 0;
  weight = λ u d t j. 1;
}

-- what has entered a, has left it, has left the origins of n1 and n2, and has arrived, by boundary
abbrev pub road_counts : List ℕ → List ℕ → Counts
road_counts entered left group d k = slice_index (slice_index_or (entered ∷ left ∷ entered ∷ [] ∷ left ∷ []) group []) k

abbrev pub open_counts : Counts
open_counts = road_counts (0 ∷ 500 ∷ 1000 ∷ 1000 ∷ 1000 ∷ []) (0 ∷ 0 ∷ 0 ∷ 500 ∷ 1000 ∷ [])

abbrev pub closed_counts : Counts
closed_counts = road_counts (0 ∷ 0 ∷ 500 ∷ 1000 ∷ 1000 ∷ []) (0 ∷ 0 ∷ 0 ∷ 0 ∷ 500 ∷ [])

-- what a node reads, slot by slot
abbrev pub rows_of : ℕ → Counts → ℕ → List (List ℕ)
rows_of limit counts node = map (pair_row (one_road limit) counts node) (0 ∷ 1 ∷ 2 ∷ 3 ∷ [])

-- both are loadings. n1 reads what its origin sends, what has left it, what has entered a, no arrivals, what a can take, a
-- capacity and a weight; n2 reads what a sends, what has left it, what has arrived, and the capacity of a. Slots 0 to 2 of n1
-- and slots 2 and 3 of n2 differ.
pub record OneRoadIsWorked : Type 0 where
  pub setting : (limit : ℕ) → IsSetting (one_road limit)
  pub before : IsLoading (one_road 32000) open_counts
  pub after : IsLoading (one_road 0) closed_counts
  pub n1_before : rows_of 32000 open_counts 0 ≡
      (500 ∷ 0 ∷ 0 ∷ 0 ∷ 500 ∷ 1000 ∷ 1 ∷ []) ∷ (500 ∷ 500 ∷ 500 ∷ 0 ∷ 500 ∷ 1000 ∷ 1 ∷ [])
      ∷ (0 ∷ 1000 ∷ 1000 ∷ 0 ∷ 500 ∷ 1000 ∷ 1 ∷ []) ∷ (0 ∷ 1000 ∷ 1000 ∷ 0 ∷ 500 ∷ 1000 ∷ 1 ∷ []) ∷ []
  pub n1_after : rows_of 0 closed_counts 0 ≡
      (500 ∷ 0 ∷ 0 ∷ 0 ∷ 0 ∷ 1000 ∷ 1 ∷ []) ∷ (1000 ∷ 0 ∷ 0 ∷ 0 ∷ 500 ∷ 1000 ∷ 1 ∷ [])
      ∷ (500 ∷ 500 ∷ 500 ∷ 0 ∷ 500 ∷ 1000 ∷ 1 ∷ []) ∷ (0 ∷ 1000 ∷ 1000 ∷ 0 ∷ 500 ∷ 1000 ∷ 1 ∷ []) ∷ []
  pub n2_before : rows_of 32000 open_counts 1 ≡
      (0 ∷ 0 ∷ 0 ∷ 500 ∷ []) ∷ (0 ∷ 0 ∷ 0 ∷ 500 ∷ []) ∷ (500 ∷ 0 ∷ 0 ∷ 500 ∷ []) ∷ (500 ∷ 500 ∷ 500 ∷ 500 ∷ []) ∷ []
  pub n2_after : rows_of 0 closed_counts 1 ≡
      (0 ∷ 0 ∷ 0 ∷ 500 ∷ []) ∷ (0 ∷ 0 ∷ 0 ∷ 500 ∷ []) ∷ (0 ∷ 0 ∷ 0 ∷ 500 ∷ []) ∷ (500 ∷ 0 ∷ 0 ∷ 500 ∷ []) ∷ []
  pub differ : differing (one_road 32000) (one_road 0) open_counts closed_counts ≡ 5
