-- One road whose entry is closed for a slot, and every repair of it.
use Rattle.std.specs.Prelude.{◌≡◌, ℕ, List, [], ◌∷◌, map, Some, None, Bool, false}
use Rattle.ltm_curve.specs.Counts.{total}
use Rattle.ltm_loading.specs.Pairs.{pair_row}
use Rattle.ltm_loading.specs.OneRoad.{one_road, open_counts}
use Rattle.ltm_repair.specs.State.{RepairState, now}
use Rattle.ltm_repair.specs.Repair.{IsOpening}
use Rattle.ltm_repair.specs.Events.{CoreEvent}
use Rattle.ltm_repair.specs.Runs.{commits_of, commits_in}
use Rattle.ltm_repair.specs.Work.{RepairsOneBatch}

-- the open road, loaded and kept
abbrev pub road_opening : RepairState
road_opening = record {
  desk = record { counts = open_counts; kept = λ u t. Some (pair_row (one_road 32000) open_counts u t); active = λ u t. false; claimed = λ u t. None };
  settings = λ k. one_road 32000;
  accepted = 0;
  settled = 0;
  shown_at = 0;
  shown = λ g k. total (one_road 32000).destinations (open_counts g) k;
  commits = 0;
  changed = λ g k. false;
}

-- a repair of the open road after its entry is closed for slot 0
pub record RepairsClosure (s m e : RepairState) (touched : ℕ → ℕ → Bool) (events : List CoreEvent) : Type 0 where
  pub was_open : now s ≡ one_road 32000
  pub is_closed : now m ≡ one_road 0
  pub repair : RepairsOneBatch s m e touched events

-- how often each pair of a node was committed, slot by slot
abbrev pub commits_at : ℕ → List CoreEvent → List ℕ
commits_at node events = map (λ t. commits_of node t events) (0 ∷ 1 ∷ 2 ∷ 3 ∷ [])

-- then n1 is committed in the slots 0 to 2, n2 in the slots 2 and 3, each once, and no other pair
pub record ClosureCommits (events : List CoreEvent) : Type 0 where
  pub n1 : commits_at 0 events ≡ 1 ∷ 1 ∷ 1 ∷ 0 ∷ []
  pub n2 : commits_at 1 events ≡ 0 ∷ 0 ∷ 1 ∷ 1 ∷ []
  pub in_all : commits_in events ≡ 5

-- the open road is where a repair can begin; every repair of the closure, in whatever order, makes these commits
pub record OneRoadIsRepaired : Type 0 where
  pub opening : IsOpening road_opening
  pub closure : (s m e : RepairState) (touched : ℕ → ℕ → Bool) (events : List CoreEvent) → RepairsClosure s m e touched events → ClosureCommits events
