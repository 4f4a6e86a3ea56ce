-- Every repair of one road whose entry is closed for a slot.
use Rattle.std.proofs.Common.{◌≡◌, ℕ, ◌<◌, arith, refl, ◌∙◌, subst, Bool, List, [], ◌∷◌}
use Rattle.std.specs.Prelude.{Some}
use Rattle.ltm_loading.specs.Setting.{Setting}
use Rattle.ltm_loading.specs.Pairs.{pair_row}
use Rattle.ltm_loading.specs.Loading.{IsLoading}
use Rattle.ltm_loading.specs.Differing.{unlike, row_of, differing}
use Rattle.ltm_loading.specs.OneRoad.{one_road, open_counts, closed_counts}
use Rattle.ltm_loading.proofs.OneRoad.{road_setting, open_loading, closed_loading, road_differs}
use Rattle.ltm_repair.specs.State.{RepairState, now}
use Rattle.ltm_repair.specs.Repair.{IsOpening}
use Rattle.ltm_repair.specs.Events.{CoreEvent}
use Rattle.ltm_repair.specs.Runs.{commits_of, commits_in}
use Rattle.ltm_repair.specs.OneRoad.{road_opening, RepairsClosure, ClosureCommits, OneRoadIsRepaired}
use Rattle.ltm_repair.proofs.Work.{commits_differences, commits_are_differing}

opening : IsOpening road_opening
opening = record {
  rest = record { setting = road_setting 32000; loading = open_loading; kept = λ u t x l. refl; idle = λ u t. (refl, refl) };
  shows = λ g k x l. refl;
  accepted = refl;
  settled = refl;
  shown_at = refl;
  commits = refl;
  none_changed = λ g k. refl;
}

-- 1 where the pair reads other numbers, else 0
abbrev differs : ℕ → ℕ → ℕ
differs u t = unlike (row_of (one_road 32000) open_counts u t) (Some (pair_row (one_road 0) closed_counts u t))

one_pair : (s m e : RepairState) (touched : ℕ → ℕ → Bool) (events : List CoreEvent) → RepairsClosure s m e touched events → (u t : ℕ) → u < 2 → t < 4 → commits_of u t events ≡ differs u t
one_pair s m e touched events h u t x l =
    let first : IsLoading (now s) open_counts = rw h.was_open open_loading in
    let second : IsLoading (now m) closed_counts = rw h.is_closed closed_loading in
    let node : u < (now m).nodes = rw h.is_closed x in
    let slot : t < (now m).slots = rw h.is_closed l in
    let count : commits_of u t events ≡ unlike (row_of (now s) open_counts u t) (Some (pair_row (now m) closed_counts u t)) =
    commits_differences s m e touched events open_counts closed_counts h.repair first second u t node slot in
    let P : Setting → Setting → Type 0 = λ q r. commits_of u t events ≡ unlike (row_of q open_counts u t) (Some (pair_row r closed_counts u t)) in
    let over : P (one_road 32000) (now m) = subst (λ (q : Setting). P q (now m)) h.was_open count in
    subst (λ (r : Setting). P (one_road 32000) r) h.is_closed over

in_all : (s m e : RepairState) (touched : ℕ → ℕ → Bool) (events : List CoreEvent) → RepairsClosure s m e touched events → commits_in events ≡ 5
in_all s m e touched events h =
    let first : IsLoading (now s) open_counts = rw h.was_open open_loading in
    let second : IsLoading (now m) closed_counts = rw h.is_closed closed_loading in
    let count : commits_in events ≡ differing (now s) (now m) open_counts closed_counts =
    commits_are_differing s m e touched events open_counts closed_counts h.repair first second in
    let P : Setting → Setting → Type 0 = λ q r. commits_in events ≡ differing q r open_counts closed_counts in
    let over : P (one_road 32000) (now m) = subst (λ (q : Setting). P q (now m)) h.was_open count in
    let there : P (one_road 32000) (one_road 0) = subst (λ (r : Setting). P (one_road 32000) r) h.is_closed over in
    there ∙ road_differs

four : (a b c d w x y z : ℕ) → a ≡ w → b ≡ x → c ≡ y → d ≡ z → a ∷ b ∷ c ∷ d ∷ [] ≡ w ∷ x ∷ y ∷ z ∷ []
four a b c d w x y z p q r s = rw (p, q, r, s) refl

closure : (s m e : RepairState) (touched : ℕ → ℕ → Bool) (events : List CoreEvent) → RepairsClosure s m e touched events → ClosureCommits events
unfolding unlike
closure s m e touched events h =
    let pair : (u t : ℕ) → u < 2 → t < 4 → commits_of u t events ≡ differs u t = one_pair s m e touched events h in
    record {
      n1 = four (commits_of 0 0 events) (commits_of 0 1 events) (commits_of 0 2 events) (commits_of 0 3 events) 1 1 1 0
          (pair 0 0 (omega arith) (omega arith)) (pair 0 1 (omega arith) (omega arith)) (pair 0 2 (omega arith) (omega arith)) (pair 0 3 (omega arith) (omega arith));
      n2 = four (commits_of 1 0 events) (commits_of 1 1 events) (commits_of 1 2 events) (commits_of 1 3 events) 0 0 1 1
          (pair 1 0 (omega arith) (omega arith)) (pair 1 1 (omega arith) (omega arith)) (pair 1 2 (omega arith) (omega arith)) (pair 1 3 (omega arith) (omega arith));
      in_all = in_all s m e touched events h;
    }

pub one_road_is_repaired : OneRoadIsRepaired
one_road_is_repaired = record { opening = opening; closure = closure }
