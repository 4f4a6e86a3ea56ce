-- How much there is to do between two batches.
use Rattle.std.specs.Prelude.{◌≡◌, ℕ, ◌+◌, ◌*◌, ◌<◌, ◌≤◌, List, Some, Bool}
use Rattle.ltm_curve.specs.Counts.{Counts}
use Rattle.ltm_loading.specs.Pairs.{pair_row}
use Rattle.ltm_loading.specs.Loading.{IsLoading}
use Rattle.ltm_loading.specs.Differing.{unlike, row_of, differing}
use Rattle.ltm_repair.specs.Desk.{Desk, IsAtRest}
use Rattle.ltm_repair.specs.Counting.{left_to_do, undone, claims_out}
use Rattle.ltm_repair.specs.State.{RepairState, now}
use Rattle.ltm_repair.specs.Repair.{IsRepair}
use Rattle.ltm_repair.specs.Events.{CoreEvent, Accepted}
use Rattle.ltm_repair.specs.Runs.{CoreRun, in_all, look_in, claim_in, give_back_in, work_in, commits_of, commits_in, AcceptsNothing}

-- between two accepted batches no pair is committed twice
abbrev pub NoneTwice : Type 0
NoneTwice =
    (s e : RepairState) (events : List CoreEvent) → IsRepair s → CoreRun s events e → AcceptsNothing events → (u t : ℕ) → commits_of u t events ≤ 1

-- from rest at s one batch is accepted, which leads to m, and events without another lead to rest at e
pub record RepairsOneBatch (s m e : RepairState) (touched : ℕ → ℕ → Bool) (events : List CoreEvent) : Type 0 where
  pub repair : IsRepair s
  pub rest : IsAtRest (now s) s.desk
  pub batch : Accepted s touched m
  pub run : CoreRun m events e
  pub no_other : AcceptsNothing events
  pub rest_again : IsAtRest (now e) e.desk

-- then a pair is committed once where it reads other numbers in the new loading than in the old one, and else not at all
abbrev pub CommitsDifferences : Type 0
CommitsDifferences =
    (s m e : RepairState) (touched : ℕ → ℕ → Bool) (events : List CoreEvent) (a b : Counts) →
    RepairsOneBatch s m e touched events → IsLoading (now s) a → IsLoading (now m) b →
    (u t : ℕ) → u < (now m).nodes → t < (now m).slots → commits_of u t events ≡ unlike (row_of (now s) a u t) (Some (pair_row (now m) b u t))

-- and the commits are as many as pairs differ
abbrev pub CommitsAreDiffering : Type 0
CommitsAreDiffering =
    (s m e : RepairState) (touched : ℕ → ℕ → Bool) (events : List CoreEvent) (a b : Counts) →
    RepairsOneBatch s m e touched events → IsLoading (now s) a → IsLoading (now m) b → commits_in events ≡ differing (now s) (now m) a b

-- without a batch, each commit leaves one pair less whose kept inputs are not those of the loading
abbrev pub CommitsAreUseful : Type 0
CommitsAreUseful =
    (s e : RepairState) (events : List CoreEvent) (c : Counts) → IsRepair s → CoreRun s events e → AcceptsNothing events → IsLoading (now s) c →
    commits_in events + left_to_do (now e) c e.desk ≡ left_to_do (now s) c s.desk

-- so a drain, which goes on to rest, commits as many pairs as have kept inputs that are not those of the loading
abbrev pub DrainsAreExact : Type 0
DrainsAreExact =
    (s e : RepairState) (events : List CoreEvent) (c : Counts) → IsRepair s → CoreRun s events e → AcceptsNothing events →
    IsAtRest (now e) e.desk → IsLoading (now s) c → commits_in events ≡ left_to_do (now s) c s.desk

-- without a batch, at most so many pairs are committed as are active or claimed or of a later slot than such a pair
abbrev pub CommitsAreBounded : Type 0
CommitsAreBounded =
    (s e : RepairState) (events : List CoreEvent) → IsRepair s → CoreRun s events e → AcceptsNothing events →
    commits_in events + undone (now e).nodes (now e).slots e.desk ≤ undone (now s).nodes (now s).slots s.desk

-- each claim that is out may still be committed, and no more than all pairs may
abbrev pub ClaimsAreUndone : Type 0
ClaimsAreUndone = (nodes slots : ℕ) (d : Desk) → (claims_out nodes slots d ≤ undone nodes slots d) × (undone nodes slots d ≤ nodes * slots)

-- without a batch, a claim is out from its event up to its commit or give-back
abbrev pub ClaimsBalance : Type 0
ClaimsBalance =
    (s e : RepairState) (events : List CoreEvent) → IsRepair s → CoreRun s events e → AcceptsNothing events →
    claims_out (now e).nodes (now e).slots e.desk + (commits_in events + in_all give_back_in events)
    ≡ claims_out (now s).nodes (now s).slots s.desk + in_all claim_in events

-- so from no claims out, a schedule has at most two events for each pair, two for each give-back, and the claims that found
-- no pair
abbrev pub WorkIsBounded : Type 0
WorkIsBounded =
    (s e : RepairState) (events : List CoreEvent) → IsRepair s → claims_out (now s).nodes (now s).slots s.desk ≡ 0 → CoreRun s events e → AcceptsNothing events →
    in_all work_in events ≤ 2 * ((now s).nodes * (now s).slots) + 2 * in_all give_back_in events + in_all look_in events
