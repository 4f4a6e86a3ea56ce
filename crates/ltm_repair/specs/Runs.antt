-- Runs of events, and how often something happens in one.
use Rattle.std.specs.Prelude.{◌≡◌, ℕ, ◌+◌, ◌&&◌, ◌==◌, if◌then◌else◌, List, [], ◌∷◌}
use Rattle.ltm_repair.specs.State.{RepairState}
use Rattle.ltm_repair.specs.Events.{CoreEvent, Look, Claim, GiveBack, Commit, Accept, Happens}

-- these events lead from s to e, in this order
abbrev pub CoreRun : RepairState → List CoreEvent → RepairState → Type 0
CoreRun s [] e = e ≡ s
CoreRun s (x ∷ xs) e = (m : RepairState) × Happens s x m × CoreRun m xs e

-- how often something happens in all, given how often in one event
abbrev pub in_all : (CoreEvent → ℕ) → List CoreEvent → ℕ
in_all f [] = 0
in_all f (x ∷ xs) = f x + in_all f xs

-- 1 where the event is a claim that found no pair; a claim of a pair; a claim given back; a commit; a batch
abbrev pub look_in : CoreEvent → ℕ
look_in Look = 1
look_in other = 0

abbrev pub claim_in : CoreEvent → ℕ
claim_in (Claim w v) = 1
claim_in other = 0

abbrev pub give_back_in : CoreEvent → ℕ
give_back_in (GiveBack w v) = 1
give_back_in other = 0

abbrev pub commit_in : CoreEvent → ℕ
commit_in (Commit w v) = 1
commit_in other = 0

abbrev pub batch_in : CoreEvent → ℕ
batch_in Accept = 1
batch_in other = 0

-- 1 where the event is what a worker does: a claim with or without a pair, a commit, or a give-back
abbrev pub work_in : CoreEvent → ℕ
work_in x = look_in x + claim_in x + commit_in x + give_back_in x

-- 1 where the event commits this pair
abbrev pub commit_of : ℕ → ℕ → CoreEvent → ℕ
commit_of u t (Commit w v) = if (u == w) && (t == v) then 1 else 0
commit_of u t other = 0

-- how often this pair is committed, and pairs in all
abbrev pub commits_of : ℕ → ℕ → List CoreEvent → ℕ
commits_of u t events = in_all (commit_of u t) events

abbrev pub commits_in : List CoreEvent → ℕ
commits_in events = in_all commit_in events

-- no batch is accepted
abbrev pub AcceptsNothing : List CoreEvent → Type 0
AcceptsNothing events = in_all batch_in events ≡ 0
