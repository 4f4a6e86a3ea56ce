-- What the hands of virtual workers hold, and what a turn does to them.
use Rattle.std.specs.Prelude.{◌≡◌, ◌≢◌, ℕ, ◌+◌, ◌-◌, ◌^◌, min, List, ◌∷◌, ◌++◌, length, map, slice_index_or, slice_set, Option, Some, None}
use Rattle.ltm_repair.specs.Desk.{IsOther}
use Rattle.ltm_repair.specs.Answers.{Rest as NothingLeft, AnswersClaim}
use Rattle.ltm_repair.specs.Events.{CoreEvent, Look, GiveBack}
use Rattle.ltm_repair.specs.Runs.{in_all, look_in, give_back_in, commit_in, commits_in}
use Rattle.ltm_core.specs.Claims.{ClaimData}
use Rattle.ltm_core.specs.Cores.{CoreData, repair_of, IsResting}
use Rattle.ltm_core.specs.CoreAnswers.{IsKeptClaim, Adds}
use Rattle.ltm_core.specs.Runs.{Does}
use Rattle.ltm_workers.specs.declared.hands.Hand.{Hand}
use Rattle.ltm_workers.specs.declared.hands.Hand.TheVariants.{Free, Holds}
use Rattle.ltm_workers.specs.declared.virtual_turns.Act.{Act}
use Rattle.ltm_workers.specs.declared.virtual_turns.Act.TheVariants.{Committed, GaveBack, Waited, Rested}
use Rattle.ltm_workers.specs.declared.driving.Followed.{Followed}
use Rattle.ltm_workers.specs.declared.driving.Followed.TheVariants.{ToRest, ToEnd}
use Rattle.ltm_workers.specs.declared.driving.Driven.{Driven}
use Rattle.ltm_workers.specs.declared.driving.Driven.TheVariants.{Rest, ScheduleEnded}
use Rattle.ltm_workers.specs.Draining.{KeepsButWork}
use Rattle.ltm_workers.specs.Driving.{Held, held_by, worker_of, Acts, none_held, IsDrive}

-- ---- hands
-- the pair in a hand, and the pairs in all of them
abbrev pub held_in : Hand → Held
held_in (Free scratch) = None
held_in (Holds claim) = Some (claim.pair.node.0, claim.pair.slot)

abbrev pub held_at : Option Hand → Held
held_at None = None
held_at (Some hand) = held_in hand

abbrev pub all_held : List (Option Hand) → List Held
all_held hands = map held_at hands

-- the claim in a hand is kept
abbrev pub IsHandKept : CoreData → Hand → Type 0
IsHandKept d (Free scratch) = Unit {0}
IsHandKept d (Holds claim) = IsKeptClaim d claim.pair claim.ticket claim.inputs

-- the pair in a hand is another one than that of a claim
abbrev pub IsApart : Hand → ClaimData → Type 0
IsApart (Free scratch) c = Unit {0}
IsApart (Holds claim) c = IsOther claim.pair.node.0 claim.pair.slot c.pair.node.0 c.pair.slot

-- there are four hands; the claims in them are kept, and are of different pairs
pub record AreHandsKept (d : CoreData) (hands : List (Option Hand)) : Type 0 where
  pub four : length hands ≡ 4
  pub kept : (i : ℕ) (hand : Hand) → slice_index_or hands i None ≡ Some hand → IsHandKept d hand
  pub apart : (i j : ℕ) (hand : Hand) (claim : ClaimData) → i ≢ j → slice_index_or hands i None ≡ Some hand →
      slice_index_or hands j None ≡ Some (Holds claim) → IsApart hand claim

-- ---- acts
-- how many claims were given back, had to wait, or were committed
abbrev pub gave_back : Act → ℕ
gave_back GaveBack = 1
gave_back other = 0

abbrev pub waited : Act → ℕ
waited Waited = 1
waited other = 0

abbrev pub committed : Act → ℕ
committed Committed = 1
committed other = 0

pub record IsEventOf (act : Act) (x : CoreEvent) : Type 0 where
  pub give_back : give_back_in x ≡ gave_back act
  pub look : look_in x ≡ waited act
  pub commit : commit_in x ≡ committed act

-- what the worker of a byte did, and what it holds then; or it claimed, and nothing was left to do
abbrev pub TellsAct : ℕ → CoreData → Held → Act → CoreData → Held → Type 0
TellsAct byte d held Rested e next = (held ≡ None) × (next ≡ None) × AnswersClaim (repair_of d) NothingLeft (repair_of e) × Adds d Look e
TellsAct byte d held act e next = (x : CoreEvent) × IsEventOf act x × Acts byte d held x e next

-- ---- what an act spares
-- the claims that are kept stay, but for the one in the hand
pub record SparesOthers (d : CoreData) (hand : Hand) (e : CoreData) : Type 0 where
  pub keeps : KeepsButWork d e
  pub others : (c : ClaimData) → IsApart hand c → IsKeptClaim d c.pair c.ticket c.inputs → IsKeptClaim e c.pair c.ticket c.inputs

-- what is then in the hand is kept, and is of another pair than those claims
pub record IsNextHand (d : CoreData) (hand : Hand) (e : CoreData) (next : Hand) : Type 0 where
  pub kept : IsHandKept e next
  pub apart : (c : ClaimData) → IsApart hand c → IsKeptClaim d c.pair c.ticket c.inputs → IsApart next c

-- ---- a turn among all hands
pub record TellsTurn (byte : ℕ) (d : CoreData) (held : List Held) (act : Act) (e : CoreData) (after : List Held) : Type 0 where
  pub next : Held
  pub changes : after ≡ slice_set held (worker_of byte) next
  pub tells : TellsAct byte d (held_by held byte) act e next

-- ---- a schedule that is followed
-- all these bytes acted, and each commit ticked the counter of steps once
pub record Follows (old : CoreData) (before : ℕ) (bytes : List ℕ) (given_back not_yet : ℕ) (held : List Held) (new : CoreData) (after : ℕ) : Type 0 where
  pub events : List CoreEvent
  pub drive : IsDrive bytes none_held old events held new
  pub gave_back : given_back ≡ in_all give_back_in events
  pub waited : not_yet ≡ in_all look_in events
  pub steps : after ≡ min (before + commits_in events) (2 ^ 64 - 1)

-- the claim of the next byte found that nothing is left to do
pub record FollowsToRest (old : CoreData) (before : ℕ) (bytes : List ℕ) (new : CoreData) (after : ℕ) : Type 0 where
  pub used : List ℕ
  pub byte : ℕ
  pub unused : List ℕ
  pub split : bytes ≡ used ++ byte ∷ unused
  pub held : List Held
  pub given_back : ℕ
  pub not_yet : ℕ
  pub last : CoreData
  pub follows : Follows old before used given_back not_yet held last after
  pub free : held_by held byte ≡ None
  pub rest : AnswersClaim (repair_of last) NothingLeft (repair_of new)
  pub adds : Adds last Look new

abbrev pub TellsFollowed : CoreData → ℕ → List ℕ → Followed → List Held → CoreData → ℕ → Type 0
TellsFollowed old before bytes ToRest held new after = FollowsToRest old before bytes new after
TellsFollowed old before bytes (ToEnd tally) held new after = Follows old before bytes tally.given_back tally.not_yet held new after

-- ---- a hand that is emptied: a pair in it is given back
abbrev pub IsEmptied : CoreData → Hand → CoreData → Type 0
IsEmptied d (Free scratch) e = e ≡ d
IsEmptied d (Holds claim) e = Does d (GiveBack claim.pair.node.0 claim.pair.slot) e

pub record LaysDown (d : CoreData) (hand : Hand) (e : CoreData) : Type 0 where
  pub spares : SparesOthers d hand e
  pub emptied : IsEmptied d hand e

-- the schedule is used up, and the core does not rest
abbrev pub TellsEnd : Followed → Driven → CoreData → Type 0
TellsEnd ToRest driven core = driven ≡ Rest
TellsEnd (ToEnd tally) Rest core = IsResting core
TellsEnd (ToEnd tally) (ScheduleEnded given_back not_yet) core = (IsResting core → ⊥) × (given_back ≡ tally.given_back) × (not_yet ≡ tally.not_yet)
