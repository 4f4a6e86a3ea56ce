-- How what code does makes an event.
use Rattle.std.specs.Prelude.{◌≡◌, ◌≢◌, ℕ, ◌+◌, ◌*◌, ◌≤◌, ◌⊎◌, List, length, ◌++◌, Option, Some, None, Bool, true, false}
use Rattle.ltm_node.specs.Inputs.{Inputs}
use Rattle.ltm_node.specs.Outputs.{Outputs}
use Rattle.ltm_node.specs.Solvable.{IsSolvable}
use Rattle.ltm_node.specs.Step.{IsNodeStep}
use Rattle.ltm_loading.specs.Setting.{Setting, IsSetting}
use Rattle.ltm_loading.specs.Pairs.{arms_of, shape_at, count_row}
use Rattle.ltm_loading.specs.Loading.{IsFront}
use Rattle.ltm_loading.specs.NextPair.{Applies}
use Rattle.ltm_repair.specs.Desk.{Desk, IsIdleBefore}
use Rattle.ltm_repair.specs.Facts.{IsSound, inputs_from}
use Rattle.ltm_repair.specs.Moves.{Sets, KeepsRow, Forgets}
use Rattle.ltm_repair.specs.State.{RepairState}
use Rattle.ltm_repair.specs.Events.{CoreEvent, Look, Claim, GiveBack, Commit, Accept, Publish, Settle, Stay, Happens}
use Rattle.ltm_repair.specs.Answers.{ClaimAnswer, Got, NotYet, Rest, CommitAnswer, Done, Stale, PublishAnswer, Shown, NotAtRest, AnswersClaim, AnswersCommit, AnswersGiveBack, AnswersAccept, AnswersPublish, AnswersSettle}

-- where all earlier pairs are idle the counts are the front of a loading, so the inputs of a pair can be read
abbrev pub IdleIsFront : Type 0
IdleIsFront = (s : Setting) (d : Desk) (slot : ℕ) → IsSound s d → slot ≤ s.slots → IsIdleBefore s d slot → IsFront s d.counts slot

-- the inputs of a claim are in the range of a node step
abbrev pub ClaimsAreSolvable : Type 0
ClaimsAreSolvable = (s : Setting) (d : Desk) (u t : ℕ) (row : List ℕ) → IsSetting s → IsSound s d → d.claimed u t ≡ Some row → IsSolvable (inputs_from s u row)

-- the outputs of a claim's node step, applied, and its inputs, kept, set the counts of the pair
abbrev pub AppliedSets : Type 0
AppliedSets =
    (s : Setting) (d e : Desk) (u t : ℕ) (row : List ℕ) (n : Inputs) (o : Outputs) → IsSetting s → IsSound s d → d.claimed u t ≡ Some row →
    n.shape ≡ shape_at s u → n.row ≡ row → IsNodeStep n o → Applies s u (t + 1) o.row d.counts e.counts →
    KeepsRow s d u t row e → Sets s d u t row e

-- inputs whose counts were those of the node at the slot's beginning may be forgotten once these are other ones
abbrev pub ChangedAreForgotten : Type 0
ChangedAreForgotten =
    (s : Setting) (d e : Desk) (u t : ℕ) (sends rest : List ℕ) → length sends ≡ arms_of s u * s.destinations →
    d.kept u t ≡ Some (sends ++ (count_row s d.counts u t ++ rest)) → count_row s e.counts u t ≢ count_row s d.counts u t →
    e.kept u t ≡ None → Forgets s d u t e

-- the event that an answer is
abbrev pub claim_event : ClaimAnswer → CoreEvent
claim_event (Got u t ticket row) = Claim u t
claim_event NotYet = Look
claim_event Rest = Look

abbrev pub commit_event : ℕ → ℕ → CommitAnswer → CoreEvent
commit_event u t Done = Commit u t
commit_event u t (Stale claimed_at accepted) = Stay

abbrev pub accept_event : Bool → CoreEvent
accept_event true = Accept
accept_event false = Stay

abbrev pub publish_event : PublishAnswer → CoreEvent
publish_event (Shown version) = Publish
publish_event NotAtRest = Stay

abbrev pub settle_event : Option ℕ → CoreEvent
settle_event (Some n) = Settle n
settle_event None = Stay

-- whatever a call answers, an event has happened
pub record AnswersAreEvents : Type 0 where
  pub claim : (s e : RepairState) (answer : ClaimAnswer) → AnswersClaim s answer e → Happens s (claim_event answer) e
  pub commit : (s e : RepairState) (u t ticket : ℕ) (row : List ℕ) (wakes : ℕ → ℕ → Bool) (answer : CommitAnswer) →
      AnswersCommit s u t ticket row wakes answer e → Happens s (commit_event u t answer) e
  pub give_back : (s e : RepairState) (u t ticket : ℕ) (row : List ℕ) →
      AnswersGiveBack s u t ticket row e → Happens s (GiveBack u t) e ⊎ Happens s Stay e
  pub accept : (s e : RepairState) (next : Setting) (touched : ℕ → ℕ → Bool) (is_taken : Bool) →
      AnswersAccept s next touched is_taken e → Happens s (accept_event is_taken) e
  pub publish : (s e : RepairState) (answer : PublishAnswer) → AnswersPublish s answer e → Happens s (publish_event answer) e
  pub settle : (s e : RepairState) (answer : Option ℕ) → AnswersSettle s answer e → Happens s (settle_event answer) e
