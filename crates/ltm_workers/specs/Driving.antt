-- Drives: four virtual workers, and a schedule whose bytes say who acts.
use Rattle.std.specs.Prelude.{◌≡◌, ℕ, ◌+◌, ◌*◌, ◌/◌, ◌%◌, ◌≤◌, ◌==◌, ◌⊎◌, Bool, if◌then◌else◌, List, [], ◌∷◌, ◌++◌, length, All, slice_index_or, slice_set, Option, Some, None}
use Rattle.std.specs.List.{count_by}
use Rattle.ltm_flows.specs.Setting.{Setting}
use Rattle.ltm_core.specs.Setting.{setting_of}
use Rattle.ltm_repair.specs.Answers.{Got, NotYet, Rest as NothingLeft, AnswersClaim}
use Rattle.ltm_repair.specs.Events.{CoreEvent, Look, Claim, GiveBack, Commit}
use Rattle.ltm_repair.specs.Runs.{in_all, look_in, give_back_in}
use Rattle.ltm_core.specs.Cores.{CoreData, repair_of, IsResting}
use Rattle.ltm_core.specs.CoreAnswers.{Adds}
use Rattle.ltm_core.specs.Runs.{Does, IsRun}
use Rattle.ltm_workers.specs.declared.driving.Driven.{Driven}
use Rattle.ltm_workers.specs.declared.driving.Driven.TheVariants.{Rest, ScheduleEnded}

-- ---- what a byte says
-- which of the four workers acts
abbrev pub worker_of : ℕ → ℕ
worker_of byte = byte % 4

-- whether it gives back what it has claimed
abbrev pub says_give_back : ℕ → Bool
says_give_back byte = byte / 4 % 8 == 7

-- ---- what the workers hold
-- the node and slot of the pair that a worker has claimed, if it has one
abbrev pub Held : Type 0
Held = Option (ℕ × ℕ)

abbrev pub none_held : List Held
none_held = None ∷ None ∷ None ∷ None ∷ []

-- what the worker of a byte holds
abbrev pub held_by : List Held → ℕ → Held
held_by held byte = slice_index_or held (worker_of byte) None

-- ---- the act of a byte: its event, the core after it, and what its worker holds then
-- a worker without a pair claims one, or none is to be had yet
abbrev pub Claims : CoreData → CoreEvent → CoreData → Held → Type 0
Claims d (Claim u t) e after = (ticket : ℕ) × (row : List ℕ) × AnswersClaim (repair_of d) (Got u t ticket row) (repair_of e) × (after ≡ Some (u, t)) × Adds d (Claim u t) e
Claims d Look e after = AnswersClaim (repair_of d) NotYet (repair_of e) × (after ≡ None) × Adds d Look e
Claims d other e after = ⊥

-- a worker with a pair gives it back, or works on it and commits it
abbrev pub Acts : ℕ → CoreData → Held → CoreEvent → CoreData → Held → Type 0
Acts byte d None x e after = Claims d x e after
Acts byte d (Some pair) x e after = (x ≡ (if says_give_back byte then GiveBack pair.0 pair.1 else Commit pair.0 pair.1)) × Does d x e × (after ≡ None)

-- ---- the acts of all bytes, one after another
abbrev pub IsDrive : List ℕ → List Held → CoreData → List CoreEvent → List Held → CoreData → Type 0
IsDrive [] held d [] after e = (after ≡ held) × (e ≡ d)
IsDrive [] held d (x ∷ xs) after e = ⊥
IsDrive (byte ∷ bytes) held d [] after e = ⊥
IsDrive (byte ∷ bytes) held d (x ∷ xs) after e =
    (m : CoreData) × (next : Held) × Acts byte d (held_by held byte) x m next × IsDrive bytes (slice_set held (worker_of byte) next) m xs after e

-- the workers that still hold a pair give it back, in their order
abbrev pub give_backs : List Held → List CoreEvent
give_backs [] = []
give_backs (None ∷ held) = give_backs held
give_backs (Some pair ∷ held) = GiveBack pair.0 pair.1 ∷ give_backs held

-- all the bytes acted, so many of them gave back, and so many claims had to wait; then what was still held was given back
pub record DrivesToEnd (old : CoreData) (bytes : List ℕ) (given_back not_yet : ℕ) (new : CoreData) : Type 0 where
  pub events : List CoreEvent
  pub held : List Held
  pub last : CoreData
  pub drive : IsDrive bytes none_held old events held last
  pub gave_back : given_back ≡ in_all give_back_in events
  pub waited : not_yet ≡ in_all look_in events
  pub lays_down : IsRun last (give_backs held) new

-- some bytes acted, and the claim of the next one found that nothing is left to do
pub record DrivesToRest (old : CoreData) (bytes : List ℕ) (new : CoreData) : Type 0 where
  pub used : List ℕ
  pub byte : ℕ
  pub unused : List ℕ
  pub split : bytes ≡ used ++ byte ∷ unused
  pub events : List CoreEvent
  pub held : List Held
  pub last : CoreData
  pub drive : IsDrive used none_held old events held last
  pub free : held_by held byte ≡ None
  pub rest : AnswersClaim (repair_of last) NothingLeft (repair_of new)
  pub adds : Adds last Look new

-- the schedule has ended exactly where all its bytes acted and the core is not at rest
abbrev pub TellsDrive : CoreData → List ℕ → Driven → CoreData → Type 0
TellsDrive old bytes Rest new = IsResting new × (DrivesToRest old bytes new ⊎ ((given_back not_yet : ℕ) × DrivesToEnd old bytes given_back not_yet new))
TellsDrive old bytes (ScheduleEnded given_back not_yet) new = DrivesToEnd old bytes given_back not_yet new × (IsResting new → ⊥)

-- ---- how long a schedule may be that does not bring a core to rest
abbrev pub pairs_of : Setting → ℕ
pairs_of s = s.nodes * s.slots

pub record IsShort (old : CoreData) (bytes : List ℕ) (given_back not_yet : ℕ) : Type 0 where
  pub few : length bytes ≤ 2 * pairs_of (setting_of old.scenario) + 2 * given_back + not_yet
  pub gave_back : given_back ≤ count_by says_give_back bytes
  pub alone : (worker : ℕ) → All (λ b. worker_of b ≡ worker) bytes → not_yet ≡ 0

abbrev pub IsShortWhereEnded : CoreData → List ℕ → Driven → Type 0
IsShortWhereEnded old bytes Rest = Unit {0}
IsShortWhereEnded old bytes (ScheduleEnded given_back not_yet) = IsShort old bytes given_back not_yet
