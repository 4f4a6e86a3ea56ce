-- The log of a core: the scenario with which it began, each batch that it accepted, in order, and a mark after a batch at
-- which a settle was counted.
use Rattle.std.specs.Prelude.{◌≡◌, ℕ, ◌+◌, ◌≤◌, Bool, true, false, if◌then◌else◌, List, [], ◌∷◌, ◌++◌, length, map, take, Result, Ok, Err}
use Rattle.std.specs.List.{zip}
use Rattle.ltm_scenario.specs.declared.edit.Edit.{Edit}
use Rattle.ltm_scenario.specs.declared.edit.EditFault.{EditFault}
use Rattle.ltm_scenario.specs.Data.{ScenarioData}
use Rattle.ltm_scenario.specs.Edits.{edited_all}

-- a batch, and whether a mark stands after it
abbrev pub MarkedBatch : Type 0
MarkedBatch = List Edit × Bool

pub record Log : Type 0 where
  pub opening : ScenarioData
  pub batches : List MarkedBatch

-- the log of a core that keeps batches and marks beside them
unfoldable pub log_of : ScenarioData → List (List Edit) → List Bool → Log
log_of opening batches marks = record { opening = opening; batches = zip batches marks }

-- a log as a core keeps it, and how many batches more it takes without memory
pub record KeptLog : Type 0 where
  pub log : Log
  pub room : ℕ

-- the accepted batches
unfoldable pub batches_of : Log → List (List Edit)
batches_of log = map (λ b. b.0) log.batches

-- ---- how many batches were accepted, and how many settled
unfoldable pub version_now : Log → ℕ
version_now log = length log.batches

-- after so many batches, with that number settled last
abbrev pub settled_in : ℕ → ℕ → List MarkedBatch → ℕ
settled_in accepted settled [] = settled
settled_in accepted settled (batch ∷ batches) = settled_in (accepted + 1) (if batch.1 then accepted + 1 else settled) batches

-- the number of batches before the last mark, 0 where there is none
unfoldable pub settled_of : Log → ℕ
settled_of log = settled_in 0 0 log.batches

-- ---- the scenario after each number of batches
-- what a batch makes of a scenario; one that is refused leaves it
abbrev pub edited_or : ScenarioData → Result ScenarioData EditFault → ScenarioData
edited_or s (Ok edited) = edited
edited_or s (Err fault) = s

abbrev pub after_batch : ScenarioData → List Edit → ScenarioData
after_batch s batch = edited_or s (edited_all s batch)

abbrev pub after_batches : ScenarioData → List (List Edit) → ScenarioData
after_batches s [] = s
after_batches s (batch ∷ batches) = after_batches (after_batch s batch) batches

-- each batch is accepted after those before it
abbrev pub AreAccepted : ScenarioData → List (List Edit) → Type 0
AreAccepted s [] = Unit {0}
AreAccepted s (batch ∷ batches) = (edited_all s batch ≡ Ok (after_batch s batch)) × AreAccepted (after_batch s batch) batches

-- the log holds no refused batch
unfoldable pub HoldsAccepted : Log → Type 0
HoldsAccepted log = AreAccepted log.opening (batches_of log)

-- the scenario after the first k accepted batches, and after all of them
unfoldable pub scenario_at : Log → ℕ → ScenarioData
scenario_at log k = after_batches log.opening (take k (batches_of log))

unfoldable pub scenario_now : Log → ScenarioData
scenario_now log = after_batches log.opening (batches_of log)

-- ---- how it grows
-- the log with a batch put last
unfoldable pub with_batch : Log → List Edit → Log
with_batch log batch = record log { batches = log.batches ++ (batch, false) ∷ [] }

-- a mark is put after the last batch
abbrev pub marked : List MarkedBatch → List MarkedBatch
marked [] = []
marked (batch ∷ []) = (batch.0, true) ∷ []
marked (batch ∷ next ∷ batches) = batch ∷ marked (next ∷ batches)

-- the log as a settle count leaves it
unfoldable pub with_mark : Log → Log
with_mark log = record log { batches = marked log.batches }

-- ---- what a batch and a mark leave
pub record LogLaws : Type 0 where
  -- a batch is one more and settles nothing; after a mark all are settled
  pub version_batch : (log : Log) (batch : List Edit) → version_now (with_batch log batch) ≡ version_now log + 1
  pub version_mark : (log : Log) → version_now (with_mark log) ≡ version_now log
  pub settled_batch : (log : Log) (batch : List Edit) → settled_of (with_batch log batch) ≡ settled_of log
  pub settled_mark : (log : Log) → settled_of (with_mark log) ≡ version_now log
  -- the last scenario is that after all batches; a batch leaves the earlier ones, and a mark leaves all
  pub last : (log : Log) → scenario_at log (version_now log) ≡ scenario_now log
  pub earlier : (log : Log) (batch : List Edit) (k : ℕ) → k ≤ version_now log → scenario_at (with_batch log batch) k ≡ scenario_at log k
  pub marked_at : (log : Log) (k : ℕ) → scenario_at (with_mark log) k ≡ scenario_at log k
