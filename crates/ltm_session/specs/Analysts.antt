-- The analysts' machine: what a session has accepted and settled, and which loading it shows.
use Rattle.std.specs.Prelude.{◌≡◌, ℕ, ◌+◌, ◌≤◌, []}
use Rattle.ltm_scenario.specs.Data.{ScenarioData}
use Rattle.ltm_flows.specs.Shown.{version_of}
use Rattle.ltm_core.specs.Log.{Log, with_mark, version_now, scenario_at}
use Rattle.ltm_core.specs.Cores.{CoreData}
use Rattle.ltm_core.specs.Told.{settles_of}

-- the log, how many of its batches the shown loading has, and how many settles were counted since the core began; how many
-- batches were settled stands in the log
pub record Analysts : Type 0 where
  pub log : Log
  pub shown : ℕ
  pub settles : ℕ

-- the machine as a core has it
abbrev pub state_of : CoreData → Analysts
state_of d = record { log = d.log; shown = version_of d.shown; settles = settles_of d }

-- nothing is accepted, the loading of the opening scenario is shown, and so many settles were counted
abbrev pub opening_state : ScenarioData → ℕ → Analysts
opening_state s settles = record { log = record { opening = s; batches = [] }; shown = 0; settles = settles }

-- the machine of a core that has accepted nothing
abbrev pub opening_of : CoreData → Analysts
opening_of d = opening_state d.log.opening (settles_of d)

-- the scenario whose loading is shown
abbrev pub shown_scenario : Analysts → ScenarioData
shown_scenario s = scenario_at s.log s.shown

-- all batches are shown and settled, and one settle more was counted
abbrev pub settled : Analysts → Analysts
settled s = record { log = with_mark s.log; shown = version_now s.log; settles = s.settles + 1 }

-- the loading of more batches may have come to be shown
pub record IsShownLater (s t : Analysts) : Type 0 where
  pub log : t.log ≡ s.log
  pub settles : t.settles ≡ s.settles
  pub later : s.shown ≤ t.shown
  pub finished : t.shown ≤ version_now t.log
