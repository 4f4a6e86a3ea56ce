-- The scenario of a case whose history is kept.
use Rattle.std.specs.Prelude.{if◌then◌else◌, Result, Ok, Err}
use Rattle.ltm_io.specs.Folder.{Files}
use Rattle.ltm_scenario.specs.Data.{ScenarioData}
use Rattle.ltm_scenario.specs.Build.{◌>>=◌}
use Rattle.ltm_casefile.specs.declared.faults.CaseFault.{CaseFault}
use Rattle.ltm_casefile.specs.declared.faults.CaseFault.TheVariants.{NoHistory}
use Rattle.ltm_casefile.specs.Case.{case_of}

-- the scenario, where the history of its loading is kept
abbrev pub kept : ScenarioData → Result ScenarioData CaseFault
kept s = if s.setup.history then Ok s else Err NoHistory

-- the scenario that the files describe, or the first fault, of which the last is that no history is kept
abbrev pub kept_case_of : Files → Result ScenarioData CaseFault
kept_case_of files = case_of files >>= λ s. kept s
