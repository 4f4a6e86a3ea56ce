-- The loading of a case as a curve file.
use Rattle.std.specs.Prelude.{ℕ, ◌≡◌, List, Option, IfSome, Result, Ok, Err}
use Rattle.ltm_io.specs.Folder.{Files}
use Rattle.ltm_curve.specs.Counts.{Counts}
use Rattle.ltm_scenario.specs.Data.{ScenarioData}
use Rattle.ltm_scenario.specs.IsScenario.{IsScenario}
use Rattle.ltm_casefile.specs.declared.faults.CaseFault.{CaseFault}
use Rattle.ltm_casefile.specs.KeptCase.{kept_case_of}
use Rattle.ltm_check.specs.Left.{records_of}
use Rattle.ltm_check.specs.Loading.{IsLoading}
use Rattle.ltm_setting.specs.Setting.{setting_of}
use Rattle.ltm_check.specs.Text.{curves_file}
use Rattle.ltm_check.specs.ReadBack.{TellsLoading}

-- the text is the curve file of the loading of the scenario, and is read back as it
abbrev pub IsLoadingText : ScenarioData → List ℕ → Type 0
IsLoadingText s text = (c : Counts) × IsScenario s × IsLoading (setting_of s) c × (text ≡ curves_file s c) × TellsLoading s (records_of text)

-- what `curves` answers to a case
abbrev pub CurvesAnswer : Result ScenarioData CaseFault → Result (List ℕ) CaseFault → Type 0
CurvesAnswer (Ok s) answer = (text : List ℕ) × IsLoadingText s text × (answer ≡ Ok text)
CurvesAnswer (Err fault) answer = answer ≡ Err fault

-- the same, of the case that a folder tells, where it tells anything
abbrev pub AnswersCurves : Option Files → Result (List ℕ) CaseFault → Type 0
AnswersCurves told answer = (said : Result ScenarioData CaseFault) × IfSome told (λ files. kept_case_of files ≡ said) × CurvesAnswer said answer
