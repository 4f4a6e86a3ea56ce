-- What is said of a case is said of one whose history is to be kept.
use Rattle.std.proofs.Common.{◌≡◌, true, false, cond, Result, Ok, Err, ap, ◌∙◌}
use Rattle.ltm_scenario.specs.Data.{ScenarioData}
use Rattle.ltm_scenario.specs.Build.{◌>>=◌}
use Rattle.ltm_casefile.specs.declared.faults.CaseFault.{CaseFault}
use Rattle.ltm_casefile.specs.declared.faults.CaseFault.TheVariants.{Folder, TooLong, Bad, NoHistory, NoMemory}
use Rattle.ltm_casefile.specs.Faults.{Agrees}
use Rattle.ltm_casefile.specs.KeptCase.{kept}

-- what a case lacks it lacks where its history is to be kept
pub lacks_still : (said : Result ScenarioData CaseFault) (e : CaseFault) → Agrees said e → Agrees (said >>= λ s. kept s) e
lacks_still said (Folder f) agrees = tt
lacks_still said (TooLong f) agrees = ap (λ (r : Result ScenarioData CaseFault). r >>= λ s. kept s) agrees
lacks_still said (Bad f row cause) agrees = ap (λ (r : Result ScenarioData CaseFault). r >>= λ s. kept s) agrees
lacks_still said NoHistory agrees = ap (λ (r : Result ScenarioData CaseFault). r >>= λ s. kept s) agrees
lacks_still said NoMemory agrees = tt

-- a case is kept, or it is not
pub is_kept : (said : Result ScenarioData CaseFault) (s : ScenarioData) → said ≡ Ok s → s.setup.history ≡ true → (said >>= λ z. kept z) ≡ Ok s
is_kept said s is history = ap (λ (r : Result ScenarioData CaseFault). r >>= λ z. kept z) is ∙ ap (λ b. cond b (Ok s) (Err NoHistory)) history

pub is_not_kept : (said : Result ScenarioData CaseFault) (s : ScenarioData) → said ≡ Ok s → s.setup.history ≡ false → (said >>= λ z. kept z) ≡ Err NoHistory
is_not_kept said s is history = ap (λ (r : Result ScenarioData CaseFault). r >>= λ z. kept z) is ∙ ap (λ b. cond b (Ok s) (Err NoHistory)) history
