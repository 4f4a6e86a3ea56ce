use Rattle.std.proofs.Common.{refl}
use Rattle.std.proofs.lemmas.Bool.{false≢true}
use Rattle.ltm_setting.specs.Setting.{setting_of}
use Rattle.ltm_working.proofs.Fronts.{all_rest, not_rest}
use Rattle.ltm_working.proofs.table.Table.is_at_rest.Goals as goal

pub returns-in-None : goal.returns-in-None
returns-in-None c = (λ yes. all_rest (setting_of c.args.scenario.now) c.args.self.now c.requires c.in-None.ensures, λ rest. refl)

pub returns-in-Some : goal.returns-in-Some
returns-in-Some c = (λ yes. absurd (false≢true yes), λ rest. absurd (not_rest (setting_of c.args.scenario.now) c.args.self.now c.in-Some.field-0 c.requires c.in-Some.ensures rest))
