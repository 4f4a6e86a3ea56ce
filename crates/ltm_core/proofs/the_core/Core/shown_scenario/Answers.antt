use Rattle.std.proofs.Common.{◌≤◌, ℕ, List, All, take, length, ap, sym, subst, arith, ◌∙◌}
use Rattle.std.proofs.lemmas.Result.{IfOk-weaker}
use Rattle.ltm_scenario.specs.declared.edit.Edit.{Edit}
use Rattle.ltm_scenario.specs.Data.{ScenarioData}
use Rattle.ltm_scenario.specs.Edits.{HaveAmounts}
use Rattle.ltm_scenario.specs.Valid.{IsValid}
use Rattle.ltm_flows.specs.Shown.{version_of}
use Rattle.ltm_core.specs.Log.{scenario_at}
use Rattle.ltm_core.specs.Cores.{CoreData}
use Rattle.ltm_core.proofs.Logs.{length_batches, after_first}
use Rattle.ltm_core.proofs.Showings.{shown_low}
use Rattle.ltm_core.proofs.the_core.Core.shown_scenario.Goals as goal

pub after-requires-clause-valid : goal.after-requires-clause-valid
after-requires-clause-valid c = subst IsValid (sym c.opening.ensures) c.self.invariant.0.log.valid

pub after-requires-clause-amounts : goal.after-requires-clause-amounts
after-requires-clause-amounts c = subst (All HaveAmounts) (sym c.batches.ensures) c.self.invariant.0.log.amounts

pub after-requires-clause-count : goal.after-requires-clause-count
after-requires-clause-count c = omega (c.version-count.ensures, shown_low _ c.self.invariant.0, ap length c.batches.ensures, length_batches c.self.inside.log.log, arith)

pub returns : goal.returns
returns c = IfOk-weaker c.after.result _ _ (λ s is. is ∙ after_first c.self.inside.log.log _ _ _ _ c.opening.ensures c.batches.ensures c.version-count.ensures ∙ ap (λ (z : CoreData). scenario_at z.log (version_of z.shown)) c.self.view_is) c.after.ensures
