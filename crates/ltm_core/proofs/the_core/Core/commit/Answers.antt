use Rattle.std.proofs.Common.{◌≡◌, ◌∙◌, ap, subst, refl, true, false}
use Rattle.ltm_node.specs.Inputs.{Inputs}
use Rattle.ltm_core.specs.Claims.{DoneData}
use Rattle.ltm_core.specs.Cores.{CoreData}
use Rattle.ltm_core.specs.CoreAnswers.{IsKeptClaim, CommitsDone}
use Rattle.ltm_core.specs.Log.{version_now}
use Rattle.ltm_core.proofs.Claimings.{kept_given}
use Rattle.ltm_core.proofs.the_core.Core.commit.Goals as goal

pub returns-clause-answer : goal.returns-clause-answer
returns-clause-answer c = (
  λ k. let on : c.keeps.result ≡ true = c.keeps.ensures.1 (kept_given _ _ _ _ c.done.view_is c.inputs.ensures.inputs k) in let off : c.keeps.result ≡ false = c.if-keeps.false in absurd (cc),
  ap (λ (z : DoneData). z.ticket) c.done.view_is,
  c.version-now.ensures.version ∙ ap (λ (z : CoreData). version_now z.log) c.self.view_is,
  refl,
)

pub commit_kept-requires : goal.commit_kept-requires
commit_kept-requires c = subst (λ (n : Inputs). IsKeptClaim c.args.self.now c.done.inside.pair c.done.inside.ticket n) c.inputs.ensures.inputs (c.keeps.ensures.0 c.if-keeps.true)

pub returns-then-keeps-clause-answer : goal.returns-then-keeps-clause-answer
returns-then-keeps-clause-answer c =
    subst (λ (z : DoneData). IsKeptClaim c.args.self.now z.pair z.ticket z.solved.inputs × CommitsDone c.args.self.now z.pair z.solved.inputs.row c.commit_kept.new.self) c.done.view_is
    (subst (λ (n : Inputs). IsKeptClaim c.args.self.now c.done.inside.pair c.done.inside.ticket n) c.inputs.ensures.inputs (c.keeps.ensures.0 c.if-keeps.true), c.commit_kept.ensures)

pub returns-then-keeps-clause-stays : goal.returns-then-keeps-clause-stays
returns-then-keeps-clause-stays c = (ap (λ (z : CoreData). z.log) c.commit_kept.ensures.keeps, ap (λ (z : CoreData). z.shown) c.commit_kept.ensures.keeps)
