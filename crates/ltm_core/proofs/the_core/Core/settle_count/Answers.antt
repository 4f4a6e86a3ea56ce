use Rattle.std.proofs.Common.{◌≡◌, ◌≤◌, ◌∙◌, sym, arith, refl}
use Rattle.ltm_flows.specs.Shown.{version_of}
use Rattle.ltm_core.specs.Log.{version_now}
use Rattle.ltm_core.proofs.Showings.{shown_low, shown_less}
use Rattle.ltm_core.proofs.Settlings.{core_settles_at, core_after_settle_at, came_settle}
use Rattle.ltm_core.proofs.the_core.Core.settle_count.Goals as goal

pub returns-then-version-accepted-clause-answer : goal.returns-then-version-accepted-clause-answer
returns-then-version-accepted-clause-answer c =
    let low : version_of c.self.inside.shown ≤ version_now c.self.inside.log.log = shown_low _ c.self.invariant.0 in
    let apart : version_of c.self.inside.shown ≡ version_now c.self.inside.log.log → ⊥ =
    λ e. c.if-version-accepted.true (c.version.ensures ∙ e ∙ sym c.version-accepted.ensures.version) in
    (shown_less _ _ c.self.view_is (omega (low, apart, arith)), refl)

all_shown : (c : goal.After-add) → version_of c.self.inside.shown ≡ version_now c.self.inside.log.log
all_shown c = sym c.version.ensures ∙ c.if-version-accepted.false ∙ c.version-accepted.ensures.version

pub invariant_of-self : goal.invariant_of-self
invariant_of-self c = (
  core_after_settle_at c.repair_laws.ensures _ _ _ c.mark_last.ensures c.self.invariant.0 (all_shown c),
  came_settle _ _ _ c.mark_last.ensures (all_shown c) c.add.ensures c.self.invariant.1,
)

pub returns-clause-answer : goal.returns-clause-answer
returns-clause-answer c = core_settles_at c.repair_laws.ensures _ _ _ _ c.self.view_is c.mark_last.ensures c.self.invariant.0 (all_shown c) c.add.ensures
