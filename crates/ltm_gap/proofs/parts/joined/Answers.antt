use Rattle.std.proofs.Common.{◌≡◌, ℕ, List, length, sym, subst, arith, ◌∙◌, IfOk}
use Rattle.ltm_loading.specs.Setting.{Setting}
use Rattle.ltm_setting.specs.Setting.{setting_of}
use Rattle.ltm_gap.specs.declared.sums.Sum.{Sum}
use Rattle.ltm_gap.specs.Parts.{IsPart, AreJoined, BothBelow}
use Rattle.ltm_gap.proofs.Parting.{one_joined}
use Rattle.ltm_gap.proofs.parts.joined.Goals as goal

pub loop-part-preserved : goal.loop-part-preserved
loop-part-preserved c =
    let s : Setting = setting_of c.args.scenario.now in
    let part : ℕ = c.loop-part.part in
    let old : List Sum = c.loop-part.sums.items in
    let new : List Sum = c.add_sums.new.sums.items in
    let is : IsPart s c.args.loading.now c.args.owners.now part c.in-Ok.more.items
    = subst (λ r. IfOk r (λ sums. IsPart s c.args.loading.now c.args.owners.now part sums.items)) (sym c.index-found-part.is ∙ c.in-Ok.is) (c.requires.parts part c.index-found-part.result c.loop-part-test.true) in
    one_joined s c.args.loading.now c.args.owners.now part old c.in-Ok.more.items new c.loop-part.invariant is (subst (λ (m : List Sum). BothBelow (length old) old m new) c.as_slice.ensures.value c.add_sums.ensures)

pub returns : goal.returns
returns c =
    let all : c.loop-part.part ≡ length c.args.found.now = omega arith in
    subst (λ n. AreJoined (setting_of c.args.scenario.now) c.args.loading.now c.args.owners.now n c.loop-part.sums.items) all c.loop-part.invariant
