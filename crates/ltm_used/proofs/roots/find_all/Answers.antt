use Rattle.std.proofs.Common.{ℕ, arith, sym, subst, inl, inr}
use Rattle.std.proofs.lemmas.Bool.{cases_eq}
use Rattle.ltm_setting.specs.Setting.{setting_of}
use Rattle.ltm_used.specs.Closed.{HasDemand}
use Rattle.ltm_used.specs.Found.{GoesOn}
use Rattle.ltm_used.proofs.Finding.{grows_none, grows_more, goes_on_more}
use Rattle.ltm_used.proofs.roots.find_all.Goals as goal

pub loop-node-init : goal.loop-node-init
loop-node-init c = record { grows = grows_none c.args.found.now; roots = λ u d l. absurd (omega arith) }

pub loop-node-preserved : goal.loop-node-preserved
loop-node-preserved c =
    let s = setting_of c.args.scenario.now in
    let grows = c.in_ok-find_of.ensures.grows in
    record {
      grows = grows_more c.args.found.now c.loop-node.found c.find_of.new.found c.loop-node.invariant.grows grows;
      roots = λ u d l m demand. elim (cases_eq u c.loop-node.node) [
        | inl same ↦ subst (λ (z : ℕ). GoesOn s c.args.goes.now c.find_of.new.found z d) (sym same) (c.in_ok-find_of.ensures.roots d m (subst (λ (z : ℕ). HasDemand s z d) same demand))
        | inr other ↦ goes_on_more s c.args.goes.now c.loop-node.found c.find_of.new.found u d grows (c.loop-node.invariant.roots u d (omega (arith, l, other)) m demand)
      ];
    }
