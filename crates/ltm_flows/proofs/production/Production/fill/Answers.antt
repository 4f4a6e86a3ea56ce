use Rattle.std.proofs.Common.{◌+◌, ℕ, arith, ap, subst, sym, ◌∙◌}
use Rattle.ltm_loading.specs.Setting.{Setting}
use Rattle.ltm_setting.specs.Setting.{setting_of}
use Rattle.ltm_flows.specs.Origins.{produced_in_all}
use Rattle.ltm_flows.specs.Production.{RenewsNode, ProducedByFirst}
use Rattle.ltm_flows.proofs.Filling.{first_none, first_next, first_idle}
use Rattle.ltm_flows.proofs.production.Production.fill.Goals as goal
use Rattle.ltm_flows.proofs.production.Production.fill.Goals.{then-produced_total-gt0, else-produced_total-gt0}

pub loop-node-init : goal.loop-node-init
loop-node-init c = first_none (setting_of c.args.scenario.now) c.args.self.now c.requires.room c.requires.nothing

pub loop-node-preserved : goal.loop-node-preserved
loop-node-preserved c =
    let s : Setting = setting_of c.args.scenario.now in
    let node : ℕ = c.loop-node.node in
    elim c.if-produced_total-gt0.branch [
      | then-produced_total-gt0 w ↦
          subst (ProducedByFirst s (node + 1) c.args.self.now) (sym w.self-is)
          (first_next s node c.args.self.now c.loop-node.self w.renew_node.new.self c.requires.room (omega (arith, c.loop-node-test.true)) c.loop-node.invariant
          (subst (λ (last : ℕ). RenewsNode s node 0 (last + 1) c.loop-node.self w.renew_node.new.self) c.slot_count-last.ensures.value w.renew_node.ensures))
      | else-produced_total-gt0 w ↦
          subst (ProducedByFirst s (node + 1) c.args.self.now) (sym w.self-is)
          (first_idle s node c.produced_total.result c.args.self.now c.loop-node.self c.is_setting.ensures.setting c.requires.nodes (omega (arith, c.loop-node-test.true))
          (c.produced_total.ensures.value ∙ ap (λ (last : ℕ). produced_in_all s node last) c.slot_count-last.ensures.value) (λ l. omega (arith, l, w.if-produced_total-gt0.false)) c.loop-node.invariant)
    ]
