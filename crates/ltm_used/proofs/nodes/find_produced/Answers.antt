use Rattle.std.proofs.Common.{◌≡◌, ℕ, ◌+◌, arith, sym, subst, ap, ◌∙◌}
use Rattle.ltm_setting.specs.Setting.{setting_of}
use Rattle.ltm_used.specs.declared.found.Found.{Found}
use Rattle.ltm_used.proofs.AtNodes.{FindsDemand, demand_none, demand_over, demand_more}
use Rattle.ltm_used.proofs.nodes.find_produced.Goals as goal
use Rattle.ltm_used.proofs.nodes.find_produced.Goals.{then-produced-ne0+in_ok-find, else-produced-ne0}

pub loop-destination-init : goal.loop-destination-init
loop-destination-init c = demand_none (setting_of c.args.scenario.now) c.args.node.0 c.args.found.now

pub loop-destination-preserved : goal.loop-destination-preserved
loop-destination-preserved c =
    let s = setting_of c.args.scenario.now in
    let made : c.produced.result ≡ s.produced c.args.node.0 c.loop-destination.destination s.slots =
    c.produced.ensures.value ∙ ap (λ (z : ℕ). s.produced c.args.node.0 c.loop-destination.destination z) c.slot_count-slots.ensures.value in
    elim c.if-produced-ne0.branch [
      | then-produced-ne0+in_ok-find w ↦
          subst (λ (f : Found). FindsDemand s c.args.node.0 c.args.found.now f (c.loop-destination.destination + 1)) (sym w.found-is)
          (demand_more s c.args.node.0 c.args.found.now c.loop-destination.found w.find.new.self c.loop-destination.destination c.loop-destination.invariant w.in_ok-find.ensures.grows w.in_ok-find.ensures.here)
      | else-produced-ne0 w ↦
          subst (λ (f : Found). FindsDemand s c.args.node.0 c.args.found.now f (c.loop-destination.destination + 1)) (sym w.found-is)
          (demand_over s c.args.node.0 c.args.found.now c.loop-destination.found c.loop-destination.destination c.loop-destination.invariant (omega (arith, made, w.if-produced-ne0.false)))
    ]
