use Rattle.std.proofs.Common.{◌≡◌, ℕ, ◌+◌, arith, sym, subst, ap, ◌∙◌}
use Rattle.ltm_setting.specs.Setting.{setting_of}
use Rattle.ltm_used.specs.declared.found.Found.{Found}
use Rattle.ltm_used.proofs.Finding.{FindsTo, finds_none, finds_over, finds_more}
use Rattle.ltm_used.proofs.roots.find_of.Goals as goal
use Rattle.ltm_used.proofs.roots.find_of.Goals.{then-produced-ne0+in_ok-go_on, else-produced-ne0}

pub loop-destination-init : goal.loop-destination-init
loop-destination-init c = finds_none (setting_of c.args.scenario.now) c.args.goes.now c.args.found.now c.args.node.0

pub loop-destination-preserved : goal.loop-destination-preserved
loop-destination-preserved c =
    let s = setting_of c.args.scenario.now in
    let made : c.produced.result ≡ s.produced c.args.node.0 c.loop-destination.destination s.slots =
    c.produced.ensures.value ∙ ap (λ (z : ℕ). s.produced c.args.node.0 c.loop-destination.destination z) c.slot_count-slots.ensures.value in
    elim c.if-produced-ne0.branch [
      | then-produced-ne0+in_ok-go_on w ↦
          subst (λ (f : Found). FindsTo s c.args.goes.now c.args.found.now f c.args.node.0 (c.loop-destination.destination + 1)) (sym w.found-is)
          (finds_more s c.args.goes.now c.args.found.now c.loop-destination.found w.go_on.new.found c.args.node.0 c.loop-destination.destination c.loop-destination.invariant w.in_ok-go_on.ensures.grows w.in_ok-go_on.ensures.done)
      | else-produced-ne0 w ↦
          subst (λ (f : Found). FindsTo s c.args.goes.now c.args.found.now f c.args.node.0 (c.loop-destination.destination + 1)) (sym w.found-is)
          (finds_over s c.args.goes.now c.args.found.now c.loop-destination.found c.args.node.0 c.loop-destination.destination c.loop-destination.invariant (omega (arith, made, w.if-produced-ne0.false)))
    ]
