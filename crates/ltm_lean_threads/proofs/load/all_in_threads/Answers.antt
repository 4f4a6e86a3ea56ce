use Rattle.std.proofs.Common.{◌≡◌, ℕ, ◌+◌, ◌-◌, ◌∙◌, arith, subst}
use Rattle.ltm_setting.specs.Setting.{setting_of}
use Rattle.ltm_lean_kept.specs.Kept.{AllStand}
use Rattle.ltm_lean_threads.proofs.Runs.{rooms_at}
use Rattle.ltm_lean_threads.proofs.load.all_in_threads.Goals as goal

pub keep-requires-in-loop-slot-clause-frozen : goal.keep-requires-in-loop-slot-clause-frozen
keep-requires-in-loop-slot-clause-frozen g c counts load = c.publish.ensures.frozen counts load (c.loop-slot.invariant.frozen counts load) (c.in_ok-move_in_threads.ensures.moved counts load)

pub keep-requires-in-loop-slot-clause-left : goal.keep-requires-in-loop-slot-clause-left
keep-requires-in-loop-slot-clause-left g c counts load =
    let s = setting_of c.args.scenario.now in
    let t : ℕ = c.loop-slot.slot in
    let before : c.loop-slot.slot ≡ c.loop-slot.slot + 1 - 1 = omega arith in
    subst (λ (k : ℕ). AllStand s counts c.publish.new.tables k (t + 1) c.publish.new.nodes) before (c.publish.ensures.stands counts t (t + 1) (c.in_ok-move_in_threads.ensures.stands counts load))

pub loop-slot-preserved : goal.loop-slot-preserved
loop-slot-preserved g c =
    let s = setting_of c.args.scenario.now in
    let t : ℕ = c.loop-slot.slot in
    let before : c.loop-slot.slot ≡ c.loop-slot.slot + 1 - 1 = omega arith in
    record {
      tables = c.publish.ensures.tables;
      nodes = c.publish.ensures.nodes;
      count = c.move_in_threads.ensures.count ∙ c.loop-slot.invariant.count;
      room = rooms_at s c.loop-slot.tables c.publish.new.tables c.move_in_threads.new.parts c.publish.ensures.node_lists c.move_in_threads.ensures.room;
      frozen = λ counts load. c.publish.ensures.frozen counts load (c.loop-slot.invariant.frozen counts load) (c.in_ok-move_in_threads.ensures.moved counts load);
      shape = c.keep-in-loop-slot.ensures.shape;
      kept = λ counts load. c.keep-in-loop-slot.ensures.kept counts load (c.loop-slot.invariant.kept counts load);
      stands = λ counts load. subst (λ (k : ℕ). AllStand s counts c.publish.new.tables k (t + 1) c.publish.new.nodes) before (c.publish.ensures.stands counts t (t + 1) (c.in_ok-move_in_threads.ensures.stands counts load));
    }
