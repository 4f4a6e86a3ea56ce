use Rattle.std.proofs.Common.{◌+◌, ◌||◌, ℕ, Bool, take, get_or}
use Rattle.ltm_units.specs.declared.places.Reach.{Reach}
use Rattle.ltm_frontier.specs.Frontier.{in_slots as marked_slots}
use Rattle.ltm_rows.specs.Rows.{in_slots}
use Rattle.ltm_working.specs.Batches.{in_reaches}
use Rattle.ltm_working.proofs.Activating.{act_as, act_both}
use Rattle.ltm_working.proofs.Weighing.{unweighs_as, unweighs_both, unweighs_node, reach_more, reach_marked}
use Rattle.ltm_working.proofs.batches.mark_reaches.Goals as goal

pub loop-reach-preserved : goal.loop-reach-preserved
loop-reach-preserved c =
    let i : ℕ = c.loop-reach.reach-index in
    let none : Reach = record { node = record { 0 = 0 }; from = 0; to = 0 } in
    let reach : Reach = get_or c.args.reaches.now i none in
    let first : ℕ → ℕ → Bool = in_reaches (take i c.args.reaches.now) in
    let more : ℕ → ℕ → Bool = in_reaches (take (i + 1) c.args.reaches.now) in
    record {
      marks = act_as c.args.frontier.now c.mark_range.new.self (λ w v. first w v || marked_slots reach.node.0 reach.from reach.to w v) more
          (act_both c.args.frontier.now c.loop-reach.frontier c.mark_range.new.self first (marked_slots reach.node.0 reach.from reach.to) c.loop-reach.invariant.marks c.mark_range.ensures)
          (λ w v x y. reach_marked c.args.reaches.now i none w v c.loop-reach-test.true);
      weights = unweighs_as c.args.kept.now c.unweigh.new.self (λ w v. first w v || in_slots reach.node.0 reach.from reach.to w v) more
          (unweighs_both c.args.kept.now c.loop-reach.kept c.unweigh.new.self first (in_slots reach.node.0 reach.from reach.to) c.loop-reach.invariant.weights
          (unweighs_node c.loop-reach.kept c.unweigh.new.self reach.node.0 reach.from reach.to c.unweigh.ensures))
          (λ w v. reach_more c.args.reaches.now i none w v c.loop-reach-test.true);
    }
