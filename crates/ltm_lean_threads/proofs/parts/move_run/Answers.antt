use Rattle.std.proofs.Common.{ℕ, ◌<◌, length, arith, ap, ◌∙◌}
use Rattle.std.proofs.lemmas.List.{get_or_default}
use Rattle.std.proofs.lemmas.List.Elements.{All-set}
use Rattle.ltm_units.specs.declared.places.NodeId.{NodeId}
use Rattle.ltm_setting.specs.Setting.{setting_of}
use Rattle.ltm_lean.specs.declared.node.LeanNode.{LeanNode}
use Rattle.ltm_lean.specs.Nodes.{IsNodeAt}
use Rattle.ltm_lean_threads.specs.Runs.{number_of}
use Rattle.ltm_lean_threads.proofs.Runs.{moved_more, numbers_set, room_again}
use Rattle.ltm_lean_threads.proofs.parts.move_run.Goals as goal

pub returns-in_err-slot-clause-nodes : goal.returns-in_err-slot-clause-nodes
returns-in_err-slot-clause-nodes c = All-set (IsNodeAt (setting_of c.args.scenario.now) c.args.tables.now) c.loop-k.nodes c.loop-k.k c.slot.new.self c.slot.ensures.node c.loop-k.invariant.moved.nodes

pub returns-in_err-slot-clause-numbers : goal.returns-in_err-slot-clause-numbers
returns-in_err-slot-clause-numbers c =
    let k : ℕ = c.loop-k.k in
    let r : LeanNode = c.index-nodes-k.result in
    let l : c.loop-k.k < length c.loop-k.nodes = omega (arith, c.loop-k-test.true, c.loop-k.auto.nodes) in
    numbers_set c.loop-k.nodes k c.slot.new.self l (λ d. ap (λ (q : NodeId). q.0) c.slot.ensures.same_node ∙ ap number_of (get_or_default c.loop-k.nodes k r d l)) ∙ c.loop-k.invariant.moved.numbers

pub loop-k-preserved : goal.loop-k-preserved
loop-k-preserved c =
    let k : ℕ = c.loop-k.k in
    let r : LeanNode = c.index-nodes-k.result in
    let l : c.loop-k.k < length c.loop-k.nodes = omega (arith, c.loop-k-test.true, c.loop-k.auto.nodes) in
    record {
      moved = moved_more (setting_of c.args.scenario.now) c.args.tables.now c.args.slot k c.args.nodes.now c.loop-k.nodes c.slot.new.self c.loop-k.invariant.moved l c.slot.ensures.node
          (λ d. ap (λ (q : NodeId). q.0) c.slot.ensures.same_node ∙ ap number_of (get_or_default c.loop-k.nodes k r d l))
          (record { stands = c.in_ok-slot.ensures.stands; moved = c.in_ok-slot.ensures.moved });
      room = room_again (setting_of c.args.scenario.now) c.args.tables.now c.loop-k.room c.slot.new.room c.slot.ensures.room c.loop-k.invariant.room;
    }
