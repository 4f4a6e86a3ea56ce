use Rattle.std.proofs.Common.{ℕ, ◌-◌, ◌<◌, length, slice_index_or, arith, sym, subst}
use Rattle.std.proofs.lemmas.List.{get_or_default}
use Rattle.ltm_setting.specs.Setting.{setting_of}
use Rattle.ltm_lean.specs.declared.node.LeanNode.{LeanNode}
use Rattle.ltm_lean.specs.Nodes.{StandsAtNode}
use Rattle.ltm_lean_load.proofs.Moving.{same_room_more, put_node, moved_more}
use Rattle.ltm_lean_load.proofs.slots.move_nodes.Goals as goal

pub slot-requires-clause-stands : goal.slot-requires-clause-stands
slot-requires-clause-stands c = λ counts load.
    let u : ℕ = c.loop-u.u in
    let r : LeanNode = c.index-nodes-u.result in
    let there : c.loop-u.u < (setting_of c.args.scenario.now).nodes = omega (arith, c.loop-u-test.true, c.loop-u.auto.nodes, c.loop-u.invariant.moved.nodes.count) in
    subst (StandsAtNode (setting_of c.args.scenario.now) counts c.args.tables.now (c.args.slot - 1) c.args.slot) (sym (c.loop-u.invariant.moved.later u r (omega arith))) (c.requires.stands counts load u r there)

pub returns-in_err-slot-clause-nodes : goal.returns-in_err-slot-clause-nodes
returns-in_err-slot-clause-nodes c =
    let u : ℕ = c.loop-u.u in
    let r : LeanNode = c.index-nodes-u.result in
    let l : c.loop-u.u < length c.loop-u.nodes = omega (arith, c.loop-u-test.true, c.loop-u.auto.nodes) in
    put_node (setting_of c.args.scenario.now) c.args.tables.now u c.loop-u.nodes (slice_index_or c.loop-u.nodes u r) c.slot.new.self c.loop-u.invariant.moved.nodes l (λ d. get_or_default c.loop-u.nodes u r d l)
    c.slot.ensures.node c.slot.ensures.same_node

pub loop-u-preserved : goal.loop-u-preserved
loop-u-preserved c =
    let u : ℕ = c.loop-u.u in
    let r : LeanNode = c.index-nodes-u.result in
    let l : c.loop-u.u < length c.loop-u.nodes = omega (arith, c.loop-u-test.true, c.loop-u.auto.nodes) in
    record {
      moved = moved_more (setting_of c.args.scenario.now) c.args.tables.now c.args.slot u c.args.nodes.now c.loop-u.nodes (slice_index_or c.loop-u.nodes u r) c.slot.new.self c.loop-u.invariant.moved l
          (λ d. get_or_default c.loop-u.nodes u r d l) c.slot.ensures.node c.slot.ensures.same_node c.in_ok-slot.ensures.stands c.in_ok-slot.ensures.moved;
      room = same_room_more c.args.room.now c.loop-u.room c.slot.new.room c.loop-u.invariant.room c.slot.ensures.room;
    }

pub returns-clause-stands : goal.returns-clause-stands
returns-clause-stands c = λ counts load u d l.
    c.loop-u.invariant.moved.stands counts load u d (omega (arith, l, c.loop-u-test.false, c.loop-u.auto.nodes, c.loop-u.invariant.moved.nodes.count))
