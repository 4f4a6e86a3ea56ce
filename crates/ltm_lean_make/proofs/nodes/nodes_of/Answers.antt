use Rattle.std.proofs.Common.{arith}
use Rattle.ltm_setting.specs.Setting.{setting_of}
use Rattle.ltm_lean.specs.declared.node.LeanNode.{LeanNode}
use Rattle.ltm_lean_make.proofs.First.{IsFirstNode}
use Rattle.ltm_lean_make.proofs.Pushed.{all_none, all_more}
use Rattle.ltm_lean_make.proofs.nodes.nodes_of.Goals as goal

pub loop-number-init : goal.loop-number-init
loop-number-init c = all_none LeanNode (IsFirstNode (setting_of c.args.scenario.now) c.args.tables.now) c.new-nodes.result.items c.new-nodes.ensures.items

pub loop-number-preserved : goal.loop-number-preserved
loop-number-preserved c =
    let s = setting_of c.args.scenario.now in
    all_more LeanNode (IsFirstNode s c.args.tables.now) c.loop-number.number c.loop-number.nodes.items c.push.new.self.items c.in_ok-node.node c.in_ok-push.ensures.items c.loop-number.invariant
    (record { number = c.in_ok-node.ensures.number; node = c.in_ok-node.ensures.node; stands = c.in_ok-node.ensures.stands; still = c.in_ok-node.ensures.still })

pub returns-clause-count : goal.returns-clause-count
returns-clause-count c = omega (arith, c.loop-number.invariant.long, c.loop-number-test.false)

pub returns-clause-each : goal.returns-clause-each
returns-clause-each c = λ u d l.
    let here : IsFirstNode (setting_of c.args.scenario.now) c.args.tables.now u _ = c.loop-number.invariant.each u d (omega (arith, l, c.loop-number-test.false)) in
    (here.number, here.node)

pub returns-clause-stands : goal.returns-clause-stands
returns-clause-stands c = λ counts u d load l. (c.loop-number.invariant.each u d (omega (arith, l, c.loop-number-test.false))).stands counts load

pub returns-clause-still : goal.returns-clause-still
returns-clause-still c = λ u d l. (c.loop-number.invariant.each u d (omega (arith, l, c.loop-number-test.false))).still
