use Rattle.std.proofs.Common.{◌≡◌, ℕ, arith, subst}
use Rattle.ltm_setting.specs.Setting.{setting_of}
use Rattle.ltm_flows.specs.Production.{RenewsNode}
use Rattle.ltm_flows.proofs.Renewing.{node_none, node_next}
use Rattle.ltm_flows.proofs.production.Production.renew_node.Goals as goal

pub loop-boundary-init : goal.loop-boundary-init
loop-boundary-init c = node_none (setting_of c.args.scenario.now) c.args.node.0 c.args.from c.args.self.now

pub set-requires-clause-node : goal.set-requires-clause-node
set-requires-clause-node c = omega (arith, c.requires.node, c.loop-boundary.invariant.sizes.nodes)

pub set-requires-clause-boundary : goal.set-requires-clause-boundary
set-requires-clause-boundary c = omega (arith, c.loop-boundary-test.true, c.requires.end, c.loop-boundary.invariant.sizes.room)

pub loop-boundary-preserved : goal.loop-boundary-preserved
loop-boundary-preserved c =
    node_next (setting_of c.args.scenario.now) c.args.node.0 c.args.from c.loop-boundary.boundary c.produced_total-amount.result c.args.self.now c.loop-boundary.self c.set.new.self c.requires.node c.loop-boundary.auto.boundary
    (omega (arith, c.loop-boundary-test.true, c.requires.end)) c.produced_total-amount.ensures.value c.loop-boundary.invariant c.set.ensures

pub returns : goal.returns
returns c =
    let done : c.loop-boundary.boundary ≡ c.args.end = omega (arith, c.loop-boundary-test.false, c.loop-boundary.auto.boundary-end c.requires.order) in
    subst (λ (k : ℕ). RenewsNode (setting_of c.args.scenario.now) c.args.node.0 c.args.from k c.args.self.now c.loop-boundary.self) done c.loop-boundary.invariant
