use Rattle.std.proofs.Common.{◌≡◌, ◌+◌, ℕ, arith, subst}
use Rattle.ltm_setting.specs.Setting.{setting_of}
use Rattle.ltm_flows.specs.Production.{RenewsNodes}
use Rattle.ltm_flows.proofs.Renewing.{boundary_none, boundary_next}
use Rattle.ltm_flows.proofs.production.Production.renew_boundary.Goals as goal

pub loop-node-init : goal.loop-node-init
loop-node-init c = boundary_none (setting_of c.args.scenario.now) c.args.boundary (c.args.boundary + 1) c.args.self.now

pub set-requires-clause-node : goal.set-requires-clause-node
set-requires-clause-node c = omega (arith, c.loop-node-test.true, c.loop-node.invariant.sizes.nodes)

pub set-requires-clause-boundary : goal.set-requires-clause-boundary
set-requires-clause-boundary c = omega (arith, c.requires, c.loop-node.invariant.sizes.room)

pub loop-node-preserved : goal.loop-node-preserved
loop-node-preserved c =
    boundary_next (setting_of c.args.scenario.now) c.loop-node.node c.args.boundary c.produced_total-amount.result c.args.self.now c.loop-node.self c.set.new.self (omega (arith, c.loop-node-test.true)) c.requires
    c.produced_total-amount.ensures.value c.loop-node.invariant c.set.ensures

pub returns : goal.returns
returns c =
    let done : c.loop-node.node ≡ c.args.self.now.nodes = omega (arith, c.loop-node-test.false, c.loop-node.auto) in
    subst (λ (n : ℕ). RenewsNodes (setting_of c.args.scenario.now) n c.args.boundary (c.args.boundary + 1) c.args.self.now c.loop-node.self) done c.loop-node.invariant
