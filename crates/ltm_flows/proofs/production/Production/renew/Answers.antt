use Rattle.std.proofs.Common.{◌≡◌, ℕ, arith, subst}
use Rattle.ltm_setting.specs.Setting.{setting_of}
use Rattle.ltm_flows.specs.Production.{RenewsNodes}
use Rattle.ltm_flows.proofs.Renewing.{all_none, all_next}
use Rattle.ltm_flows.proofs.production.Production.renew.Goals as goal

pub loop-boundary-init : goal.loop-boundary-init
loop-boundary-init c = all_none (setting_of c.args.scenario.now) c.args.self.now.nodes c.args.from c.args.self.now

pub renew_boundary-requires : goal.renew_boundary-requires
renew_boundary-requires c = omega (arith, c.loop-boundary-test.true, c.requires.end, c.loop-boundary.invariant.sizes.room)

pub loop-boundary-preserved : goal.loop-boundary-preserved
loop-boundary-preserved c =
    all_next (setting_of c.args.scenario.now) c.args.from c.loop-boundary.boundary c.args.self.now c.loop-boundary.self c.renew_boundary.new.self c.loop-boundary.auto.boundary
    (omega (arith, c.loop-boundary-test.true, c.requires.end)) c.loop-boundary.invariant c.renew_boundary.ensures

pub returns : goal.returns
returns c =
    let done : c.loop-boundary.boundary ≡ c.args.end = omega (arith, c.loop-boundary-test.false, c.loop-boundary.auto.boundary-end c.requires.order) in
    subst (λ (k : ℕ). RenewsNodes (setting_of c.args.scenario.now) c.args.self.now.nodes c.args.from k c.args.self.now c.loop-boundary.self) done c.loop-boundary.invariant
