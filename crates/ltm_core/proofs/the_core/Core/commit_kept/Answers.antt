use Rattle.std.proofs.Common.{◌≤◌, arith}
use Rattle.ltm_units.specs.Bounds.{most_nodes}
use Rattle.ltm_setting.specs.Setting.{setting_of}
use Rattle.ltm_core.proofs.Claimings.{kept_in}
use Rattle.ltm_core.proofs.Histories.{core_told}
use Rattle.ltm_core.proofs.Committings.{commits_fit, core_after_commit, came_commit, core_commits_at}
use Rattle.ltm_core.proofs.the_core.Core.commit_kept.Goals as goal

pub commit-requires-clause-ready : goal.commit-requires-clause-ready
commit-requires-clause-ready c = c.self.invariant.0.ready

pub commit-requires-clause-claimed : goal.commit-requires-clause-claimed
commit-requires-clause-claimed c = (kept_in _ _ c.args.pair c.args.ticket c.args.solved.now.inputs c.self.view_is c.requires).claimed

pub commit-requires-clause-shape : goal.commit-requires-clause-shape
commit-requires-clause-shape c = (kept_in _ _ c.args.pair c.args.ticket c.args.solved.now.inputs c.self.view_is c.requires).shape

pub overflow_add-self : goal.overflow_add-self
overflow_add-self c =
    let few : (setting_of c.self.inside.scenario).nodes ≤ most_nodes = omega (c.node_count-nodes.ensures.value, c.node_count-nodes.ensures.few, arith) in
    omega (commits_fit c.repair_laws.ensures _ _ c.args.pair c.args.ticket c.args.solved.now.inputs c.self.view_is c.self.invariant.0 c.requires few, arith)

pub invariant_of-self : goal.invariant_of-self
invariant_of-self c = (
  core_told _ _ (core_after_commit c.repair_laws.ensures _ c.commit.new.self c.args.pair.node.0 c.args.pair.slot c.args.solved.now.inputs.row c.self.invariant.0 c.commit.ensures.ready
      (record { commits = c.commit.ensures.desk; cells = c.commit.ensures.changed })),
  came_commit _ c.commit.new.self _ c.args.pair.node.0 c.args.pair.slot c.args.solved.now.inputs.row c.self.invariant.0 (record { commits = c.commit.ensures.desk; cells = c.commit.ensures.changed }) c.add.ensures c.self.invariant.1,
)

pub returns : goal.returns
returns c = core_commits_at _ _ c.commit.new.self _ c.args.pair c.args.solved.now.inputs.row c.self.view_is c.self.invariant.0 (record { commits = c.commit.ensures.desk; cells = c.commit.ensures.changed }) c.add.ensures
