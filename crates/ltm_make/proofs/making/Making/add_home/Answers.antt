use Rattle.std.proofs.Common.{Option, arith, subst, sym}
use Rattle.ltm_make.specs.declared.branches.Branch.{Branch}
use Rattle.ltm_make.specs.Branches.{home_first}
use Rattle.ltm_make.specs.Splits.{AreBranches}
use Rattle.ltm_make.proofs.Laying.{home_branches, home_room}
use Rattle.ltm_make.proofs.making.Making.add_home.Goals as goal

pub add_split-requires-clause-room : goal.add_split-requires-clause-room
add_split-requires-clause-room c = home_room c.args.self.now.scenario c.args.grid.nodes c.args.grid.width c.args.node c.requires.laid (omega arith) c.requires.there c.requires.few

pub add_split-requires-clause-branches : goal.add_split-requires-clause-branches
add_split-requires-clause-branches c =
    subst (λ (b : Branch). AreBranches c.args.self.now.scenario.network c.args.node b c.home_of.result.1) (sym c.home_of.ensures.first)
    (subst (λ (o : Option Branch). AreBranches c.args.self.now.scenario.network c.args.node (home_first c.args.grid.width c.args.node) o) (sym c.home_of.ensures.second)
    (home_branches c.args.self.now.scenario.network c.args.grid.nodes c.args.grid.width c.args.node c.requires.laid.grid c.requires.laid.along (omega arith) c.requires.there))
