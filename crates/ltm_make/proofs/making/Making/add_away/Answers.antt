use Rattle.std.proofs.Common.{Option, arith, subst, sym}
use Rattle.ltm_make.specs.declared.branches.Branch.{Branch}
use Rattle.ltm_make.specs.Branches.{away_first}
use Rattle.ltm_make.specs.Splits.{AreBranches}
use Rattle.ltm_make.proofs.Laying.{away_branches, away_room}
use Rattle.ltm_make.proofs.making.Making.add_away.Goals as goal

pub add_split-requires-clause-room : goal.add_split-requires-clause-room
add_split-requires-clause-room c = away_room c.args.self.now.scenario c.args.grid.nodes c.args.grid.width c.args.node c.requires.laid (omega arith) c.requires.there c.requires.few

pub add_split-requires-clause-branches : goal.add_split-requires-clause-branches
add_split-requires-clause-branches c =
    subst (λ (b : Branch). AreBranches c.args.self.now.scenario.network c.args.node b c.away_of.result.1) (sym c.away_of.ensures.first)
    (subst (λ (o : Option Branch). AreBranches c.args.self.now.scenario.network c.args.node (away_first c.args.grid.width c.args.node) o) (sym c.away_of.ensures.second)
    (away_branches c.args.self.now.scenario.network c.args.grid.nodes c.args.grid.width c.args.node c.requires.laid.grid c.requires.laid.along (omega arith) c.requires.there))
