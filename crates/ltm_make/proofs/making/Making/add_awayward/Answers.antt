use Rattle.std.proofs.Common.{arith}
use Rattle.ltm_make.proofs.Demanded.{away_origin}
use Rattle.ltm_make.proofs.making.Making.add_awayward.Goals as goal

pub add_demand-requires : goal.add_demand-requires
add_demand-requires c = away_origin c.args.self.now.scenario c.args.grid.nodes c.args.grid.width c.args.node c.requires.laid (omega arith) c.requires.there c.requires.few
