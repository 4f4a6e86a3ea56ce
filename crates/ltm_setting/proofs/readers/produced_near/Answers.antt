use Rattle.std.proofs.Common.{◌-◌, arith}
use Rattle.ltm_setting.proofs.readers.produced_near.Goals as goal

pub returns-clause-small : goal.returns-clause-small
returns-clause-small c =
    omega (
      arith,
      c.by_end_near.ensures,
      c.production_never_falls.ensures.within c.demand-demand.result.now.demand.rows c.args.node.0 c.args.destination (c.args.boundary - 1),
      c.production_never_falls.ensures.small c.demand-demand.result.now.demand.slots c.demand-demand.result.now.demand.most_rows c.demand-demand.result.now.demand.rows c.rows-rows.ensures.kept,
    )
