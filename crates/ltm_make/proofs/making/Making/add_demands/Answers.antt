use Rattle.std.proofs.Common.{◌*◌, ap, arith, length, subst, sym}
use Rattle.ltm_make.specs.declared.making.Making.{Making}
use Rattle.ltm_make.specs.Splits.{IsLaid}
use Rattle.ltm_make.proofs.Demanded.{homeward_laid, demands_laid, few_homeward, few_demands}
use Rattle.ltm_make.proofs.making.Making.add_demands.Goals as goal

pub add_homeward-requires-clause-laid : goal.add_homeward-requires-clause-laid
add_homeward-requires-clause-laid c =
    subst (λ (m : Making). IsLaid c.args.grid.nodes c.args.grid.width m.scenario) (sym c.loop-node.invariant)
    (demands_laid c.args.grid.nodes c.args.grid.width c.loop-node.node c.args.self.now c.requires.laid)

pub add_homeward-requires-clause-few : goal.add_homeward-requires-clause-few
add_homeward-requires-clause-few c =
    omega (
      arith,
      ap (λ (m : Making). length m.scenario.demand) c.loop-node.invariant,
      few_demands c.args.grid.width c.loop-node.node c.args.self.now c.requires.none,
      c.requires.laid.grid.few,
    )

pub add_awayward-requires-clause-laid : goal.add_awayward-requires-clause-laid
add_awayward-requires-clause-laid c =
    subst (λ (m : Making). IsLaid c.args.grid.nodes c.args.grid.width m.scenario) (sym c.in_ok-add_homeward.ensures)
    (homeward_laid c.args.grid.nodes c.args.grid.width c.loop-node.node c.loop-node.self
    (subst (λ (m : Making). IsLaid c.args.grid.nodes c.args.grid.width m.scenario) (sym c.loop-node.invariant)
    (demands_laid c.args.grid.nodes c.args.grid.width c.loop-node.node c.args.self.now c.requires.laid)))

pub add_awayward-requires-clause-few : goal.add_awayward-requires-clause-few
add_awayward-requires-clause-few c =
    omega (
      arith,
      ap (λ (m : Making). length m.scenario.demand) c.in_ok-add_homeward.ensures,
      few_homeward c.loop-node.node (2 * c.loop-node.node) c.loop-node.self
          (omega (
            arith,
            ap (λ (m : Making). length m.scenario.demand) c.loop-node.invariant,
            few_demands c.args.grid.width c.loop-node.node c.args.self.now c.requires.none,
          )),
      c.requires.laid.grid.few,
    )
