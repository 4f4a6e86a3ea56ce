use Rattle.std.proofs.Common.{◌*◌, ap, arith, length, subst, sym}
use Rattle.ltm_make.specs.declared.making.Making.{Making}
use Rattle.ltm_make.specs.Splits.{IsLaid}
use Rattle.ltm_make.proofs.SplitsMade.{home_laid, splits_laid, few_home, few_splits}
use Rattle.ltm_make.proofs.making.Making.add_splits.Goals as goal

pub add_home-requires-clause-laid : goal.add_home-requires-clause-laid
add_home-requires-clause-laid c =
    subst (λ (m : Making). IsLaid c.args.grid.nodes c.args.grid.width m.scenario) (sym c.loop-node.invariant)
    (splits_laid c.args.grid.nodes c.args.grid.width c.loop-node.node c.args.self.now c.requires.laid)

pub add_home-requires-clause-few : goal.add_home-requires-clause-few
add_home-requires-clause-few c =
    omega (
      arith,
      ap (λ (m : Making). length m.scenario.splits) c.loop-node.invariant,
      few_splits c.args.grid.nodes c.args.grid.width c.loop-node.node c.args.self.now c.requires.none,
      c.requires.laid.grid.few,
    )

pub add_away-requires-clause-laid : goal.add_away-requires-clause-laid
add_away-requires-clause-laid c =
    subst (λ (m : Making). IsLaid c.args.grid.nodes c.args.grid.width m.scenario) (sym c.in_ok-add_home.ensures)
    (home_laid c.args.grid.nodes c.args.grid.width c.loop-node.node c.loop-node.self
    (subst (λ (m : Making). IsLaid c.args.grid.nodes c.args.grid.width m.scenario) (sym c.loop-node.invariant)
    (splits_laid c.args.grid.nodes c.args.grid.width c.loop-node.node c.args.self.now c.requires.laid)))

pub add_away-requires-clause-few : goal.add_away-requires-clause-few
add_away-requires-clause-few c =
    omega (
      arith,
      ap (λ (m : Making). length m.scenario.splits) c.in_ok-add_home.ensures,
      few_home c.args.grid.width c.loop-node.node (2 * c.loop-node.node) c.loop-node.self
          (omega (
            arith,
            ap (λ (m : Making). length m.scenario.splits) c.loop-node.invariant,
            few_splits c.args.grid.nodes c.args.grid.width c.loop-node.node c.args.self.now c.requires.none,
          )),
      c.requires.laid.grid.few,
    )
