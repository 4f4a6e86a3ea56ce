use Rattle.std.proofs.Common.{ℕ, ◌-◌, slice_index, arith}
use Rattle.ltm_curve.specs.Table.{destinations_of, counts_of}
use Rattle.ltm_curve.proofs.Lists.{written_two}
use Rattle.ltm_curve.proofs.group.Group.write_less_two.Goals as goal

pub returns : goal.returns
returns c =
    let m : ℕ = destinations_of c.args.self.now.curves.now in
    written_two c.args.into.now (λ d. counts_of c.args.self.now.curves.now c.args.self.now.group d c.args.boundary - slice_index c.args.less.now d) m _ _ c.requires.two c.requires.room
    (omega (arith, c.from-first.ensures, c.row-row.ensures.counts 0 (omega (arith, c.requires.two)))) (omega (arith, c.from-other.ensures, c.row-row.ensures.counts 1 (omega (arith, c.requires.two))))
