use Rattle.std.proofs.Common.{refl, arith}
use Rattle.ltm_rows.proofs.KeptPlaces.{same_rows, amounts_kept, weights_kept}
use Rattle.ltm_rows.proofs.rows.KeptRows.lengthen.Goals as goal

pub returns-clause-same : goal.returns-clause-same
returns-clause-same c = same_rows c.args.self.now _ (record { narrow = refl; wide = refl }) (λ w v x l. amounts_kept c.args.self.now _ refl refl w v) (λ w v x l. weights_kept c.args.self.now _ refl refl w v) c.lengthen.ensures.marks c.lengthen-2.ensures.marks

pub returns-clause-none : goal.returns-clause-none
returns-clause-none c = λ u t x l. c.lengthen.ensures.new u t (omega (arith, x, c.args.self.now.nodes)) (omega (arith, l, c.args.self.now.rows))

pub returns-clause-none_weighed : goal.returns-clause-none_weighed
returns-clause-none_weighed c = λ u t x l. c.lengthen-2.ensures.new u t (omega (arith, x, c.args.self.now.weighed_nodes)) (omega (arith, l, c.args.self.now.weighed_rows))
