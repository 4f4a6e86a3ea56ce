use Rattle.std.proofs.Common.{◌≡◌, ℕ, ◌+◌, ◌-◌, ◌*◌, ◌/◌, slice_index, arith, ap, ◌∙◌}
use Rattle.ltm_curve.specs.First.{mixed}
use Rattle.ltm_curve.specs.Table.{destinations_of, counts_of}
use Rattle.ltm_curve.proofs.Lists.{written_two}
use Rattle.ltm_curve.proofs.Mixing.{MixedPair, mixed_two}
use Rattle.ltm_curve.proofs.group.Group.write_mixed_two.Goals as goal

pub overflow_sub-into-3 : goal.overflow_sub-into-3
overflow_sub-into-3 c =
    let m : ℕ = destinations_of c.args.self.now.curves.now in
    let rows : ℕ → ℕ → ℕ = counts_of c.args.self.now.curves.now c.args.self.now.group in
    let k : ℕ = c.args.slot in
    let first : c.from-entered.result ≡ rows 0 (k + 1) - rows 0 k = omega (arith, c.from-entered.ensures, c.row-before.ensures.counts 0 (omega (arith, c.requires.two)), c.row-after.ensures.counts 0 (omega (arith, c.requires.two))) in
    let other : c.from.result ≡ rows 1 (k + 1) - rows 1 k = omega (arith, c.from.ensures, c.row-before.ensures.counts 1 (omega (arith, c.requires.two)), c.row-after.ensures.counts 1 (omega (arith, c.requires.two))) in
    let pair : MixedPair m rows k c.args.part c.share_of-share.result =
    mixed_two m rows k c.args.part c.share_of-share.result c.requires.two c.requires.part
    (c.share_of-share.ensures.share ∙ (ap (λ (z : ℕ). c.args.part * z / (z + c.from.result)) first ∙ ap (λ (z : ℕ). c.args.part * (rows 0 (k + 1) - rows 0 k) / (rows 0 (k + 1) - rows 0 k + z)) other)) in
    omega (arith, pair.other, c.requires.behind 1 (omega (arith, c.requires.two)), c.from-4.ensures, c.from-5.ensures, c.row-before.ensures.counts 1 (omega (arith, c.requires.two)))

pub returns : goal.returns
returns c =
    let m : ℕ = destinations_of c.args.self.now.curves.now in
    let rows : ℕ → ℕ → ℕ = counts_of c.args.self.now.curves.now c.args.self.now.group in
    let k : ℕ = c.args.slot in
    let first : c.from-entered.result ≡ rows 0 (k + 1) - rows 0 k = omega (arith, c.from-entered.ensures, c.row-before.ensures.counts 0 (omega (arith, c.requires.two)), c.row-after.ensures.counts 0 (omega (arith, c.requires.two))) in
    let other : c.from.result ≡ rows 1 (k + 1) - rows 1 k = omega (arith, c.from.ensures, c.row-before.ensures.counts 1 (omega (arith, c.requires.two)), c.row-after.ensures.counts 1 (omega (arith, c.requires.two))) in
    let pair : MixedPair m rows k c.args.part c.share_of-share.result =
    mixed_two m rows k c.args.part c.share_of-share.result c.requires.two c.requires.part
    (c.share_of-share.ensures.share ∙ (ap (λ (z : ℕ). c.args.part * z / (z + c.from.result)) first ∙ ap (λ (z : ℕ). c.args.part * (rows 0 (k + 1) - rows 0 k) / (rows 0 (k + 1) - rows 0 k + z)) other)) in
    written_two c.args.into.now (λ d. mixed m rows k c.args.part d - slice_index c.args.less.now d) m _ _ c.requires.two c.requires.room
    (omega (arith, pair.first, c.from-2.ensures, c.from-3.ensures, c.row-before.ensures.counts 0 (omega (arith, c.requires.two))))
    (omega (arith, pair.other, c.from-4.ensures, c.from-5.ensures, c.row-before.ensures.counts 1 (omega (arith, c.requires.two))))
