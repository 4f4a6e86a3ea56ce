use Rattle.std.proofs.Common.{ℕ, ◌-◌, arith, slice_index, ap, sym, ◌∙◌}
use Rattle.ltm_sending.proofs.Origins.{all_of_them}
use Rattle.ltm_sending.proofs.origin.send_queue.Goals as goal

pub write_less-requires-clause-behind : goal.write_less-requires-clause-behind
write_less-requires-clause-behind c d x =
    let all = all_of_them _ _ c.args.queue.goal c.args.queue.all c.args.boundary d c.requires.part c.if-queue.true c.requires.all in omega (arith, all, c.requires.behind d x)

pub returns-then-queue : goal.returns-then-queue
returns-then-queue c d x =
    c.write_less.ensures d x ∙ ap (λ (z : ℕ). z - slice_index c.args.gone.now d) (sym (all_of_them _ _ c.args.queue.goal c.args.queue.all c.args.boundary d c.requires.part c.if-queue.true c.requires.all))
