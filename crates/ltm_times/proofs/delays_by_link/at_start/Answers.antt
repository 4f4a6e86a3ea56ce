use Rattle.std.proofs.Common.{refl, arith}
use Rattle.ltm_times.proofs.AtStart.{all_none}
use Rattle.ltm_times.proofs.delays_by_link.at_start.Goals as goal

pub returns : goal.returns
returns c =
    let l = c.args.loading.now in
    all_none l c.links.result _ _ (omega (arith, l.some_step)) c.links.ensures.value (c.in_ok-vec.ensures.items_if_clones_equal (λ y same. same)) refl refl refl refl
