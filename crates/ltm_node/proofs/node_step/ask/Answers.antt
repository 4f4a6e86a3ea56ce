use Rattle.std.proofs.Common.{◌≡◌, ◌<◌, ◌∙◌, length, refl, arith, rules}
use Rattle.std.proofs.lemmas.List.{get_or-set_other, get_or-set_same}
use Rattle.ltm_shares.specs.Demands.{demands_of}
use Rattle.ltm_node.proofs.Demanded.{asks_past, asks_more}
use Rattle.ltm_node.proofs.Totals.{takes_all}
use Rattle.ltm_node.proofs.node_step.ask.Goals as goal

pub returns-then-total-supply : goal.returns-then-total-supply
returns-then-total-supply c =
    let n = c.args.inputs.now in
    let old = c.args.into.now in
    let long : length old.supply ≡ 4 = search rules in
    let room : old.outs < 4 = omega (arith, c.requires.before.few, c.requires.out, c.requires.solvable.few_outs) in
    asks_more n (demands_of old) _ c.args.out c.requires.solvable.few_outs c.requires.out c.requires.before refl refl (λ i. refl)
    (λ i l. c.copy_column.ensures.column i (omega (arith, c.requires.before.arms)) ∙ c.requires.sent i c.args.out l c.requires.out)
    (λ i k l ne. c.copy_column.ensures.others i k l ne)
    (get_or-set_same old.supply old.outs c.supply-supply.result 0 (omega arith) ∙ c.supply-supply.ensures)
    (λ k ne. get_or-set_other old.supply old.outs k c.supply-supply.result 0 ne)

pub returns-else-total-supply : goal.returns-else-total-supply
returns-else-total-supply c =
    let n = c.args.inputs.now in
    asks_past n (demands_of c.args.into.now) c.args.out c.requires.before
    (takes_all n c.args.sent.now c.args.out c.args.total c.requires.sent c.requires.out c.requires.total (omega (arith, c.if-total-supply.false, c.supply-supply.ensures)))
