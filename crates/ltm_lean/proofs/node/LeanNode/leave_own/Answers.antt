use Rattle.std.proofs.Common.{◌≡◌, ℕ, ◌+◌, List, arith, sym, subst}
use Rattle.std.proofs.lemmas.List.{with_items_is}
use Rattle.ltm_used.specs.Lists.{list_of}
use Rattle.ltm_origin.specs.Waiting.{HasLeft}
use Rattle.ltm_lean.proofs.node.LeanNode.leave_own.Goals as goal

pub returns-clause-left : goal.returns-clause-left
returns-clause-left c = λ s x counts u t ins outs some moving was.
    let us : List ℕ = list_of x.nodes u in
    let arm : c.len-arm.result ≡ s.ins u = omega (arith, c.len-arm.ensures, c.args.self.now.ins.ok.0, ins) in
    subst (λ (ys : List ℕ). HasLeft s counts u (t + 1) us c.leave_origin.new.left ys) (sym (with_items_is c.args.self.now.gone c.leave_origin.new.gone (omega (arith, c.leave_origin.auto.gone, c.deref_mut.ensures.len))))
    (c.leave_origin.ensures s x counts u t arm some moving (subst (HasLeft s counts u t us c.args.self.now.left) (sym c.deref_mut.ensures.value) was))
