use Rattle.std.proofs.Common.{◌≡◌, ℕ, ◌+◌, arith, sym, subst, ◌∙◌, ap, length}
use Rattle.std.proofs.lemmas.List.{with_items_is}
use Rattle.ltm_lean.specs.Nodes.{AreIncoming, AreOutgoing, StandAt}
use Rattle.ltm_lean.proofs.Passed.{HasLeftLinks, HasEnteredLinks, passed_node, passed_stands, passed_moved}
use Rattle.ltm_lean.proofs.node.LeanNode.pass.Goals as goal

pub returns-clause-node : goal.returns-clause-node
returns-clause-node c = λ s x h.
    let u : ℕ = c.args.self.now.node.0 in
    let ins : c.leave_own.new.self.ins.items ≡ c.leave_links.new.ins =
    c.leave_own.ensures.ins ∙ with_items_is c.args.self.now.ins c.leave_links.new.ins (omega (arith, c.leave_links.auto.ins, c.deref_mut.ensures.len)) in
    let was : c.deref_mut-2.result.now ≡ c.args.self.now.outs.items = c.deref_mut-2.ensures.value ∙ c.leave_own.ensures.outs in
    passed_node s x c.args.self.now _ c.leave_own.ensures.same_node c.leave_own.ensures.same_own c.leave_own.ensures.wide c.leave_own.ensures.same_kept
    (subst (AreIncoming s x u) (sym ins) (c.leave_links.ensures.links s x u (subst (AreIncoming s x u) (sym c.deref_mut.ensures.value) h.incoming)))
    (subst (AreOutgoing s x u) (sym (with_items_is c.leave_own.new.self.outs c.enter_links.new.outs (omega (arith, c.enter_links.auto.outs, c.deref_mut-2.ensures.len))))
    (c.enter_links.ensures.links s x u (subst (AreOutgoing s x u) (sym was) h.outgoing))) h

pub returns-clause-stands : goal.returns-clause-stands
returns-clause-stands c = λ s x counts k t h moving stood.
    let u : ℕ = c.args.self.now.node.0 in
    let ins : c.leave_own.new.self.ins.items ≡ c.leave_links.new.ins =
    c.leave_own.ensures.ins ∙ with_items_is c.args.self.now.ins c.leave_links.new.ins (omega (arith, c.leave_links.auto.ins, c.deref_mut.ensures.len)) in
    let count : length c.leave_links.new.ins ≡ s.ins u = omega (arith, c.leave_links.auto.ins, ap length c.deref_mut.ensures.value, h.incoming.count) in
    passed_stands s counts x k (t + 1) c.args.self.now.node _ c.leave_own.ensures.same_node
    (subst (StandAt s counts x u k (t + 1)) (sym ins)
    (c.leave_links.ensures.stands s x counts u k t (subst (AreIncoming s x u) (sym c.deref_mut.ensures.value) h.incoming) moving (subst (StandAt s counts x u k t) (sym c.deref_mut.ensures.value) stood.links)))
    (λ some. c.leave_own.ensures.left s x counts u t
    (ap length (with_items_is c.args.self.now.ins c.leave_links.new.ins (omega (arith, c.leave_links.auto.ins, c.deref_mut.ensures.len))) ∙ count) h.outgoing.count some moving (stood.origin some))

pub returns-clause-moved : goal.returns-clause-moved
returns-clause-moved c = λ s x counts t h moving.
    let u : ℕ = c.args.self.now.node.0 in
    let ins : c.leave_own.new.self.ins.items ≡ c.leave_links.new.ins =
    c.leave_own.ensures.ins ∙ with_items_is c.args.self.now.ins c.leave_links.new.ins (omega (arith, c.leave_links.auto.ins, c.deref_mut.ensures.len)) in
    let was : c.deref_mut-2.result.now ≡ c.args.self.now.outs.items = c.deref_mut-2.ensures.value ∙ c.leave_own.ensures.outs in
    passed_moved s counts x t c.args.self.now.node _ c.leave_own.ensures.same_node
    (subst (HasLeftLinks s counts u t) (sym ins) (c.leave_links.ensures.gone s x counts u t (subst (AreIncoming s x u) (sym c.deref_mut.ensures.value) h.incoming) moving))
    (subst (HasEnteredLinks s counts x u t) (sym (with_items_is c.leave_own.new.self.outs c.enter_links.new.outs (omega (arith, c.enter_links.auto.outs, c.deref_mut-2.ensures.len))))
    (c.enter_links.ensures.came s x counts u t (subst (AreOutgoing s x u) (sym was) h.outgoing) moving))
