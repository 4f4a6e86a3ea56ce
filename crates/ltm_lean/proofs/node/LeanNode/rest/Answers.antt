use Rattle.std.proofs.Common.{◌≡◌, ◌<◌, ℕ, ◌+◌, List, arith, sym, subst, ◌∙◌, ap, length, slice_index_or, refl}
use Rattle.std.proofs.lemmas.List.{with_items_is}
use Rattle.ltm_lean.specs.declared.incoming.Incoming.{Incoming}
use Rattle.ltm_lean.specs.Nodes.{AreIncoming, AreOutgoing, StandAt}
use Rattle.ltm_lean.proofs.Passed.{HasLeftLinks, HasEnteredLinks, passed_node, passed_stands, passed_moved}
use Rattle.ltm_lean.proofs.Rested.{links_still, origin_still, gone_still, came_still}
use Rattle.ltm_lean.proofs.node.LeanNode.rest.Goals as goal

pub returns-clause-node : goal.returns-clause-node
returns-clause-node c = λ s x h.
    let u : ℕ = c.args.self.now.node.0 in
    passed_node s x c.args.self.now _ refl refl refl refl
    (subst (AreIncoming s x u) (sym (with_items_is c.args.self.now.ins c.rest_ins.new.ins (omega (arith, c.rest_ins.auto.ins, c.deref_mut.ensures.len))))
    (c.rest_ins.ensures.links s x u (subst (AreIncoming s x u) (sym c.deref_mut.ensures.value) h.incoming)))
    (subst (AreOutgoing s x u) (sym (with_items_is c.args.self.now.outs c.rest_outs.new.outs (omega (arith, c.rest_outs.auto.outs, c.deref_mut-2.ensures.len))))
    (c.rest_outs.ensures.links s x u (subst (AreOutgoing s x u) (sym c.deref_mut-2.ensures.value) h.outgoing))) h

pub returns-clause-stands : goal.returns-clause-stands
returns-clause-stands c = λ s x counts k t setting tables h still stood.
    let u : ℕ = c.args.self.now.node.0 in
    let many : length c.deref_mut.result.now ≡ s.ins u = ap length c.deref_mut.ensures.value ∙ h.incoming.count in
    let same : (i : ℕ) (d : Incoming) → i < s.ins u → (slice_index_or c.rest_ins.new.ins i d).standing ≡ (slice_index_or c.args.self.now.ins.items i d).standing =
    λ i d l. c.rest_ins.ensures.stands i d (omega (arith, l, many)) ∙ ap (λ (xs : List Incoming). (slice_index_or xs i d).standing) c.deref_mut.ensures.value in
    passed_stands s counts x k (t + 1) c.args.self.now.node _ refl
    (subst (StandAt s counts x u k (t + 1)) (sym (with_items_is c.args.self.now.ins c.rest_ins.new.ins (omega (arith, c.rest_ins.auto.ins, c.deref_mut.ensures.len))))
    (links_still s counts x u k t c.args.self.now.ins.items c.rest_ins.new.ins tables h.there (λ i l. setting.network.in_link_is_link u i h.there l) still same stood.links))
    (λ some. origin_still s counts x u t c.args.self.now.left c.args.self.now.gone.items tables h.there still some (stood.origin some))

pub returns-clause-moved : goal.returns-clause-moved
returns-clause-moved c = λ s x counts t h still.
    let u : ℕ = c.args.self.now.node.0 in
    let ins : length c.deref_mut.result.now ≡ s.ins u = ap length c.deref_mut.ensures.value ∙ h.incoming.count in
    let outs : length c.deref_mut-2.result.now ≡ s.outs u = ap length c.deref_mut-2.ensures.value ∙ h.outgoing.count in
    passed_moved s counts x t c.args.self.now.node _ refl
    (subst (HasLeftLinks s counts u t) (sym (with_items_is c.args.self.now.ins c.rest_ins.new.ins (omega (arith, c.rest_ins.auto.ins, c.deref_mut.ensures.len))))
    (gone_still s counts u t c.rest_ins.new.ins still (λ i d l. c.rest_ins.ensures.gone i d (omega (arith, l, ins)))))
    (subst (HasEnteredLinks s counts x u t) (sym (with_items_is c.args.self.now.outs c.rest_outs.new.outs (omega (arith, c.rest_outs.auto.outs, c.deref_mut-2.ensures.len))))
    (came_still s counts x u t c.rest_outs.new.outs still (λ j d l. c.rest_outs.ensures.came j d (omega (arith, l, outs)))))
