use Rattle.std.proofs.Common.{◌≡◌, [], Option, Some, ap, subst, ◌∙◌, sym, arith}
use Rattle.std.specs.Slots.{slots_items}
use Rattle.ltm_editors.specs.Boxes.{boxed}
use Rattle.ltm_editors.specs.declared.view.View.{View}
use Rattle.ltm_editors.specs.Lists.{entries_of}
use Rattle.ltm_editors.proofs.Ends.{closes, closes_made, same_value}
use Rattle.ltm_editors.proofs.desk.Desk.close.Goals as goal
use Rattle.ltm_editors.proofs.desk.Desk.close.Goals.{After-free}

-- what the slot had when the desk ended, for what the first seat had seen
abbrev Slot : (g : _) → After-free g → View g.row.T-Opening.Denot g.row.T-Entry.Denot → Type 0
Slot g c v = (x : _) × (c.take-value.result ≡ Some x) × (v.opening ≡ Some (boxed g.T.Recorded.opening x)) × (boxed g.T.Recorded.history x ≡ v.seen)

found : (g : _) (c : After-free g) → Slot g c c.args.first.seat.me.0
found g c = let seat = c.open-token.result.0 in let same = c.open-token.ensures.0 in let first = c.args.first in
    let slots = slots_items c.close_with-closed.result.slots in
    let k = closes (boxed g.T.Recorded.opening) (boxed g.T.Recorded.history) g.T.Recorded.author _ seat.me.0 _ slots
    (ap (λ s. s.me.0.chair) same ∙ (first.first c.requires.first).0) (ap (λ s. s.me.0.holds) same ∙ first.sits.2) (ap (λ s. s.me.0.others) same ∙ (first.counted.2 ∙ c.requires.alone))
    c.close_with-closed.ensures.values.2 in
    subst (λ s. Slot g c s.me.0) same (same_value (boxed g.T.Recorded.opening) (boxed g.T.Recorded.history) g.T.Recorded.author seat.me.0 slots c.take-value.result k c.take-value.ensures.value)

pub unreachable-requires : goal.unreachable-requires
unreachable-requires g c = let k = found g (goal.at.unreachable-requires g c).After-free in c.in_default.not-Some k.0 k.1

same : {A : Type 0} (o : Option A) (x y : A) → o ≡ Some x → o ≡ Some y → x ≡ y
same o x y p q = cc

pub returns-clause-opening : goal.returns-clause-opening
returns-clause-opening g c = let k = found g (goal.at.returns-clause-opening g c).After-free in
    k.2 ∙ ap (λ x. Some (boxed g.T.Recorded.opening x)) (same c.take-value.result k.0 c.in-Some.boxed k.1 c.in-Some.is) ∙ ap (λ x. Some (g.T.Recorded.opening x)) (sym c.into_inner.ensures)

pub returns-clause-history : goal.returns-clause-history
returns-clause-history g c = let k = found g (goal.at.returns-clause-history g c).After-free in ap g.T.Recorded.history c.into_inner.ensures ∙ ap (boxed g.T.Recorded.history) (same c.take-value.result c.in-Some.boxed k.0 c.in-Some.is k.1) ∙ k.3

pub returns-clause-made : goal.returns-clause-made
returns-clause-made g c = λ n least.
    let k = found g (goal.at.returns-clause-made g c).After-free in
    let history = ap g.T.Recorded.history c.into_inner.ensures ∙ ap (boxed g.T.Recorded.history) (same c.take-value.result c.in-Some.boxed k.0 c.in-Some.is k.1) ∙ k.3 in
    let seat = c.open-token.result.0 in let is_seat = c.open-token.ensures.0 in let first = c.args.first in
    let made : seat.me.0.made ≡ first.made = ap (λ s. s.me.0.made) is_seat ∙ first.counted.1 in
    let none = closes_made (boxed g.T.Recorded.opening) (boxed g.T.Recorded.history) g.T.Recorded.author _ seat.me.0 _ (slots_items c.close_with-closed.result.slots) (ap (λ s. s.me.0.chair) is_seat ∙ (first.first c.requires.first).0)
    c.close_with-closed.ensures.values.2 n (omega (arith, made, least)) in
    ap (λ h. entries_of g.T.Recorded.author n h) history ∙ subst (λ s. entries_of g.T.Recorded.author n s.me.0.seen ≡ []) is_seat none
