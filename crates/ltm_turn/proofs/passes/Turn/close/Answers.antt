use Rattle.std.proofs.Common.{rules, ◌≡◌, ◌≤◌, Option, Some, ap, subst, ◌∙◌, arith}
use Rattle.std.specs.Slots.{slots_items}
use Rattle.ltm_turn.specs.Boxes.{boxed}
use Rattle.ltm_turn.specs.declared.view.View.{View}
use Rattle.ltm_turn.proofs.Ends.{closes, same_value}
use Rattle.ltm_turn.proofs.passes.Turn.close.Goals as goal
use Rattle.ltm_turn.proofs.passes.Turn.close.Goals.{After-free}

-- what the slot had when the turn ended, for what the editor's pass had seen
abbrev Slot : (g : _) → After-free g → View g.row.T-Entry.Denot → Type 0
Slot g c v = (x : _) × (c.take-value.result ≡ Some x) × (boxed g.T.Told.entries x ≡ v.entries) × (v.number ≤ boxed g.T.Told.number x)

found : (g : _) (c : After-free g) → Slot g c c.args.editor.seat.me.0
found g c = let seat = c.open-seat.result.0 in
    let slots = slots_items c.close_with-closed.result.slots in
    let k = closes (boxed g.T.Told.entries) (boxed g.T.Told.number) _ seat.me.0 _ slots (search rules) (search rules) (search rules) c.close_with-closed.ensures.values.2 in
    subst (λ s. Slot g c s.me.0) c.open-seat.ensures.0 (same_value (boxed g.T.Told.entries) (boxed g.T.Told.number) seat.me.0 slots c.take-value.result k c.take-value.ensures.value)

pub unreachable-requires : goal.unreachable-requires
unreachable-requires g c = let k = found g (goal.at.unreachable-requires g c).After-free in c.in_default.not-Some k.0 k.1

same : {A : Type 0} (o : Option A) (x y : A) → o ≡ Some x → o ≡ Some y → x ≡ y
same o x y p q = cc

pub returns-clause-list : goal.returns-clause-list
returns-clause-list g c = let k = found g (goal.at.returns-clause-list g c).After-free in ap g.T.Told.entries c.into_inner.ensures ∙ ap (boxed g.T.Told.entries) (same c.take-value.result c.in-Some.boxed k.0 c.in-Some.is k.1) ∙ k.2

pub returns-clause-number : goal.returns-clause-number
returns-clause-number g c = let k = found g (goal.at.returns-clause-number g c).After-free in let e = ap (boxed g.T.Told.number) (same c.take-value.result c.in-Some.boxed k.0 c.in-Some.is k.1) in let m = k.3 in let i = ap g.T.Told.number c.into_inner.ensures in omega arith
