-- Edits, one by one and in batches, keep a scenario valid and its shape.
use Rattle.std.proofs.Common.{◌≡◌, ℕ, ◌+◌, List, [], ◌∷◌, Ok, Err, Result, arith, refl, sym, ap, subst, ◌∙◌}
use Rattle.ltm_scenario.specs.declared.edit.Edit.{Edit}
use Rattle.ltm_scenario.specs.declared.edit.EditCause.{EditCause}
use Rattle.ltm_scenario.specs.declared.setup.Setup.{Setup}
use Rattle.ltm_scenario.specs.declared.side.Side.TheVariants.{Entry, Exit}
use Rattle.ltm_scenario.specs.Data.{ScenarioData}
use Rattle.ltm_scenario.specs.Horizon.{setup_over}
use Rattle.ltm_scenario.specs.Shape.{SameShape}
use Rattle.ltm_scenario.specs.Valid.{IsValid}
use Rattle.ltm_scenario.specs.Build.{with_limit_at}
use Rattle.ltm_scenario.specs.Edits.{weights_at, entries_said, with_diagram, edited, edited_from, at_place, slots_after, horizon_after}
use Rattle.ltm_scenario.specs.Makes.{Makes, demand, entry, split, splits, diagram, exit, horizon}
use Rattle.ltm_scenario.proofs.Keeps.{split_kept, demand_kept, entry_kept, exit_kept, diagrams_kept, horizon_kept}
use Rattle.ltm_scenario.proofs.Pairs.{pair_kept}
use Rattle.ltm_scenario.proofs.RowsSaid.{said_first, said_closed}
use Rattle.ltm_scenario.proofs.Making.{bound, makes}

Keeps : ScenarioData → ScenarioData → Type 0
Keeps old new = SameShape old new × (IsValid old → IsValid new)

-- the same setup, network and destinations
alike : (s next : ScenarioData) → next.setup ≡ s.setup → next.network ≡ s.network → next.destinations ≡ s.destinations → SameShape s next
alike s next setup network destinations =
    let slots : next.setup.slots ≡ s.setup.slots = ap (λ (z : Setup). z.slots) setup in
    record { setup = setup ∙ ap (setup_over s.setup) (sym slots); slots = omega (arith, slots); network = network; destinations = destinations }

pub shape_stays : (s : ScenarioData) → SameShape s s
shape_stays s = alike s s refl refl refl

shape_through : (a b c : ScenarioData) → SameShape a b → SameShape b c → SameShape a c
shape_through a b c p q = record {
  setup = q.setup ∙ ap (λ (z : Setup). setup_over z c.setup.slots) p.setup;
  slots = omega (arith, p.slots, q.slots);
  network = q.network ∙ p.network;
  destinations = q.destinations ∙ p.destinations;
}

-- ---- one edit
kept_by_edit : (s next : ScenarioData) (edit : Edit) → Makes s next edit → Keeps s next
unfolding Keeps
kept_by_edit s next edit (demand origin destination from to amount row said) =
    (alike s next refl refl refl, λ valid. demand_kept s row valid said.is_split)
kept_by_edit s next edit (entry name from to amount link said) =
    (alike s next refl refl refl, λ valid. entry_kept s (with_limit_at s Entry link from to amount.0).entry valid)
kept_by_edit s next edit (split node destination from weights key said) =
    (alike s next refl refl refl, λ valid. split_kept s key (weights_at s key.node.0 weights) valid said.closed)
kept_by_edit s next edit (splits node destination rows n d said) =
    (alike s next refl refl refl, λ valid. pair_kept n d (entries_said s n rows) s valid (said_first s n rows said.first) (said_closed s n d rows said.closed))
kept_by_edit s next edit (diagram name new link named sets) =
    (alike s next refl refl refl, λ valid. diagrams_kept s (with_diagram s link new).diagrams valid)
kept_by_edit s next edit (exit name from to amount link said) =
    (alike s next refl refl refl, λ valid. exit_kept s (with_limit_at s Exit link from to amount.0).exit valid)
kept_by_edit s next edit (horizon slots said) =
    (record { setup = refl; slots = omega (arith, said.longer); network = refl; destinations = refl }, λ valid. horizon_kept s slots valid said.small)

-- ---- a batch
pub placed : {A : Type 0} (place : ℕ) (r : Result A EditCause) (x : A) → at_place place r ≡ Ok x → r ≡ Ok x
placed place (Ok y) x is = cc
placed place (Err cause) x is = cc

batch_keeps : (place : ℕ) (s next : ScenarioData) (edits : List Edit) → edited_from place s edits ≡ Ok next → Keeps s next
unfolding Keeps
batch_keeps place s next [] is =
    let same : s ≡ next = cc in
    (subst (SameShape s) same (shape_stays s), λ valid. subst IsValid same valid)
batch_keeps place s next (edit ∷ edits) is =
    let one = bound (at_place place (edited s edit)) (λ (mid : ScenarioData). edited_from (place + 1) mid edits) next is in
    let first = kept_by_edit s one.0 edit (makes s one.0 edit (placed place (edited s edit) one.0 one.1)) in
    let rest = batch_keeps (place + 1) one.0 next edits one.2 in
    (shape_through s one.0 next first.0 rest.0, λ valid. rest.1 (first.1 valid))

pub batch_keeps_shape : (place : ℕ) (s next : ScenarioData) (edits : List Edit) → edited_from place s edits ≡ Ok next → SameShape s next
unfolding Keeps
batch_keeps_shape place s next edits is = (batch_keeps place s next edits is).0

pub batch_keeps_valid : (place : ℕ) (s next : ScenarioData) (edits : List Edit) → edited_from place s edits ≡ Ok next → IsValid s → IsValid next
unfolding Keeps
batch_keeps_valid place s next edits is valid = (batch_keeps place s next edits is).1 valid

-- ---- the horizon
edit_sets_horizon : (s next : ScenarioData) (edit : Edit) → Makes s next edit → next.setup.slots ≡ slots_after s.setup.slots edit
edit_sets_horizon s next edit (demand origin destination from to amount row said) = refl
edit_sets_horizon s next edit (entry name from to amount link said) = refl
edit_sets_horizon s next edit (split node destination from weights key said) = refl
edit_sets_horizon s next edit (splits node destination rows n d said) = refl
edit_sets_horizon s next edit (diagram name new link named sets) = refl
edit_sets_horizon s next edit (exit name from to amount link said) = refl
edit_sets_horizon s next edit (horizon slots said) = refl

pub batch_sets_horizon : (place : ℕ) (s next : ScenarioData) (edits : List Edit) → edited_from place s edits ≡ Ok next → next.setup.slots ≡ horizon_after s.setup.slots edits
batch_sets_horizon place s next [] is =
    let same : s ≡ next = cc in
    ap (λ (z : ScenarioData). z.setup.slots) (sym same)
batch_sets_horizon place s next (edit ∷ edits) is =
    let one = bound (at_place place (edited s edit)) (λ (mid : ScenarioData). edited_from (place + 1) mid edits) next is in
    batch_sets_horizon (place + 1) one.0 next edits one.2
    ∙ ap (λ n. horizon_after n edits) (edit_sets_horizon s one.0 edit (makes s one.0 edit (placed place (edited s edit) one.0 one.1)))
