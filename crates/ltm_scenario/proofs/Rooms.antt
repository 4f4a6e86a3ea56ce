-- Room that does not fall.
use Rattle.std.proofs.Common.{◌≡◌, ℕ, ◌≤◌, ◌==◌, ◌||◌, ◌&&◌, nat_lt, nat_le, not, Bool, true, false, length, refl, sym, ap, subst, ◌∙◌, arith, List}
use Rattle.std.proofs.lemmas.Bool.Decides.{nat_tests}
use Rattle.ltm_demand.specs.declared.row.DemandRow.{DemandRow}
use Rattle.ltm_demand.specs.Rows.{DemandData, OriginRoom, IsNoLess, CanRestore, room_at, own_rows, amount_at, table_destination}
use Rattle.ltm_scenario.specs.declared.parts.undo.Undo.{Undo}
use Rattle.ltm_scenario.specs.declared.parts.undo.Undo.TheVariants.{Demand, Limit, NewSplit, OldSplit, Pair, Diagram, Horizon}
use Rattle.ltm_scenario.specs.declared.side.Side.TheVariants.{Entry, Exit}
use Rattle.ltm_scenario.specs.Data.{ScenarioData, demand_of}
use Rattle.ltm_scenario.specs.State.{ScenarioState, KeepsRoom}
use Rattle.ltm_scenario.specs.Undo.{undone, Fits, CanUndo, Undoes}

no_less : (r : OriginRoom) → IsNoLess r r
no_less r = record { rows = omega arith; destinations = omega arith; slots = omega arith }

no_less_through : (a b c : OriginRoom) → IsNoLess a b → IsNoLess b c → IsNoLess a c
no_less_through a b c p q = record { rows = omega (arith, p.rows, q.rows); destinations = omega (arith, p.destinations, q.destinations); slots = omega (arith, p.slots, q.slots) }

pub room_stays : (s : ScenarioState) → KeepsRoom s s
room_stays s = record { demand = λ o. no_less (room_at s.demand_room o); entry = omega arith; exit = omega arith }

pub room_through : (a b c : ScenarioState) → KeepsRoom a b → KeepsRoom b c → KeepsRoom a c
room_through a b c p q = record {
  demand = λ o. no_less_through (room_at a.demand_room o) (room_at b.demand_room o) (room_at c.demand_room o) (p.demand o) (q.demand o);
  entry = omega (arith, p.entry, q.entry);
  exit = omega (arith, p.exit, q.exit);
}

or_later : (a b c d : Bool) → (c ≡ true → d ≡ true) → (a || (b || c)) ≡ true → (a || (b || d)) ≡ true
or_later true b c d h e = refl
or_later false true c d h e = refl
or_later false false c d h e = h e

still_fits : (rows destination end : ℕ) (old new : OriginRoom) → IsNoLess old new → (nat_lt rows old.rows && (nat_lt destination old.destinations && nat_le end old.slots)) ≡ true → (nat_lt rows new.rows && (nat_lt destination new.destinations && nat_le end new.slots)) ≡ true
still_fits rows destination end old new is h = let a = is.rows in let b = is.destinations in let c = is.slots in grind (arith, nat_tests)

-- what could be restored still can where the data are the same and the room is no less
pub still_restores : (d : DemandData) (tabled : Bool) (room more : List OriginRoom) (row : DemandRow) → ((o : ℕ) → IsNoLess (room_at room o) (room_at more o)) → CanRestore (record { demand = d; tabled = tabled; room = room }) row → CanRestore (record { demand = d; tabled = tabled; room = more }) row
still_restores d tabled room more row h can = record {
  small = can.small;
  accepted = can.accepted;
  free = or_later (row.amount.0 == 0) (not (amount_at d.rows row == 0)) _ _ (still_fits (length (own_rows d.rows row.origin.0)) (table_destination tabled row) row.to (room_at room row.origin.0) (room_at more row.origin.0) (h row.origin.0)) can.free;
}

fits_in_room : (s : ScenarioData) (a1 : List OriginRoom) (a2 a3 : ℕ) (b1 : List OriginRoom) (b2 b3 : ℕ) (undo : Undo) → ((o : ℕ) → IsNoLess (room_at a1 o) (room_at b1 o)) → a2 ≤ b2 → a3 ≤ b3 →
    Fits (record { scenario = s; demand_room = a1; entry_places = a2; exit_places = a3 }) undo → Fits (record { scenario = s; demand_room = b1; entry_places = b2; exit_places = b3 }) undo
fits_in_room s a1 a2 a3 b1 b2 b3 (Demand row) h1 h2 h3 fits = still_restores (demand_of s) s.setup.history a1 b1 row h1 fits
fits_in_room s a1 a2 a3 b1 b2 b3 (Limit Entry link from was) h1 h2 h3 fits = (fits.0, fits.1, omega (arith, fits.2))
fits_in_room s a1 a2 a3 b1 b2 b3 (Limit Exit link from was) h1 h2 h3 fits = (fits.0, fits.1, omega (arith, fits.2))
fits_in_room s a1 a2 a3 b1 b2 b3 (NewSplit key) h1 h2 h3 fits = tt
fits_in_room s a1 a2 a3 b1 b2 b3 (OldSplit key was) h1 h2 h3 fits = fits
fits_in_room s a1 a2 a3 b1 b2 b3 (Pair node destination was) h1 h2 h3 fits = fits
fits_in_room s a1 a2 a3 b1 b2 b3 (Diagram link diagram limits) h1 h2 h3 fits = fits
fits_in_room s a1 a2 a3 b1 b2 b3 (Horizon slots) h1 h2 h3 fits = fits

same_scenario : (old : ScenarioState) (s : ScenarioData) (b1 : List OriginRoom) (b2 b3 : ℕ) (undo : Undo) → s ≡ old.scenario → KeepsRoom old (record { scenario = s; demand_room = b1; entry_places = b2; exit_places = b3 }) → CanUndo old undo → CanUndo (record { scenario = s; demand_room = b1; entry_places = b2; exit_places = b3 }) undo
same_scenario old s b1 b2 b3 undo same room can =
    subst (λ (v : ScenarioData). CanUndo (record { scenario = v; demand_room = b1; entry_places = b2; exit_places = b3 }) undo) (sym same)
    (record {
      scenario = can.scenario;
      fits = fits_in_room old.scenario old.demand_room old.entry_places old.exit_places b1 b2 b3 undo room.demand room.entry room.exit can.fits;
    })

-- what can be undone still can once later edits are undone
pub still_undoes : (old new : ScenarioState) (undo : Undo) → new.scenario ≡ old.scenario → KeepsRoom old new → CanUndo old undo → CanUndo new undo
still_undoes old new undo same room can = same_scenario old new.scenario new.demand_room new.entry_places new.exit_places undo same room can

-- undoing gives back what was before
pub undone_back : (first second third : ScenarioState) (undo : Undo) (last : ScenarioData) → Undoes first second undo → third.scenario ≡ second.scenario → last ≡ undone third.scenario undo → last ≡ first.scenario
undone_back first second third undo last undoes same is = is ∙ ap (λ v. undone v undo) same ∙ undoes.back
