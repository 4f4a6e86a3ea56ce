-- A claimed pair is given back.
use Rattle.std.proofs.Common.{◌≡◌, ◌≢◌, ℕ, ◌<◌, ◌&&◌, ◌||◌, not, List, Bool, true, false, IsTrue, ◌↔◌, refl, ap, sym, ◌∙◌, subst, arith, inl, inr}
use Rattle.std.specs.Prelude.{Some, None}
use Rattle.std.proofs.lemmas.Bool.{false≢true}
use Rattle.ltm_loading.specs.Setting.{Setting}
use Rattle.ltm_frontier.specs.declared.frontier.Frontier.{Frontier}
use Rattle.ltm_frontier.specs.Frontier.{nodes_in, slots_in, is_active, is_claimed, is_pair, Releases, Activates}
use Rattle.ltm_repair.specs.Desk.{IsOther}
use Rattle.ltm_repair.specs.Moves.{GivesBack}
use Rattle.ltm_repair.proofs.Cases.{cases_pair}
use Rattle.ltm_repair.proofs.Keeps.{give_back_keeps}
use Rattle.ltm_repair.proofs.Index.{index_stays_current}
use Rattle.ltm_working.specs.declared.table.Table.{Table}
use Rattle.ltm_rows.specs.Claims.{claim_row}
use Rattle.ltm_working.specs.Desks.{desk_at, place_of}
use Rattle.ltm_working.specs.Ready.{IsReady}
use Rattle.ltm_working.proofs.Bools.{or_false, or_right, and_false}
use Rattle.ltm_rows.proofs.KeptPlaces.{same_some}
use Rattle.ltm_working.proofs.Desks.{cases_pairs, active_is, claimed_is, claimed_past, claim_same, claim_on, claim_off, claimed_pair, same_active, same_claim}
use Rattle.ltm_working.proofs.Dropping.{pair_test, other_test, and_not}

pub gives_desk : (s : Setting) (t : Table) (u v : ℕ) (m f : Frontier) → IsReady s t → (desk_at s t).claimed u v ≢ None → Releases t.frontier m u v → Activates m f (is_pair u v) →
    GivesBack (desk_at s t) u v (desk_at s (record t { frontier = f }))
unfolding desk_at
gives_desk s t u v m f ready some frees marks =
    let new : Table = record t { frontier = f } in
    let at = claimed_pair s t u v some in
    let in_nodes : (w : ℕ) → w < s.nodes → w < nodes_in t.frontier = λ w x. omega (arith, x, ready.fits.frontier.nodes) in
    let in_slots : (y : ℕ) → y < s.slots → y < slots_in t.frontier = λ y l. omega (arith, l, ready.fits.frontier.slots) in
    let free : is_claimed m u v ≡ false = frees.claimed u v (in_nodes u at.0) ∙ (ap (λ z. is_claimed t.frontier u v && not z) (pair_test u v) ∙ and_false (is_claimed t.frontier u v)) in
    let claims : (w y : ℕ) → IsOther u v w y → w < s.nodes → is_claimed f w y ≡ is_claimed t.frontier w y = λ w y other x.
    marks.claims.pairs w y ∙ (frees.claimed w y (in_nodes w x) ∙ (ap (λ z. is_claimed t.frontier w y && not z) (other_test u v w y other) ∙ and_not (is_claimed t.frontier w y))) in
    let marked : (w y : ℕ) → w < s.nodes → y < s.slots → is_active f w y ≡ (is_active t.frontier w y || (is_pair u v w y && not (is_claimed m w y))) = λ w y x l.
    marks.active w y (omega (arith, in_nodes w x, frees.size.nodes)) (omega (arith, in_slots y l, frees.size.slots)) ∙ ap (λ z. z || (is_pair u v w y && not (is_claimed m w y))) (frees.active w y (in_nodes w x) (in_slots y l)) in
    record {
      was_claimed = some;
      again = active_is s new u v at.0 at.1 ∙ (marked u v at.0 at.1 ∙ or_right (is_active t.frontier u v) (is_pair u v u v && not (is_claimed m u v)) (rw (pair_test u v, free) refl));
      free = claimed_is s new u v at.0 at.1 ∙ claim_off new u v (marks.claims.pairs u v ∙ free);
      others = record {
        active = λ w y other. same_active s t new w y (λ x l. marked w y x l ∙ (ap (λ z. is_active t.frontier w y || (z && not (is_claimed m w y))) (other_test u v w y other) ∙ or_false (is_active t.frontier w y)));
        claimed = λ w y other. same_claim s t new w y (λ x l. claim_same t new w y (claims w y other x) refl);
      };
      work = record { counts = refl; kept = refl };
    }

pub gives_ready : (s : Setting) (t : Table) (u v : ℕ) (m f : Frontier) → IsReady s t → Releases t.frontier m u v → Activates m f (is_pair u v) →
    GivesBack (desk_at s t) u v (desk_at s (record t { frontier = f })) → IsReady s (record t { frontier = f })
unfolding desk_at
gives_ready s t u v m f ready frees marks gives = record {
  fits = record {
    curves = ready.fits.curves;
    kept = ready.fits.kept;
    claims = ready.fits.claims;
    frontier = record { nodes = marks.size.nodes ∙ (frees.size.nodes ∙ ready.fits.frontier.nodes); slots = marks.size.slots ∙ (frees.size.slots ∙ ready.fits.frontier.slots) };
    index = ready.fits.index;
    changed = ready.fits.changed;
  };
  sound = give_back_keeps s (desk_at s t) u v (desk_at s (record t { frontier = f })) ready.sound gives;
  index = index_stays_current.give_back s (desk_at s t) (desk_at s (record t { frontier = f })) u v (place_of t.index) gives ready.index;
  claims = λ w y p q some. elim (cases_pair u v w y) [
    | inl at ↦ absurd (some (subst (λ (z : ℕ). (desk_at s (record t { frontier = f })).claimed z y ≡ None) at.0 (subst (λ (z : ℕ). (desk_at s (record t { frontier = f })).claimed u z ≡ None) at.1 gives.free)))
    | inr other ↦ ready.claims w y p q (λ none. some (gives.others.claimed w y other ∙ none))
  ];
  weights = ready.weights;
}

-- ---- whether a pair is held
pub held : (s : Setting) (t : Table) (u v : ℕ) (row mine : List ℕ) (r : Bool) → u < s.nodes → v < s.slots → is_claimed t.frontier u v ≡ true → mine ≡ claim_row t.claims u → (IsTrue r ↔ (mine ≡ row)) →
    IsTrue r ↔ ((desk_at s t).claimed u v ≡ Some row)
held s t u v row mine r x l on same told =
    let is : (desk_at s t).claimed u v ≡ Some (claim_row t.claims u) = claimed_is s t u v x l ∙ claim_on t u v on in
    (λ yes. is ∙ ap (λ (z : List ℕ). Some z) (sym same ∙ told.0 yes), λ e. told.1 (same ∙ same_some (claim_row t.claims u) row (sym is ∙ e)))

pub not_held : (s : Setting) (t : Table) (u v : ℕ) (row : List ℕ) → ((u < s.nodes → v < s.slots → is_claimed t.frontier u v ≡ false)) → IsTrue false ↔ ((desk_at s t).claimed u v ≡ Some row)
not_held s t u v row off =
    let none : (desk_at s t).claimed u v ≡ None = elim (cases_pairs s u v) [
      | inl in_range ↦ claimed_is s t u v in_range.0 in_range.1 ∙ claim_off t u v (off in_range.0 in_range.1)
      | inr past ↦ claimed_past s t u v past
    ] in
    (λ yes. absurd (false≢true yes), λ e. absurd (cc))
