-- A table with more room, and otherwise as before.
use Rattle.std.proofs.Common.{◌≡◌, ℕ, Bool, false, refl, ap, sym, ◌∙◌, subst, arith}
use Rattle.std.specs.Prelude.{None}
use Rattle.std.proofs.Math.Path.{fun_ext}
use Rattle.ltm_curve.specs.Counts.{Counts}
use Rattle.ltm_curve.specs.Table.{counts_of, SameShape}
use Rattle.ltm_curve.specs.Cells.{SameCells}
use Rattle.ltm_loading.specs.Setting.{Setting, IsSetting}
use Rattle.ltm_loading.specs.Pairs.{count_row}
use Rattle.ltm_frontier.specs.Frontier.{slots_in, is_active, SamePairs}
use Rattle.ltm_index.specs.Lists.{slots_listed, SameLists}
use Rattle.ltm_repair.specs.Desk.{Desk}
use Rattle.ltm_repair.specs.Facts.{IsSound}
use Rattle.ltm_repair.specs.Index.{IndexIsCurrent}
use Rattle.ltm_rows.specs.declared.claim_rows.ClaimRows.{ClaimRows}
use Rattle.ltm_working.specs.declared.table.Table.{Table}
use Rattle.ltm_rows.specs.Claims.{claim_row, HasClaims}
use Rattle.ltm_rows.specs.Rows.{slots_kept, SameRows}
use Rattle.ltm_working.specs.Pairs.{of_pairs, of_cells}
use Rattle.ltm_working.specs.Desks.{kept_of, desk_at, place_of, changed_at, claim_of}
use Rattle.ltm_working.specs.Ready.{FitsTable, ClaimsArePlaced, IsReady}
use Rattle.ltm_working.specs.Growing.{TableSeenAs}
use Rattle.ltm_rows.proofs.KeptPlaces.{rows_lie, stays_kept}
use Rattle.ltm_working.proofs.Desks.{same_pairs, claim_same}
use Rattle.ltm_working.proofs.Keeping.{same_kept_of}
use Rattle.ltm_working.proofs.Weighing.{weighed_same}
use Rattle.ltm_working.proofs.Standing.{same_place}

-- each part is as before
pub record SameParts (old new : Table) : Type 0 where
  pub shape : SameShape new.curves old.curves
  pub counts : counts_of new.curves ≡ counts_of old.curves
  pub kept : SameRows old.kept new.kept
  pub kept_slots : slots_kept new.kept ≡ slots_kept old.kept
  pub claims : new.claims ≡ old.claims
  pub pairs : SamePairs old.frontier new.frontier
  pub pair_slots : slots_in new.frontier ≡ slots_in old.frontier
  pub lists : SameLists old.index new.index
  pub list_slots : slots_listed new.index ≡ slots_listed old.index
  pub cells : SameCells old.changed new.changed

parts_fit : (s : Setting) (a b : Table) → SameParts a b → FitsTable s a → FitsTable s b
parts_fit s a b same fits = record {
  curves = record {
    same_groups = same.shape.groups ∙ fits.curves.same_groups;
    same_destinations = same.shape.destinations ∙ fits.curves.same_destinations;
    same_slots = same.shape.slots ∙ fits.curves.same_slots;
  };
  kept = rows_lie s s.slots a.kept b.kept fits.kept same.kept.places same.kept_slots;
  claims = subst (λ (z : ClaimRows). HasClaims s z) (sym same.claims) fits.claims;
  frontier = record { nodes = same.pairs.nodes ∙ fits.frontier.nodes; slots = same.pair_slots ∙ fits.frontier.slots };
  index = record { links = same.lists.links ∙ fits.index.links; slots = same.list_slots ∙ fits.index.slots };
  changed = record { same_groups = same.cells.shape.same_groups ∙ fits.changed.same_groups; same_slots = same.cells.shape.same_slots ∙ fits.changed.same_slots };
}

parts_desk : (s : Setting) (a b : Table) → SameParts a b → FitsTable s a → desk_at s b ≡ desk_at s a
unfolding desk_at
parts_desk s a b same fits =
    let K : of_pairs s None (kept_of s b) ≡ of_pairs s None (kept_of s a) =
    same_pairs s None (kept_of s b) (kept_of s a)
    (λ u v x l. same_kept_of s a b u v (stays_kept a.kept b.kept u v same.kept (omega (arith, x, fits.kept.amounts.nodes)) (omega (arith, l, fits.kept.same_slots))) (ap (λ (c : Counts). count_row s c u v) same.counts)) in
    let A : of_pairs s false (is_active b.frontier) ≡ of_pairs s false (is_active a.frontier) = same_pairs s false (is_active b.frontier) (is_active a.frontier) (λ u v x l. same.pairs.active u v) in
    let C : of_pairs s None (claim_of b) ≡ of_pairs s None (claim_of a) =
    same_pairs s None (claim_of b) (claim_of a) (λ u v x l. claim_same a b u v (same.pairs.claims.pairs u v) (ap (λ (z : ClaimRows). claim_row z u) same.claims)) in
    rw (K, A, C, same.counts) refl

parts_changed : (s : Setting) (a b : Table) → SameParts a b → changed_at s b ≡ changed_at s a
unfolding changed_at
parts_changed s a b same = ap (λ (f : ℕ → ℕ → Bool). of_cells s f) (fun_ext (λ g. fun_ext (λ k. same.cells.cells g k)))

parts_ready : (s : Setting) (a b : Table) → SameParts a b → IsSetting s → IsReady s a → IsReady s b
parts_ready s a b same is ready =
    let desk : desk_at s b ≡ desk_at s a = parts_desk s a b same ready.fits in
    record {
      fits = parts_fit s a b same ready.fits;
      sound = subst (λ (d : Desk). IsSound s d) (sym desk) ready.sound;
      index = subst (λ (d : Desk). IndexIsCurrent s d (place_of b.index)) (sym desk)
          (λ u v x l idle i m. same_place a.index b.index (s.in_link u i) v
          (same.lists.entries (s.in_link u i) v (omega (arith, is.network.in_link_is_link u i x m, ready.fits.index.links)))
          ∙ ready.index u v x l idle i m);
      claims = subst (λ (d : Desk). ClaimsArePlaced s d (place_of b.index)) (sym desk)
          (λ u v x l some i m. same_place a.index b.index (s.in_link u i) v
          (same.lists.entries (s.in_link u i) v (omega (arith, is.network.in_link_is_link u i x m, ready.fits.index.links)))
          ∙ ready.claims u v x l some i m);
      weights = weighed_same s s.slots a.kept b.kept ready.fits.kept refl ready.weights same.kept;
    }

pub parts_seen : (a b : Table) → SameParts a b → TableSeenAs a b
parts_seen a b same = record {
  horizon = same.shape.slots;
  fits = λ s fits. parts_fit s a b same fits;
  ready = λ s is ready. parts_ready s a b same is ready;
  desk = λ s fits. parts_desk s a b same fits;
  changed = λ s. parts_changed s a b same;
}
