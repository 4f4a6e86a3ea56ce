-- The table after a commit, and what is kept of its pairs.
use Rattle.std.proofs.Common.{◌≡◌, ℕ, ◌+◌, ◌<◌, List, Bool, true, false, ap, sym, ◌∙◌, subst, arith, inl, inr, ◌⊎◌}
use Rattle.std.specs.Prelude.{Some, None, option_map, take, drop}
use Rattle.std.proofs.lemmas.Bool.{cases_lt, cases_Bool}
use Rattle.ltm_curve.specs.Counts.{Counts}
use Rattle.ltm_curve.specs.Table.{counts_of}
use Rattle.ltm_node.specs.declared.shape.NodeShape.{NodeShape}
use Rattle.ltm_node.specs.Inputs.{Inputs}
use Rattle.ltm_node.specs.Shape.{counts_begin}
use Rattle.ltm_node.specs.Outputs.{Outputs}
use Rattle.ltm_node.specs.Step.{IsNodeStep}
use Rattle.ltm_loading.specs.Setting.{Setting, IsSetting}
use Rattle.std.proofs.lemmas.List.{length-take-le}
use Rattle.ltm_loading.specs.Pairs.{shape_at, pair_row, count_row}
use Rattle.ltm_loading.specs.NextPair.{Applies}
use Rattle.ltm_loading.specs.ByPlace.{HoldsCounts, CountsByPlace}
use Rattle.ltm_frontier.specs.Frontier.{Releases}
use Rattle.ltm_repair.specs.Desk.{IsOther}
use Rattle.ltm_repair.specs.Facts.{IsClaim}
use Rattle.ltm_repair.specs.Moves.{Forgets}
use Rattle.ltm_repair.proofs.Making.{changed_are_forgotten}
use Rattle.ltm_pairs.specs.Waking.{ReadersWake, ReadersKeepPositions}
use Rattle.ltm_working.specs.declared.table.Table.{Table}
use Rattle.ltm_rows.specs.Rows.{nodes_kept, slots_kept, row_of, has_row, kept_row, PutsRow}
use Rattle.ltm_working.specs.Desks.{row_without_counts, with_node_counts, kept_of, desk_at}
use Rattle.ltm_working.specs.Ready.{IsReady}
use Rattle.ltm_working.specs.Waking.{any_differs}
use Rattle.ltm_working.specs.Renewed.{RenewsPair}
use Rattle.ltm_rows.proofs.KeptPlaces.{put_kept, put_other, none_kept, some_kept}
use Rattle.ltm_working.proofs.Keeping.{kept_whole, same_kept_of, long_row, counts_stay, counts_same, counts_differ, slot_same, forgets_rows, forgets_others, forgets_none, forgets_one}
use Rattle.ltm_working.proofs.Reading.{SetsOutputs}
use Rattle.ltm_working.proofs.Desks.{of_pair, past_pair, same_of_pairs}

-- ---- the outputs stand in the counts
holds_row : (s : Setting) (c : Counts) (u k : ℕ) (shape : NodeShape) (row : List ℕ) → CountsByPlace → shape_at s u ≡ shape → count_row s c u k ≡ row → HoldsCounts s c u k (record { shape = shape; row = row; room = 0 })
holds_row s c u k shape row by_place is_shape is_row =
    subst (λ (x : NodeShape). HoldsCounts s c u k (record { shape = x; row = row; room = 0 })) is_shape
    (subst (λ (x : List ℕ). HoldsCounts s c u k (record { shape = shape_at s u; row = x; room = 0 })) is_row (by_place s c u k).0)

holds_outputs : (s : Setting) (c : Counts) (u k : ℕ) (o : Outputs) → CountsByPlace → o.shape ≡ shape_at s u → count_row s c u k ≡ o.row → HoldsCounts s c u k o
holds_outputs s c u k o by_place is_shape is_row =
    let h : HoldsCounts s c u k (record { shape = o.shape; row = o.row; room = 0 }) = holds_row s c u k o.shape o.row by_place (sym is_shape) is_row in
    record { left = h.left; entered = h.entered; arrived = h.arrived }

pub sets_outputs : (s : Setting) (old new : Counts) (u v : ℕ) (o : Outputs) → CountsByPlace → IsSetting s → u < s.nodes → v < s.slots → o.shape ≡ shape_at s u → Applies s u (v + 1) o.row old new →
    SetsOutputs s old new u (v + 1) o
sets_outputs s old new u v o by_place is x l shape applies = record {
  setting = is;
  is_node = x;
  some = omega arith;
  within = omega arith;
  holds = holds_outputs s new u (v + 1) o by_place shape applies.given;
  later = applies.later;
  others = applies.others;
}

-- ---- the table after a commit
pub record CommitsTable (s : Setting) (t : Table) (u v : ℕ) (n : Inputs) (o : Outputs) (mid end : Table) : Type 0 where
  pub setting : IsSetting s
  pub ready : IsReady s t
  pub claimed : (desk_at s t).claimed u v ≡ Some n.row
  pub shape : n.shape ≡ shape_at s u
  pub step : IsNodeStep n o
  pub same_shape : o.shape ≡ shape_at s u
  pub renews : RenewsPair s u (v + 1) o t mid
  pub puts : PutsRow mid.kept end.kept u v (row_without_counts s u n.row)
  pub frees : Releases mid.frontier end.frontier u v
  pub by_place : CountsByPlace
  pub wake : ReadersWake
  pub positions : ReadersKeepPositions

abbrev pub committed : Table → Table → Table → Table
committed t mid end = record t { curves = mid.curves; changed = mid.changed; kept = end.kept; frontier = end.frontier }

pub is_committed : (t mid end : Table) → end ≡ record mid { kept = end.kept; frontier = end.frontier } →
    mid ≡ record t { curves = mid.curves; changed = mid.changed; frontier = mid.frontier; kept = mid.kept } → end ≡ committed t mid end
is_committed t mid end last first = last ∙ ap (λ (z : Table). record z { kept = end.kept; frontier = end.frontier }) first

pub claim_is : (s : Setting) (t : Table) (u v : ℕ) (row : List ℕ) → IsReady s t → (desk_at s t).claimed u v ≡ Some row → IsClaim s (desk_at s t) u v row
claim_is s t u v row ready some = ready.sound.claims u v row some

pub counts_set : (s : Setting) (t : Table) (u v : ℕ) (n : Inputs) (o : Outputs) (mid end : Table) → CommitsTable s t u v n o mid end →
    SetsOutputs s (counts_of t.curves) (counts_of mid.curves) u (v + 1) o
counts_set s t u v n o mid end is =
    let claim : IsClaim s (desk_at s t) u v n.row = claim_is s t u v n.row is.ready is.claimed in
    sets_outputs s (counts_of t.curves) (counts_of mid.curves) u v o is.by_place is.setting claim.is_node claim.is_slot is.same_shape is.renews.applies

-- ---- what is kept
-- the rows of other pairs stay
rows_same : (s : Setting) (t : Table) (u v : ℕ) (n : Inputs) (o : Outputs) (mid end : Table) (w y : ℕ) → CommitsTable s t u v n o mid end →
    w < s.nodes → y < s.slots → IsOther u v w y → IsOther u (v + 1) w y → kept_row end.kept w y ≡ kept_row t.kept w y
rows_same s t u v n o mid end w y is p q other apart =
    let in_nodes : w < nodes_kept t.kept = omega (arith, p, is.ready.fits.kept.amounts.nodes) in
    let in_slots : y < slots_kept t.kept = omega (arith, q, is.ready.fits.kept.same_slots) in
    let size = forgets_rows (any_differs s (counts_of t.curves) u (v + 1) o) t.kept mid.kept u (v + 1) is.renews.kept in
    put_other mid.kept end.kept u v (row_without_counts s u n.row) w y is.puts (rw size.0.narrow in_nodes) (rw size.1 in_slots) other
    ∙ forgets_others (any_differs s (counts_of t.curves) u (v + 1) o) t.kept mid.kept u (v + 1) w y is.renews.kept in_nodes in_slots apart

-- and so do the counts of their nodes
pub kept_same : (s : Setting) (t : Table) (u v : ℕ) (n : Inputs) (o : Outputs) (mid end : Table) (w y : ℕ) → CommitsTable s t u v n o mid end →
    IsOther u v w y → IsOther u (v + 1) w y → (desk_at s (committed t mid end)).kept w y ≡ (desk_at s t).kept w y
unfolding desk_at
kept_same s t u v n o mid end w y is other apart =
    let e : Table = committed t mid end in
    same_of_pairs s None (kept_of s e) (kept_of s t) w y
    (λ p q. same_kept_of s t e w y (rows_same s t u v n o mid end w y is p q other apart)
    (counts_stay s (counts_of t.curves) (counts_of mid.curves) u (v + 1) o w y (counts_set s t u v n o mid end is) p (omega arith) apart))

-- the row of the pair is kept
pub kept_this : (s : Setting) (t : Table) (u v : ℕ) (n : Inputs) (o : Outputs) (mid end : Table) → CommitsTable s t u v n o mid end →
    (desk_at s (committed t mid end)).kept u v ≡ Some n.row
unfolding desk_at
kept_this s t u v n o mid end is =
    let e : Table = committed t mid end in
    let claim : IsClaim s (desk_at s t) u v n.row = claim_is s t u v n.row is.ready is.claimed in
    let same : pair_row s (counts_of mid.curves) u v ≡ pair_row s (counts_of t.curves) u v =
    slot_same s (counts_of t.curves) (counts_of mid.curves) u v o u (counts_set s t u v n o mid end is) claim.is_node in
    let row : n.row ≡ pair_row s (counts_of mid.curves) u v = claim.now ∙ sym same in
    of_pair s None (kept_of s e) u v claim.is_node claim.is_slot
    ∙ (kept_whole s e u v (put_kept mid.kept end.kept u v (row_without_counts s u n.row) is.puts ∙ ap (λ (z : List ℕ). Some (row_without_counts s u z)) row) ∙ ap (λ (z : List ℕ). Some z) (sym row))

-- of the node's next slot what was kept stays where its counts do
next_same : (s : Setting) (t : Table) (u v : ℕ) (n : Inputs) (o : Outputs) (mid end : Table) → CommitsTable s t u v n o mid end →
    any_differs s (counts_of t.curves) u (v + 1) o ≡ false → (desk_at s (committed t mid end)).kept u (v + 1) ≡ (desk_at s t).kept u (v + 1)
unfolding desk_at
next_same s t u v n o mid end is off =
    let e : Table = committed t mid end in
    let any : Bool = any_differs s (counts_of t.curves) u (v + 1) o in
    let size = forgets_rows any t.kept mid.kept u (v + 1) is.renews.kept in
    same_of_pairs s None (kept_of s e) (kept_of s t) u (v + 1)
    (λ p q. same_kept_of s t e u (v + 1)
    (put_other mid.kept end.kept u v (row_without_counts s u n.row) u (v + 1) is.puts (rw size.0.narrow (omega (arith, p, is.ready.fits.kept.amounts.nodes))) (rw size.1 (omega (arith, q, is.ready.fits.kept.same_slots))) (λ a b. omega arith)
    ∙ forgets_none any t.kept mid.kept u (v + 1) off is.renews.kept)
    (counts_same s (counts_of t.curves) (counts_of mid.curves) u (v + 1) o (counts_set s t u v n o mid end is) off))

-- and is forgotten where they do not
next_gone : (s : Setting) (t : Table) (u v : ℕ) (n : Inputs) (o : Outputs) (mid end : Table) → CommitsTable s t u v n o mid end →
    any_differs s (counts_of t.curves) u (v + 1) o ≡ true → u < s.nodes → v + 1 < s.slots → (desk_at s (committed t mid end)).kept u (v + 1) ≡ None
unfolding desk_at
next_gone s t u v n o mid end is on p q =
    let e : Table = committed t mid end in
    let any : Bool = any_differs s (counts_of t.curves) u (v + 1) o in
    let size = forgets_rows any t.kept mid.kept u (v + 1) is.renews.kept in
    let in_nodes : u < nodes_kept t.kept = omega (arith, p, is.ready.fits.kept.amounts.nodes) in
    let in_slots : v + 1 < slots_kept t.kept = omega (arith, q, is.ready.fits.kept.same_slots) in
    of_pair s None (kept_of s e) u (v + 1) p q
    ∙ ap (option_map (with_node_counts s (counts_of mid.curves) u (v + 1)))
    (put_other mid.kept end.kept u v (row_without_counts s u n.row) u (v + 1) is.puts (rw size.0.narrow in_nodes) (rw size.1 in_slots) (λ a b. omega arith)
    ∙ forgets_one any t.kept mid.kept u (v + 1) on is.renews.kept in_nodes in_slots)

pub kept_next : (s : Setting) (t : Table) (u v : ℕ) (n : Inputs) (o : Outputs) (mid end : Table) → CommitsTable s t u v n o mid end → u < s.nodes →
    ((desk_at s (committed t mid end)).kept u (v + 1) ≡ (desk_at s t).kept u (v + 1)) ⊎ Forgets s (desk_at s t) u (v + 1) (desk_at s (committed t mid end))
unfolding desk_at
kept_next s t u v n o mid end is p =
    let e : Table = committed t mid end in
    let old : Counts = counts_of t.curves in
    elim (cases_Bool (any_differs s old u (v + 1) o)) [
      | inr off ↦ inl (next_same s t u v n o mid end is off)
      | inl on ↦ elim (cases_lt (v + 1) s.slots) [
        | inr past ↦ inl (past_pair s None (kept_of s e) u (v + 1) (inr past) ∙ sym (past_pair s None (kept_of s t) u (v + 1) (inr past)))
        | inl q ↦
            let gone : (desk_at s e).kept u (v + 1) ≡ None = next_gone s t u v n o mid end is on p q in
            elim (cases_Bool (has_row t.kept u (v + 1))) [
              | inr none ↦ inl (gone ∙ sym (of_pair s None (kept_of s t) u (v + 1) p q ∙ ap (option_map (with_node_counts s old u (v + 1))) (none_kept t.kept u (v + 1) none)))
              | inl there ↦
                  let row : List ℕ = row_of t.kept u (v + 1) in
                  let first : ℕ = counts_begin (shape_at s u) in
                  inr (changed_are_forgotten s (desk_at s t) (desk_at s e) u (v + 1) (take first row) (drop first row)
                  (length-take-le first row (long_row s s.slots t.kept u (v + 1) is.ready.fits.kept p q))
                  (of_pair s None (kept_of s t) u (v + 1) p q ∙ ap (option_map (with_node_counts s old u (v + 1))) (some_kept t.kept u (v + 1) there))
                  (counts_differ s old (counts_of mid.curves) u (v + 1) o is.by_place (counts_set s t u v n o mid end is) on)
                  gone)
            ]
      ]
    ]
