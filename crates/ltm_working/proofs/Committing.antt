-- A claimed pair is committed.
use Rattle.std.proofs.Common.{◌≡◌, ◌≢◌, ℕ, ◌+◌, ◌<◌, ◌&&◌, ◌||◌, not, Bool, true, false, refl, ap, sym, ◌∙◌, subst, arith, inl, inr}
use Rattle.std.specs.Prelude.{Some, None}
use Rattle.std.proofs.lemmas.Bool.{cases_Bool}
use Rattle.ltm_curve.specs.Counts.{Counts}
use Rattle.ltm_curve.specs.Table.{counts_of}
use Rattle.ltm_curve.specs.Cells.{is_changed, IsCell}
use Rattle.ltm_node.specs.Inputs.{Inputs}
use Rattle.ltm_node.specs.Outputs.{Outputs}
use Rattle.ltm_loading.specs.Setting.{Setting}
use Rattle.ltm_loading.specs.Pairs.{shape_at}
use Rattle.ltm_loading.specs.NextPair.{IsPairInputs}
use Rattle.ltm_frontier.specs.Frontier.{nodes_in, slots_in, is_active, is_claimed}
use Rattle.ltm_repair.specs.Desk.{Desk, IsOther, IsIdle}
use Rattle.ltm_repair.specs.Facts.{IsClaim}
use Rattle.ltm_repair.specs.Moves.{Sets, WakesReaders, Commits}
use Rattle.ltm_repair.proofs.Cases.{cases_pair}
use Rattle.ltm_repair.proofs.Making.{applied_sets}
use Rattle.ltm_repair.proofs.KeepsCommit.{commit_keeps}
use Rattle.ltm_repair.proofs.Index.{index_stays_current}
use Rattle.ltm_pairs.specs.Changes.{differs_at}
use Rattle.ltm_pairs.specs.Readers.{reads_commit}
use Rattle.ltm_working.specs.declared.table.Table.{Table}
use Rattle.ltm_rows.specs.Claims.{claim_row}
use Rattle.ltm_working.specs.Pairs.{of_pairs, of_cells}
use Rattle.ltm_working.specs.Desks.{row_without_counts, desk_at, place_of, changed_at}
use Rattle.ltm_working.specs.Ready.{IsReady}
use Rattle.ltm_working.specs.Waking.{any_differs, wakes}
use Rattle.ltm_working.specs.Committing.{readers, rewritten}
use Rattle.ltm_working.proofs.Bools.{or_left, and_false}
use Rattle.ltm_rows.proofs.KeptPlaces.{rows_lie}
use Rattle.ltm_working.proofs.Reading.{SetsOutputs, ArePlaced, wakes_are_readers, early, early_reads}
use Rattle.ltm_working.proofs.Desks.{of_pair, past_pair, cases_pairs, claimed_is, claim_same, claim_off, claimed_row, same_claim, idle_here}
use Rattle.ltm_working.proofs.Weighing.{weighed_put, weighed_forget}
use Rattle.ltm_working.proofs.Dropping.{pair_test, other_test, and_not}
use Rattle.ltm_working.proofs.Taking.{one_slot}
use Rattle.ltm_working.proofs.ChangedCells.{cell_of, no_cell, cases_cells, cells_differ}
use Rattle.ltm_working.proofs.Committed.{CommitsTable, committed, claim_is, counts_set, kept_this, kept_next, kept_same}

desk_sets : (s : Setting) (t : Table) (u v : ℕ) (n : Inputs) (o : Outputs) (mid end : Table) → CommitsTable s t u v n o mid end →
    Sets s (desk_at s t) u v n.row (desk_at s (committed t mid end))
unfolding desk_at
desk_sets s t u v n o mid end is =
    let claim : IsClaim s (desk_at s t) u v n.row = claim_is s t u v n.row is.ready is.claimed in
    applied_sets s (desk_at s t) (desk_at s (committed t mid end)) u v n.row n o is.setting is.ready.sound is.claimed is.shape refl is.step is.renews.applies
    (record {
      this = kept_this s t u v n o mid end is;
      next = kept_next s t u v n o mid end is claim.is_node;
      others = λ w y other apart. kept_same s t u v n o mid end w y is other apart;
    })

and_not_false : (a : Bool) → (a && not false) ≡ a
and_not_false true = refl
and_not_false false = refl

-- what is active is so before or reads the commit
pub active_readers : (s : Setting) (t : Table) (u v : ℕ) (n : Inputs) (o : Outputs) (mid end : Table) (w y : ℕ) → CommitsTable s t u v n o mid end →
    w < s.nodes → y < s.slots → is_active end.frontier w y ≡ (is_active t.frontier w y || reads_commit s (counts_of t.curves) (counts_of mid.curves) u (v + 1) w y)
unfolding desk_at
active_readers s t u v n o mid end w y is p q =
    let old : Counts = counts_of t.curves in
    let new : Counts = counts_of mid.curves in
    let claim : IsClaim s (desk_at s t) u v n.row = claim_is s t u v n.row is.ready is.claimed in
    let sets : SetsOutputs s old new u (v + 1) o = counts_set s t u v n o mid end is in
    let W : Bool = wakes s old (place_of t.index) u (v + 1) o w y in
    let R : Bool = reads_commit s old new u (v + 1) w y in
    let in_nodes : w < nodes_in t.frontier = omega (arith, p, is.ready.fits.frontier.nodes) in
    let in_slots : y < slots_in t.frontier = omega (arith, q, is.ready.fits.frontier.slots) in
    let all : is_active end.frontier w y ≡ (is_active t.frontier w y || (W && not (is_claimed t.frontier w y))) =
    is.frees.active w y (omega (arith, in_nodes, is.renews.wakes.size.nodes)) (omega (arith, in_slots, is.renews.wakes.size.slots)) ∙ is.renews.wakes.active w y in_nodes in_slots in
    all ∙ elim (cases_Bool (is_active t.frontier w y)) [
      | inl on ↦ or_left (is_active t.frontier w y) (W && not (is_claimed t.frontier w y)) on ∙ sym (or_left (is_active t.frontier w y) R on)
      | inr off ↦ elim (cases_Bool (is_claimed t.frontier w y)) [
        | inl claimed ↦
            let some : (desk_at s t).claimed w y ≡ Some (claim_row t.claims w) = claimed_row s t w y p q claimed in
            let at : y ≡ v = one_slot s (desk_at s t) y v is.ready.sound (w, p, q, λ none. cc) (u, claim.is_node, claim.is_slot, λ none. let mine : (desk_at s t).claimed u v ≡ Some n.row = is.claimed in cc) in
            ap (λ z. is_active t.frontier w y || (z && not (is_claimed t.frontier w y))) (early s old (place_of t.index) u (v + 1) o w y (omega arith))
            ∙ sym (ap (λ z. is_active t.frontier w y || z) (early_reads s old new u (v + 1) w y (omega arith)))
        | inr free ↦
            let idle : IsIdle (desk_at s t) w y = idle_here s t w y p q off free in
            let other : IsOther u v w y = λ a b.
            let here : (desk_at s t).claimed w y ≡ Some n.row = subst (λ (z : ℕ). (desk_at s t).claimed z y ≡ Some n.row) a (subst (λ (z : ℕ). (desk_at s t).claimed u z ≡ Some n.row) b is.claimed) in
            let none : (desk_at s t).claimed w y ≡ None = idle.1 in cc in
            let placed : ArePlaced s old (place_of t.index) w y = λ i l. is.ready.index w y p q idle i l in
            ap (λ z. is_active t.frontier w y || (W && not z)) free
            ∙ (ap (λ z. is_active t.frontier w y || z) (and_not_false W)
            ∙ ap (λ z. is_active t.frontier w y || z) (wakes_are_readers s old new (place_of t.index) u (v + 1) o w y sets placed))
      ]
    ]

pairs_or : (s : Setting) (new old wake : ℕ → ℕ → Bool) (w v : ℕ) → (w < s.nodes → v < s.slots → new w v ≡ (old w v || wake w v)) →
    of_pairs s false new w v ≡ (of_pairs s false old w v || of_pairs s false wake w v)
pairs_or s new old wake w v h = elim (cases_pairs s w v) [
  | inl in_range ↦
      of_pair s false new w v in_range.0 in_range.1 ∙ (h in_range.0 in_range.1
      ∙ sym (ap (λ z. z || of_pairs s false wake w v) (of_pair s false old w v in_range.0 in_range.1) ∙ ap (λ z. old w v || z) (of_pair s false wake w v in_range.0 in_range.1)))
  | inr past ↦
      past_pair s false new w v past
      ∙ sym (ap (λ z. z || of_pairs s false wake w v) (past_pair s false old w v past) ∙ past_pair s false wake w v past)
]

pairs_wake : (s : Setting) (d e : Desk) (t : ℕ) (wake : ℕ → ℕ → Bool) → WakesReaders s d e t wake → WakesReaders s d e t (of_pairs s false wake)
pairs_wake s d e t wake h = record {
  later = λ w v woken. elim (cases_pairs s w v) [
    | inl in_range ↦ h.later w v (sym (of_pair s false wake w v in_range.0 in_range.1) ∙ woken)
    | inr past ↦ let none : of_pairs s false wake w v ≡ false = past_pair s false wake w v past in absurd (cc)
  ];
  quiet = λ w v x l none. h.quiet w v x l (sym (of_pair s false wake w v x l) ∙ none);
}

pub commits_desk : (s : Setting) (t : Table) (u v : ℕ) (n : Inputs) (o : Outputs) (mid end : Table) → CommitsTable s t u v n o mid end →
    Commits s (desk_at s t) u v n.row (readers s (desk_at s t) (desk_at s (committed t mid end)) u v) (desk_at s (committed t mid end))
unfolding desk_at
commits_desk s t u v n o mid end is =
    let d : Desk = desk_at s t in
    let e : Desk = desk_at s (committed t mid end) in
    let claim : IsClaim s d u v n.row = claim_is s t u v n.row is.ready is.claimed in
    let sets : Sets s d u v n.row e = desk_sets s t u v n o mid end is in
    let in_nodes : (w : ℕ) → w < s.nodes → w < nodes_in mid.frontier = λ w p. omega (arith, p, is.ready.fits.frontier.nodes, is.renews.wakes.size.nodes) in
    let free : is_claimed end.frontier u v ≡ false = is.frees.claimed u v (in_nodes u claim.is_node) ∙ (ap (λ z. is_claimed mid.frontier u v && not z) (pair_test u v) ∙ and_false (is_claimed mid.frontier u v)) in
    record {
      was_claimed = is.claimed;
      sets = sets;
      readers = pairs_wake s d e v (reads_commit s d.counts e.counts u (v + 1)) (is.wake s d e u v n.row is.setting is.ready.sound is.claimed sets);
      free = claimed_is s (committed t mid end) u v claim.is_node claim.is_slot ∙ claim_off (committed t mid end) u v free;
      claimed = λ w y other. same_claim s t (committed t mid end) w y (λ p q. claim_same t (committed t mid end) w y
          (is.frees.claimed w y (in_nodes w p) ∙ (ap (λ z. is_claimed mid.frontier w y && not z) (other_test u v w y other) ∙ (and_not (is_claimed mid.frontier w y) ∙ is.renews.wakes.claims.pairs w y))) refl);
      active = λ w y. pairs_or s (is_active end.frontier) (is_active t.frontier) (reads_commit s d.counts e.counts u (v + 1)) w y (λ p q. active_readers s t u v n o mid end w y is p q);
    }

pub commits_ready : (s : Setting) (t : Table) (u v : ℕ) (n : Inputs) (o : Outputs) (mid end : Table) → CommitsTable s t u v n o mid end →
    IsReady s (committed t mid end)
unfolding desk_at
commits_ready s t u v n o mid end is =
    let d : Desk = desk_at s t in
    let e : Desk = desk_at s (committed t mid end) in
    let claim : IsClaim s d u v n.row = claim_is s t u v n.row is.ready is.claimed in
    let sets : Sets s d u v n.row e = desk_sets s t u v n o mid end is in
    let commits : Commits s d u v n.row (readers s d e u v) e = commits_desk s t u v n o mid end is in
    let keeps = is.positions s d e u v n.row is.setting is.ready.sound is.claimed sets in
    record {
      fits = record {
        curves = is.renews.fits.curves;
        kept = rows_lie s s.slots mid.kept end.kept is.renews.fits.kept is.puts.places is.puts.slots;
        claims = is.ready.fits.claims;
        frontier = record { nodes = is.frees.size.nodes ∙ is.renews.fits.frontier.nodes; slots = is.frees.size.slots ∙ is.renews.fits.frontier.slots };
        index = is.ready.fits.index;
        changed = is.renews.fits.changed;
      };
      sound = commit_keeps s d u v n.row (readers s d e u v) e is.setting is.ready.sound commits;
      index = index_stays_current.commit s d e u v n.row (readers s d e u v) (place_of t.index) (place_of t.index) commits
          (record {
            placed = λ i l. is.ready.claims u v claim.is_node claim.is_slot (λ none. let mine : d.claimed u v ≡ Some n.row = is.claimed in cc) i l
                ∙ sym (keeps u v i claim.is_node claim.is_slot l (early_reads s d.counts e.counts u (v + 1) u v (omega arith)));
            others = λ w y p q other i l. refl;
            quiet = λ w y i p q l off. keeps w y i p q l (sym (of_pair s false (reads_commit s d.counts e.counts u (v + 1)) w y p q) ∙ off);
          })
          is.ready.index;
      claims = λ w y p q some. elim (cases_pair u v w y) [
        | inl at ↦ absurd (some (subst (λ (z : ℕ). e.claimed z y ≡ None) at.0 (subst (λ (z : ℕ). e.claimed u z ≡ None) at.1 commits.free)))
        | inr other ↦
            let was : d.claimed w y ≢ None = λ none. some (commits.claimed w y other ∙ none) in
            let at : y ≡ v = one_slot s d y v is.ready.sound (w, p, q, was) (u, claim.is_node, claim.is_slot, λ none. let mine : d.claimed u v ≡ Some n.row = is.claimed in cc) in
            λ i l. is.ready.claims w y p q was i l ∙ sym (keeps w y i p q l (early_reads s d.counts e.counts u (v + 1) w y (omega (arith, at))))
      ];
      weights = weighed_put s mid.kept end.kept d.counts u v (row_without_counts s u n.row) is.renews.fits.kept claim.is_node claim.is_slot
          (weighed_forget s (any_differs s d.counts u (v + 1) o) t.kept mid.kept u (v + 1) is.ready.fits.kept is.ready.weights is.renews.kept)
          is.puts (ap (row_without_counts s u) claim.now);
    }

pub commits_cells : (s : Setting) (t : Table) (u v : ℕ) (n : Inputs) (o : Outputs) (mid end : Table) → CommitsTable s t u v n o mid end → (g b : ℕ) →
    changed_at s (committed t mid end) g b ≡ (changed_at s t g b || rewritten s (desk_at s t) (desk_at s (committed t mid end)) g b)
unfolding desk_at changed_at
commits_cells s t u v n o mid end is g b =
    elim (cases_cells s g b) [
      | inl in_range ↦
          let cell : IsCell t.changed g b = record { is_group = omega (arith, in_range.0, is.ready.fits.changed.same_groups); is_boundary = omega (arith, in_range.1, is.ready.fits.changed.same_slots) } in
          cell_of s (is_changed mid.changed) g b in_range.0 in_range.1 ∙ (is.renews.cells.each g b cell
          ∙ (ap (λ z. is_changed t.changed g b || z) (cells_differ s (counts_of t.curves) (counts_of mid.curves) u (v + 1) o g b (counts_set s t u v n o mid end is) in_range.0 in_range.1)
          ∙ sym (ap (λ z. z || of_cells s (differs_at s (counts_of t.curves) (counts_of mid.curves)) g b) (cell_of s (is_changed t.changed) g b in_range.0 in_range.1)
          ∙ ap (λ z. is_changed t.changed g b || z) (cell_of s (differs_at s (counts_of t.curves) (counts_of mid.curves)) g b in_range.0 in_range.1))))
      | inr past ↦
          no_cell s (is_changed mid.changed) g b past
          ∙ sym (ap (λ z. z || of_cells s (differs_at s (counts_of t.curves) (counts_of mid.curves)) g b) (no_cell s (is_changed t.changed) g b past) ∙ no_cell s (differs_at s (counts_of t.curves) (counts_of mid.curves)) g b past)
    ]

-- the inputs of a claim are those of its pair
pub claim_inputs : (s : Setting) (t : Table) (u v : ℕ) (n : Inputs) → IsReady s t → (desk_at s t).claimed u v ≡ Some n.row → n.shape ≡ shape_at s u → IsPairInputs s (counts_of t.curves) u v n
unfolding desk_at
claim_inputs s t u v n ready some shape = record { shape = shape; row = (ready.sound.claims u v n.row some).now }
