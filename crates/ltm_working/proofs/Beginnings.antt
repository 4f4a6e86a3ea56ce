-- The table of a loading at rest.
use Rattle.std.proofs.Common.{◌≡◌, ℕ, ◌+◌, ◌<◌, ◌&&◌, nat_lt, nat_le, replicate, false, refl, ap, sym, ◌∙◌, subst, arith, inl, inr}
use Rattle.std.proofs.lemmas.Bool.{cases_lt, cases_eq}
use Rattle.ltm_curve.specs.Counts.{Counts, total}
use Rattle.ltm_curve.specs.Table.{counts_of}
use Rattle.ltm_curve.specs.Cells.{cell_groups, cell_slots, is_changed, HasCells, NoneChanged}
use Rattle.ltm_curve.specs.declared.changed.Changed.{Changed}
use Rattle.ltm_loading.specs.Setting.{Setting, IsSetting}
use Rattle.ltm_loading.specs.Groups.{groups}
use Rattle.ltm_loading.specs.Flows.{position}
use Rattle.ltm_loading.specs.Pairs.{pair_row}
use Rattle.ltm_loading.specs.Loading.{IsLoading}
use Rattle.ltm_loading.specs.Shaped.{IsShaped}
use Rattle.ltm_frontier.specs.Frontier.{nodes_in, slots_in, AllIdle}
use Rattle.ltm_index.specs.declared.read_index.ReadIndex.{ReadIndex}
use Rattle.ltm_repair.specs.Desk.{IsOther, IsSettled, IsIdle}
use Rattle.ltm_repair.specs.Facts.{IsSound}
use Rattle.ltm_repair.specs.State.{RepairState}
use Rattle.ltm_repair.proofs.Opening.{opening_is_repair}
use Rattle.ltm_rows.specs.declared.rows.KeptRows.{KeptRows}
use Rattle.ltm_working.specs.declared.table.Table.{Table}
use Rattle.ltm_rows.specs.Claims.{HasClaims}
use Rattle.ltm_rows.specs.declared.layout.Layout.{Layout}
use Rattle.ltm_rows.specs.Layouts.{width_in}
use Rattle.ltm_rows.specs.Rows.{nodes_kept, slots_kept, is_weighed, PutsRow, HasRows}
use Rattle.ltm_working.specs.Pairs.{of_cells}
use Rattle.ltm_working.specs.Desks.{row_without_counts, desk_at, changed_at}
use Rattle.ltm_working.specs.Ready.{IsReady, IsOpened, HasLists}
use Rattle.ltm_working.specs.Placing.{StandsAt, PlacesPair, KeepsPair, HasZeros, KeepsSlots}
use Rattle.ltm_working.proofs.Bools.{and_false}
use Rattle.ltm_rows.proofs.KeptPlaces.{put_kept, put_other, rows_lie}
use Rattle.ltm_working.proofs.Desks.{cases_pairs, kept_is, active_past, claimed_past, idle_here}
use Rattle.ltm_working.proofs.Keeping.{kept_whole}
use Rattle.ltm_working.proofs.Weighing.{weighed_put}
use Rattle.ltm_working.proofs.Listing.{place_is}

-- ---- pair after pair
stands_still : (s : Setting) (c : Counts) (x y : ReadIndex) (u t w v : ℕ) → IsSetting s → u < s.nodes → w < s.nodes → IsOther u t w v → PlacesPair s c x y u t (s.ins u) → StandsAt s c x w v (s.ins w) → StandsAt s c y w v (s.ins w)
stands_still s c x y u t w v is node here other places stands = λ i l.
    places.others (s.in_link w i) v (is.network.in_link_is_link w i here l) (λ j m same slot.
    other (sym (is.network.in_link_ends u j node m) ∙ (ap s.head same ∙ is.network.in_link_ends w i here l)) (sym slot))
    ∙ stands i l

pub keeps_next : (s : Setting) (c : Counts) (a b : KeptRows) (x y : ReadIndex) (slot u : ℕ) → IsSetting s → u < s.nodes → slot < s.slots → KeepsSlots s c a x slot u → PutsRow a b u slot (row_without_counts s u (pair_row s c u slot)) →
    PlacesPair s c x y u slot (s.ins u) → KeepsSlots s c b y slot (u + 1)
keeps_next s c a b x y slot u is node low keeps puts places =
    let still : (w v : ℕ) → w < s.nodes → v < s.slots → IsOther u slot w v → KeepsPair s c a x w v → KeepsPair s c b y w v = λ w v p q other pair. record {
      row = put_other a b u slot (row_without_counts s u (pair_row s c u slot)) w v puts (omega (arith, p, keeps.rows.amounts.nodes)) (omega (arith, q, keeps.rows.same_slots)) other ∙ pair.row;
      weighed = puts.others_weighed w v (omega (arith, p, keeps.rows.amounts.nodes)) (omega (arith, q, keeps.rows.same_slots)) other ∙ pair.weighed;
      placed = stands_still s c x y u slot w v is node p other places pair.placed;
    } in
    let zeros : (w v : ℕ) → w < s.nodes → v < s.slots → IsOther u slot w v → HasZeros a w v → HasZeros b w v = λ w v p q other none.
    puts.others_amounts w v (omega (arith, p, keeps.rows.amounts.nodes)) (omega (arith, q, keeps.rows.same_slots)) other
    ∙ (none ∙ ap (λ (z : Layout). replicate (width_in z w) 0) (sym puts.places.narrow)) in
    record {
      rows = rows_lie s s.slots a b keeps.rows puts.places puts.slots;
      lists = places.lists;
      weights = weighed_put s a b c u slot (row_without_counts s u (pair_row s c u slot)) keeps.rows node low keeps.weights puts refl;
      earlier = λ w v p q. still w v p (omega arith) (λ same at. omega arith) (keeps.earlier w v p q);
      here = λ w p. elim (cases_eq w u) [
        | inr apart ↦ still w slot (omega arith) low (λ same at. apart (sym same)) (keeps.here w (omega arith))
        | inl same ↦ subst (λ (z : ℕ). KeepsPair s c b y z slot) (sym same) (record { row = put_kept a b u slot (row_without_counts s u (pair_row s c u slot)) puts; weighed = puts.weighed; placed = places.placed })
      ];
      rest = λ w n p q. zeros w slot p q (λ same at. omega (arith, same, n)) (keeps.rest w (omega (arith, n)) p q);
      later = λ w v p l q. zeros w v p q (λ same at. omega (arith, at, l)) (keeps.later w v p l q);
    }

pub keeps_first : (s : Setting) (c : Counts) (a : KeptRows) (x : ReadIndex) → HasRows s s.slots a → HasLists s x → ((u t : ℕ) → is_weighed a u t ≡ false) →
    ((u t : ℕ) → u < nodes_kept a → t < slots_kept a → HasZeros a u t) → KeepsSlots s c a x 0 0
keeps_first s c a x rows lists none zeros = record {
  rows = rows;
  lists = lists;
  weights = λ u t p q on. let off : is_weighed a u t ≡ false = none u t in absurd (cc);
  earlier = λ w v p q. absurd (omega arith);
  here = λ w p. absurd (omega arith);
  rest = λ w n p q. zeros w 0 (omega (arith, p, rows.amounts.nodes)) (omega (arith, q, rows.same_slots));
  later = λ w v p l q. zeros w v (omega (arith, p, rows.amounts.nodes)) (omega (arith, q, rows.same_slots));
}

pub keeps_slot : (s : Setting) (c : Counts) (a : KeptRows) (x : ReadIndex) (slot nodes : ℕ) → nodes ≡ s.nodes → KeepsSlots s c a x slot nodes → KeepsSlots s c a x (slot + 1) 0
keeps_slot s c a x slot nodes all keeps = record {
  rows = keeps.rows;
  lists = keeps.lists;
  weights = keeps.weights;
  earlier = λ w v p q. elim (cases_lt v slot) [
    | inl low ↦ keeps.earlier w v p low
    | inr high ↦ subst (λ (z : ℕ). KeepsPair s c a x w z) (let at : slot ≡ v = omega arith in at) (keeps.here w (omega arith))
  ];
  here = λ w p. absurd (omega arith);
  rest = λ w n p q. keeps.later w (slot + 1) p (omega arith) q;
  later = λ w v p l q. keeps.later w v p (omega (arith, l)) q;
}

-- ---- the table
pub record Opens (s : Setting) (t : Table) : Type 0 where
  pub setting : IsSetting s
  pub shape : IsShaped s t.curves
  pub loading : IsLoading s (counts_of t.curves)
  pub keeps : KeepsSlots s (counts_of t.curves) t.kept t.index s.slots 0
  pub claims : HasClaims s t.claims
  pub nodes : nodes_in t.frontier ≡ s.nodes
  pub slots : slots_in t.frontier ≡ s.slots
  pub idle : AllIdle t.frontier
  pub changed : HasCells t.changed (groups s) s.slots
  pub none : NoneChanged t.changed

opens_idle : (s : Setting) (t : Table) (u v : ℕ) → Opens s t → IsIdle (desk_at s t) u v
opens_idle s t u v opens = elim (cases_pairs s u v) [
  | inr past ↦ (active_past s t u v past, claimed_past s t u v past)
  | inl in_range ↦
      let idle = opens.idle u v (omega (arith, in_range.0, opens.nodes)) (omega (arith, in_range.1, opens.slots)) in
      idle_here s t u v in_range.0 in_range.1 idle.0 idle.1
]

opens_kept : (s : Setting) (t : Table) (u v : ℕ) → Opens s t → u < s.nodes → v < s.slots → IsSettled s (desk_at s t) u v
unfolding desk_at
opens_kept s t u v opens x l = kept_is s t u v x l ∙ kept_whole s t u v (opens.keeps.earlier u v x l).row

opens_sound : (s : Setting) (t : Table) → Opens s t → IsSound s (desk_at s t)
unfolding desk_at
opens_sound s t opens =
    let state : RepairState = record {
      desk = desk_at s t;
      settings = λ k. s;
      accepted = 0;
      settled = 0;
      shown_at = 0;
      shown = λ g k. total s.destinations (counts_of t.curves g) k;
      commits = 0;
      changed = λ g k. false;
    } in
    (opening_is_repair state (record {
      rest = record { setting = opens.setting; loading = opens.loading; kept = λ u v x l. opens_kept s t u v opens x l; idle = λ u v. opens_idle s t u v opens };
      shows = λ g k x l. refl;
      accepted = refl;
      settled = refl;
      shown_at = refl;
      commits = refl;
      none_changed = λ g k. refl;
    })).desk

cleared : (s : Setting) (c : Changed) (g k : ℕ) → NoneChanged c → of_cells s (is_changed c) g k ≡ false
cleared s c g k none = ap (λ z. (nat_lt g (groups s) && nat_le k s.slots) && z) (none g k) ∙ and_false (nat_lt g (groups s) && nat_le k s.slots)

pub opened : (s : Setting) (t : Table) → Opens s t → IsOpened s t
unfolding desk_at changed_at
opened s t opens = record {
  ready = record {
    fits = record {
      curves = opens.shape;
      kept = opens.keeps.rows;
      claims = opens.claims;
      frontier = record { nodes = opens.nodes; slots = opens.slots };
      index = opens.keeps.lists;
      changed = opens.changed;
    };
    sound = opens_sound s t opens;
    index = λ u v x l idle i m. place_is t.index (s.in_link u i) v (position s (counts_of t.curves) (s.in_link u i) v) ((opens.keeps.earlier u v x l).placed i m);
    claims = λ u v x l some. absurd (some (opens_idle s t u v opens).1);
    weights = opens.keeps.weights;
  };
  loading = opens.loading;
  kept = λ u v x l. opens_kept s t u v opens x l;
  idle = λ u v. opens_idle s t u v opens;
  none_changed = λ g k. cleared s t.changed g k opens.none;
}

-- ---- cells that are cleared
pub cleared_ready : (s : Setting) (t : Table) (c : Changed) → IsReady s t → HasCells c (cell_groups t.changed) (cell_slots t.changed) → IsReady s (record t { changed = c })
unfolding desk_at
cleared_ready s t c ready shape = record {
  fits = record {
    curves = ready.fits.curves;
    kept = ready.fits.kept;
    claims = ready.fits.claims;
    frontier = ready.fits.frontier;
    index = ready.fits.index;
    changed = record { same_groups = shape.same_groups ∙ ready.fits.changed.same_groups; same_slots = shape.same_slots ∙ ready.fits.changed.same_slots };
  };
  sound = ready.sound;
  index = ready.index;
  claims = ready.claims;
  weights = ready.weights;
}

pub cleared_none : (s : Setting) (t : Table) (g k : ℕ) → NoneChanged t.changed → changed_at s t g k ≡ false
unfolding changed_at
cleared_none s t g k none = cleared s t.changed g k none
