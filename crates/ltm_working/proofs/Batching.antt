-- A batch is taken in.
use Rattle.std.proofs.Common.{◌≡◌, ℕ, ◌<◌, ◌≤◌, ◌&&◌, ◌||◌, not, nat_le, List, [], ◌∷◌, ◌++◌, take, drop, Bool, true, false, if◌then◌else◌, refl, ap, sym, ◌∙◌, subst, arith, inl, inr, ◌⊎◌}
use Rattle.std.proofs.Math.Path.{fun_ext}
use Rattle.std.specs.Prelude.{Some, None, option_map, is_some}
use Rattle.std.proofs.lemmas.Bool.{cases_lt, le-leb, lt-leb}
use Rattle.ltm_curve.specs.Counts.{Counts}
use Rattle.ltm_curve.specs.Table.{counts_of}
use Rattle.ltm_curve.specs.Cells.{is_changed}
use Rattle.ltm_node.specs.Shape.{counts_begin}
use Rattle.ltm_scenario.specs.declared.edit.Edit.{Edit}
use Rattle.ltm_scenario.specs.declared.setup.Setup.{Setup}
use Rattle.ltm_scenario.specs.Network.{NetworkData}
use Rattle.ltm_scenario.specs.Data.{ScenarioData}
use Rattle.ltm_scenario.specs.Shape.{SameShape}
use Rattle.ltm_loading.specs.Setting.{Setting, IsSetting}
use Rattle.ltm_loading.specs.Groups.{groups}
use Rattle.ltm_loading.specs.Flows.{position}
use Rattle.ltm_loading.specs.Networks.{SameNetwork}
use Rattle.ltm_loading.specs.Pairs.{shape_at, count_row}
use Rattle.ltm_loading.proofs.Setters.{counts_set_only_holds, of_group}
use Rattle.ltm_setting.specs.Setting.{setting_of}
use Rattle.ltm_frontier.specs.declared.frontier.Frontier.{Frontier}
use Rattle.ltm_frontier.specs.Frontier.{nodes_in, slots_in, is_active, is_claimed, Voids, Activates}
use Rattle.ltm_repair.specs.Moves.{Accepts}
use Rattle.ltm_pairs.specs.Touched.{touched_in, touched_by, is_touched}
use Rattle.ltm_pairs.proofs.LongerReaches.{longer_reaches}
use Rattle.ltm_repair.proofs.Index.{index_stays_current}
use Rattle.ltm_repair.proofs.KeepsBatch.{accept_keeps}
use Rattle.ltm_repair.proofs.Networks.{shape_same}
use Rattle.ltm_pairs.specs.Reaches.{lies_in_one}
use Rattle.ltm_working.specs.declared.table.Table.{Table}
use Rattle.ltm_rows.specs.declared.claim_rows.ClaimRows.{ClaimRows}
use Rattle.ltm_rows.specs.declared.layout.Layout.{Layout}
use Rattle.ltm_rows.specs.declared.layout.Part.{Part}
use Rattle.ltm_rows.specs.declared.layout.Part.TheVariants.{All, Amounts, Weights}
use Rattle.ltm_rows.specs.declared.rows.KeptRows.{KeptRows}
use Rattle.ltm_rows.specs.Layouts.{LiesAs}
use Rattle.ltm_rows.specs.Starts.{part_width}
use Rattle.ltm_rows.specs.Claims.{claim_row, HasClaims}
use Rattle.ltm_rows.specs.Rows.{nodes_kept, slots_kept, is_weighed, kept_row, HasRows}
use Rattle.ltm_working.specs.Pairs.{of_cells}
use Rattle.ltm_working.specs.Desks.{with_node_counts, kept_of, desk_at, place_of, changed_at}
use Rattle.ltm_working.specs.Ready.{FitsTable, WeightsAreCurrent, IsReady}
use Rattle.ltm_working.specs.Growing.{horizon_of, at_horizon, TableHasRoom, Lengthens}
use Rattle.ltm_working.specs.Batches.{LeadsTo, touches, UnweighsAll, TakesIn, TablesFit}
use Rattle.ltm_working.proofs.Bools.{or_false, or_right}
use Rattle.ltm_rows.proofs.KeptPlaces.{rows_at, rows_lie, stays_kept, none_kept}
use Rattle.ltm_working.proofs.Desks.{of_pair, past_pair, cases_pairs, active_is, claimed_is, active_past, claimed_past, claim_off}
use Rattle.ltm_working.proofs.Standing.{same_place}
use Rattle.ltm_working.proofs.Weighing.{still_weighed, weights_same}
use Rattle.ltm_working.proofs.ChangedCells.{cell_of, no_cell, cases_cells}

-- ---- one network, and horizons
pub one_network : (a b : ScenarioData) → SameShape a b → SameNetwork (setting_of a) (setting_of b)
unfolding setting_of
one_network a b same = record {
  nodes = rw same.network refl;
  links = rw same.network refl;
  destinations = rw same.destinations refl;
  ins = rw same.network refl;
  in_link = rw same.network refl;
  outs = rw same.network refl;
  out_link = rw same.network refl;
  own = rw same.destinations refl;
  by_turn = sym (ap (λ (z : Setup). z.by_turn) same.setup);
}

pub horizon_is : (a : ScenarioData) → (setting_of a).slots ≡ a.setup.slots
unfolding setting_of
horizon_is a = refl

longer : (a b : ScenarioData) → SameShape a b → (setting_of a).slots ≤ (setting_of b).slots
longer a b same = omega (arith, horizon_is a, horizon_is b, same.slots)

lies_same : (r s : Setting) (part : Part) (p : Layout) → SameNetwork r s → LiesAs r part p → LiesAs s part p
lies_same r s part p same lies = record {
  nodes = lies.nodes ∙ same.nodes;
  widths = λ u x. lies.widths u (omega (arith, x, same.nodes)) ∙ ap (part_width part) (shape_same r s u same);
}

rows_same : (r s : Setting) (before slots : ℕ) (k : KeptRows) → SameNetwork r s → before ≡ slots → HasRows r before k → HasRows s slots k
rows_same r s before slots k same at has = record { amounts = lies_same r s Amounts _ same has.amounts; weights = lies_same r s Weights _ same has.weights; same_slots = has.same_slots ∙ at }

filled_same : (r s : Setting) (c : Counts) (u v : ℕ) (row : List ℕ) → SameNetwork r s → with_node_counts r c u v row ≡ with_node_counts s c u v row
filled_same r s c u v row same = rw (same.ins, same.in_link, same.outs, same.out_link, same.destinations, same.own, same.nodes, same.links) refl

all_groups : (r s : Setting) → SameNetwork r s → groups r ≡ groups s
all_groups r s same = omega (arith, same.nodes, same.links)

-- the sizes of a setting are those of another one of its network, but for the horizon
fits_same : (r s : Setting) (t : Table) → SameNetwork r s → FitsTable r t → FitsTable (at_horizon s (horizon_of t)) t
fits_same r s t same fits =
    let slots : r.slots ≡ horizon_of t = sym fits.curves.same_slots in
    let all : groups r ≡ groups s = all_groups r s same in
    let n : Setting = at_horizon s (horizon_of t) in
    let there : SameNetwork r n = record {
      nodes = same.nodes;
      links = same.links;
      destinations = same.destinations;
      ins = same.ins;
      in_link = same.in_link;
      outs = same.outs;
      out_link = same.out_link;
      own = same.own;
      by_turn = same.by_turn;
    } in
    record {
      curves = record { same_groups = fits.curves.same_groups ∙ all; same_destinations = fits.curves.same_destinations ∙ same.destinations; same_slots = refl };
      kept = rows_same r n r.slots (horizon_of t) t.kept there slots fits.kept;
      claims = lies_same r n All _ there fits.claims;
      frontier = record { nodes = fits.frontier.nodes ∙ same.nodes; slots = fits.frontier.slots ∙ slots };
      index = record { links = fits.index.links ∙ same.links; slots = fits.index.slots ∙ slots };
      changed = record { same_groups = fits.changed.same_groups ∙ all; same_slots = fits.changed.same_slots ∙ slots };
    }

room_there : (r : Setting) (t : Table) → FitsTable r t → TableHasRoom t (horizon_of t)
room_there r t fits = record {
  curves = t.curves.within;
  kept = omega (arith, t.kept.within, fits.kept.same_slots, fits.curves.same_slots);
  frontier = omega (arith, t.frontier.active.within, fits.frontier.slots, fits.curves.same_slots);
  index = omega (arith, t.index.within, fits.index.slots, fits.curves.same_slots);
  changed = omega (arith, t.changed.marks.within, fits.changed.same_slots, fits.curves.same_slots);
}

pub tables_fit : TablesFit
tables_fit before after t same fits = record {
  fits = fits_same (setting_of before) (setting_of after) t (one_network before after same) fits;
  longer = omega (arith, longer before after same, fits.curves.same_slots);
  room = room_there (setting_of before) t fits;
}

-- ---- what is touched
-- of the pairs that were there before, the reaches of edits hold those that they hold if asked of the scenario before
touched_same : (a b : ScenarioData) (edits : List Edit) (u t : ℕ) → SameShape a b → t < a.setup.slots → is_touched b edits u t ≡ is_touched a edits u t
touched_same a b [] u t same before = refl
touched_same a b (edit ∷ edits) u t same before =
    let one : lies_in_one (touched_by b edit) u t ≡ lies_in_one (touched_by a edit) u t =
    ap (λ (n : NetworkData). lies_in_one (touched_in n b.setup.slots edit) u t) same.network ∙ longer_reaches a.network a.setup.slots b.setup.slots edit u t before same.slots in
    ap (λ z. z || is_touched b edits u t) one ∙ ap (λ z. lies_in_one (touched_by a edit) u t || z) (touched_same a b edits u t same before)

-- ---- the desk after a batch
pub record TakesBatch (before after : ScenarioData) (edits : List Edit) (t g : Table) (m f e : Frontier) (held : KeptRows) : Type 0 where
  pub setting : IsSetting (setting_of after)
  pub leads : LeadsTo before after edits
  pub ready : IsReady (setting_of before) t
  pub grows : Lengthens t g (setting_of after).slots
  pub voids : Voids g.frontier m
  pub marks : Activates m f (is_touched after edits)
  pub unweighs : UnweighsAll g.kept held (is_touched after edits)
  pub news : Activates f e (λ u v. nat_le (horizon_of t) v)

some_if : (b : Bool) (row : List ℕ) → is_some (if b then Some row else None) ≡ b
some_if true row = refl
some_if false row = refl

and_all : (a b : Bool) → b ≡ false → (a && not b) ≡ a
and_all true b e = rw e refl
and_all false b e = refl

-- a pair is active where it was active or claimed, where it is touched, and where it is new
active_then : (before after : ScenarioData) (edits : List Edit) (t g : Table) (m f e : Frontier) (held : KeptRows) (u v : ℕ) → TakesBatch before after edits t g m f e held → u < (setting_of after).nodes → v < (setting_of after).slots →
    is_active e u v ≡ (((is_active t.frontier u v || is_claimed t.frontier u v) || is_touched after edits u v) || nat_le (horizon_of t) v)
active_then before after edits t g m f e held u v is x l =
    let r : Setting = setting_of before in
    let network : SameNetwork r (setting_of after) = one_network before after is.leads.shape in
    let in_g : u < nodes_in g.frontier = omega (arith, x, network.nodes, is.ready.fits.frontier.nodes, is.grows.pairs.nodes) in
    let at_g : v < slots_in g.frontier = omega (arith, l, is.grows.pair_slots) in
    let in_m : u < nodes_in m = omega (arith, in_g, is.voids.size.nodes) in
    let at_m : v < slots_in m = omega (arith, at_g, is.voids.size.slots) in
    let free_m : is_claimed m u v ≡ false = is.voids.none u v in_g in
    let free_f : is_claimed f u v ≡ false = is.marks.claims.pairs u v ∙ free_m in
    is.news.active u v (omega (arith, in_m, is.marks.size.nodes)) (omega (arith, at_m, is.marks.size.slots))
    ∙ (ap (λ z. is_active f u v || z) (and_all (nat_le (horizon_of t) v) (is_claimed f u v) free_f)
    ∙ ap (λ z. z || nat_le (horizon_of t) v) (is.marks.active u v in_m at_m
    ∙ (ap (λ z. is_active m u v || z) (and_all (is_touched after edits u v) (is_claimed m u v) free_m)
    ∙ ap (λ z. z || is_touched after edits u v) (is.voids.active u v in_g at_g
    ∙ (ap (λ z. z || is_claimed g.frontier u v) (is.grows.pairs.active u v) ∙ ap (λ z. is_active t.frontier u v || z) (is.grows.pairs.claims.pairs u v))))))

free_then : (before after : ScenarioData) (edits : List Edit) (t g : Table) (m f e : Frontier) (held : KeptRows) (u v : ℕ) → TakesBatch before after edits t g m f e held → u < (setting_of after).nodes → is_claimed e u v ≡ false
free_then before after edits t g m f e held u v is x =
    let network : SameNetwork (setting_of before) (setting_of after) = one_network before after is.leads.shape in
    is.news.claims.pairs u v ∙ (is.marks.claims.pairs u v ∙ is.voids.none u v (omega (arith, x, network.nodes, is.ready.fits.frontier.nodes, is.grows.pairs.nodes)))

-- what is kept of the pairs that were there stays, and the counts of their nodes do
kept_then : (before after : ScenarioData) (edits : List Edit) (t g : Table) (m f e : Frontier) (held : KeptRows) (u v : ℕ) → TakesBatch before after edits t g m f e held → u < (setting_of after).nodes → v < (setting_of before).slots →
    kept_of (setting_of after) (record g { frontier = e; kept = held }) u v ≡ kept_of (setting_of before) t u v
kept_then before after edits t g m f e held u v is x l =
    let r : Setting = setting_of before in
    let s : Setting = setting_of after in
    let network : SameNetwork r s = one_network before after is.leads.shape in
    let all : groups r ≡ groups s = all_groups r s network in
    let nodes : r.nodes ≡ s.nodes = network.nodes in
    let horizon : horizon_of t ≡ r.slots = is.ready.fits.curves.same_slots in
    let row : kept_row held u v ≡ kept_row t.kept u v =
    is.unweighs.rows u v ∙ stays_kept t.kept g.kept u v is.grows.kept (omega (arith, x, nodes, is.ready.fits.kept.amounts.nodes)) (omega (arith, l, is.ready.fits.kept.same_slots)) in
    let counts : count_row s (counts_of g.curves) u v ≡ count_row s (counts_of t.curves) u v =
    counts_set_only_holds s (counts_of g.curves) (counts_of t.curves) u v is.setting x
    (λ a d of k. is.grows.counts a d v (record {
      is_group = omega (arith, of_group s u a d is.setting x of, all, is.ready.fits.curves.same_groups);
      is_destination = omega (arith, k, network.destinations, is.ready.fits.curves.same_destinations);
      is_boundary = omega (arith, l, horizon);
    })) in
    ap (option_map (with_node_counts s (counts_of g.curves) u v)) row
    ∙ (ap (λ (z : List ℕ). option_map (λ (y : List ℕ). take (counts_begin (shape_at s u)) y ++ (z ++ drop (counts_begin (shape_at s u)) y)) (kept_row t.kept u v)) counts
    ∙ sym (ap (λ (f : List ℕ → List ℕ). option_map f (kept_row t.kept u v)) (fun_ext (λ y. filled_same r s (counts_of t.curves) u v y network))))

accepts_desk : (before after : ScenarioData) (edits : List Edit) (t g : Table) (m f e : Frontier) (held : KeptRows) → TakesBatch before after edits t g m f e held →
    Accepts (setting_of before) (setting_of after) (desk_at (setting_of before) t) (touches before edits) (desk_at (setting_of after) (record g { frontier = e; kept = held }))
unfolding desk_at
accepts_desk before after edits t g m f e held is =
    let r : Setting = setting_of before in
    let s : Setting = setting_of after in
    let new : Table = record g { frontier = e; kept = held } in
    let network : SameNetwork r s = one_network before after is.leads.shape in
    let slots : r.slots ≤ s.slots = longer before after is.leads.shape in
    let all : groups r ≡ groups s = all_groups r s network in
    let nodes : r.nodes ≡ s.nodes = network.nodes in
    let horizon : horizon_of t ≡ r.slots = is.ready.fits.curves.same_slots in
    record {
      grows = record {
        slots = slots;
        old_counts = λ a d k x l y. is.grows.counts a d k (record {
          is_group = omega (arith, x, all, is.ready.fits.curves.same_groups);
          is_destination = omega (arith, l, network.destinations, is.ready.fits.curves.same_destinations);
          is_boundary = omega (arith, y, horizon);
        });
        new_counts = λ a d k x l late most. is.grows.no_counts a d k (record {
          is_group = omega (arith, x, all, is.ready.fits.curves.same_groups, is.grows.curves.same_groups);
          is_destination = omega (arith, l, network.destinations, is.ready.fits.curves.same_destinations, is.grows.curves.same_destinations);
          is_boundary = omega (arith, most, is.grows.curves.same_slots);
        }) (omega (arith, late, horizon));
        old_kept = λ u v l. elim (cases_lt u s.nodes) [
          | inl x ↦
              of_pair s None (kept_of s new) u v x (omega (arith, l, slots))
              ∙ (kept_then before after edits t g m f e held u v is x l
              ∙ sym (of_pair r None (kept_of r t) u v (omega (arith, x, nodes)) l))
          | inr past ↦ past_pair s None (kept_of s new) u v (inl past) ∙ sym (past_pair r None (kept_of r t) u v (inl (omega (arith, past, nodes))))
        ];
        new_kept = λ u v late most. elim (cases_lt u s.nodes) [
          | inl x ↦
              of_pair s None (kept_of s new) u v x most
              ∙ ap (option_map (with_node_counts s (counts_of g.curves) u v)) (is.unweighs.rows u v ∙ none_kept g.kept u v (is.grows.none_kept u v (omega (arith, x, nodes, is.ready.fits.kept.amounts.nodes)) (omega (arith, late, is.ready.fits.kept.same_slots))))
          | inr past ↦ past_pair s None (kept_of s new) u v (inl past)
        ];
      };
      readers = λ u v x l off.
          is.leads.reads.inputs (counts_of t.curves) u v (omega (arith, l, horizon_is before)) (sym (of_pair r false (is_touched before edits) u v (omega (arith, x, nodes)) l) ∙ off);
      void = λ u v. elim (cases_pairs s u v) [
        | inl in_range ↦ claimed_is s new u v in_range.0 in_range.1 ∙ claim_off new u v (free_then before after edits t g m f e held u v is in_range.0)
        | inr past ↦ claimed_past s new u v past
      ];
      old_active = λ u v l. elim (cases_lt u s.nodes) [
        | inl x ↦
            let late : v < s.slots = omega (arith, l, slots) in
            let node : u < r.nodes = omega (arith, x, nodes) in
            let there : nat_le (horizon_of t) v ≡ false = lt-leb (horizon_of t) v (omega (arith, l, horizon)) in
            let now : is_active e u v ≡ ((is_active t.frontier u v || is_claimed t.frontier u v) || is_touched before edits u v) =
            active_then before after edits t g m f e held u v is x late
            ∙ (ap (λ z. ((is_active t.frontier u v || is_claimed t.frontier u v) || is_touched after edits u v) || z) there
            ∙ (or_false ((is_active t.frontier u v || is_claimed t.frontier u v) || is_touched after edits u v)
            ∙ ap (λ z. (is_active t.frontier u v || is_claimed t.frontier u v) || z) (touched_same before after edits u v is.leads.shape (omega (arith, l, horizon_is before))))) in
            active_is s new u v x late ∙ (now
            ∙ sym (ap (λ z. (z || is_some ((desk_at r t).claimed u v)) || touches before edits u v) (active_is r t u v node l)
            ∙ (ap (λ z. (is_active t.frontier u v || is_some z) || touches before edits u v) (claimed_is r t u v node l)
            ∙ (ap (λ z. (is_active t.frontier u v || z) || touches before edits u v) (some_if (is_claimed t.frontier u v) (claim_row t.claims u))
            ∙ ap (λ z. (is_active t.frontier u v || is_claimed t.frontier u v) || z) (of_pair r false (is_touched before edits) u v node l)))))
        | inr past ↦
            let old_past : (r.nodes ≤ u) ⊎ (r.slots ≤ v) = inl (omega (arith, past, nodes)) in
            active_past s new u v (inl past)
            ∙ sym (ap (λ z. (z || is_some ((desk_at r t).claimed u v)) || touches before edits u v) (active_past r t u v old_past)
            ∙ (ap (λ z. (false || is_some z) || touches before edits u v) (claimed_past r t u v old_past) ∙ past_pair r false (is_touched before edits) u v old_past))
      ];
      new_active = λ u v x late most.
          active_is s new u v x most ∙ (active_then before after edits t g m f e held u v is x most
          ∙ or_right ((is_active t.frontier u v || is_claimed t.frontier u v) || is_touched after edits u v) (nat_le (horizon_of t) v) (le-leb (horizon_of t) v (omega (arith, late, horizon))));
    }

-- no cell is changed that was not
cells_then : (before after : ScenarioData) (edits : List Edit) (t g : Table) (m f e : Frontier) (held : KeptRows) → TakesBatch before after edits t g m f e held → changed_at (setting_of after) (record g { frontier = e; kept = held }) ≡ changed_at (setting_of before) t
unfolding changed_at
cells_then before after edits t g m f e held is =
    let r : Setting = setting_of before in
    let s : Setting = setting_of after in
    let network : SameNetwork r s = one_network before after is.leads.shape in
    let all : groups r ≡ groups s = all_groups r s network in
    fun_ext (λ a. fun_ext (λ k. elim (cases_cells r a k) [
      | inl in_range ↦
          cell_of s (is_changed g.changed) a k (omega (arith, in_range.0, all)) (omega (arith, in_range.1, longer before after is.leads.shape))
          ∙ (is.grows.same_cells a k ∙ sym (cell_of r (is_changed t.changed) a k in_range.0 in_range.1))
      | inr past ↦
          let none : of_cells s (is_changed g.changed) a k ≡ false = elim (cases_cells s a k) [
            | inr beyond ↦ no_cell s (is_changed g.changed) a k beyond
            | inl there ↦
                cell_of s (is_changed g.changed) a k there.0 there.1
                ∙ is.grows.no_cells a k (omega (arith, there.0, all, is.ready.fits.changed.same_groups)) (elim past [
                  | inl group ↦ absurd (omega (arith, group, there.0, all))
                  | inr late ↦ omega (arith, late, is.ready.fits.changed.same_slots)
                ])
          ] in
          none ∙ sym (no_cell r (is_changed t.changed) a k past)
    ]))

fits_then : (before after : ScenarioData) (edits : List Edit) (t g : Table) (m f e : Frontier) (held : KeptRows) → TakesBatch before after edits t g m f e held → FitsTable (setting_of after) (record g { frontier = e; kept = held })
fits_then before after edits t g m f e held is =
    let r : Setting = setting_of before in
    let s : Setting = setting_of after in
    let network : SameNetwork r s = one_network before after is.leads.shape in
    let all : groups r ≡ groups s = all_groups r s network in
    let rows : HasRows s r.slots t.kept = rows_same r s r.slots r.slots t.kept network refl is.ready.fits.kept in
    record {
      curves = record {
        same_groups = is.grows.curves.same_groups ∙ (is.ready.fits.curves.same_groups ∙ all);
        same_destinations = is.grows.curves.same_destinations ∙ (is.ready.fits.curves.same_destinations ∙ network.destinations);
        same_slots = is.grows.curves.same_slots;
      };
      kept = rows_lie s s.slots g.kept held (rows_at s r.slots s.slots t.kept g.kept rows is.grows.kept.places is.grows.kept_slots) is.unweighs.places is.unweighs.slots;
      claims = subst (λ (z : ClaimRows). HasClaims s z) (sym is.grows.claims) (lies_same r s All _ network is.ready.fits.claims);
      frontier = record {
        nodes = is.news.size.nodes ∙ (is.marks.size.nodes ∙ (is.voids.size.nodes ∙ (is.grows.pairs.nodes ∙ (is.ready.fits.frontier.nodes ∙ network.nodes))));
        slots = is.news.size.slots ∙ (is.marks.size.slots ∙ (is.voids.size.slots ∙ is.grows.pair_slots));
      };
      index = record { links = is.grows.lists.links ∙ (is.ready.fits.index.links ∙ network.links); slots = is.grows.list_slots };
      changed = record { same_groups = is.grows.cells.same_groups ∙ (is.ready.fits.changed.same_groups ∙ all); same_slots = is.grows.cells.same_slots };
    }

-- outside the reaches of the edits the weights are those of the setting before
weights_then : (before after : ScenarioData) (edits : List Edit) (t g : Table) (m f e : Frontier) (held : KeptRows) → TakesBatch before after edits t g m f e held → WeightsAreCurrent (setting_of after) held
weights_then before after edits t g m f e held is = λ u v x l on.
    let r : Setting = setting_of before in
    let s : Setting = setting_of after in
    let network : SameNetwork r s = one_network before after is.leads.shape in
    let node : u < r.nodes = omega (arith, x, network.nodes) in
    let in_t : u < nodes_kept t.kept = omega (arith, node, is.ready.fits.kept.amounts.nodes) in
    let in_g : u < nodes_kept g.kept = rw is.grows.kept.places.narrow in_t in
    let still = still_weighed g.kept held (is_touched after edits) u v is.unweighs in_g (omega (arith, l, is.grows.kept_slots)) on in
    let slot : v < r.slots = elim (cases_lt v r.slots) [
      | inl slot ↦ slot
      | inr late ↦
          let on_g : is_weighed g.kept u v ≡ true = still.0 in
          let off : is_weighed g.kept u v ≡ false = is.grows.none_weighed u v in_t (omega (arith, late, is.ready.fits.kept.same_slots)) in
          absurd (cc)
    ] in
    let there : v < slots_kept t.kept = omega (arith, slot, is.ready.fits.kept.same_slots) in
    let time : v < before.setup.slots = omega (arith, slot, horizon_is before) in
    let off : is_touched before edits u v ≡ false = sym (touched_same before after edits u v is.leads.shape time) ∙ still.1 in
    is.unweighs.weights u v
    ∙ (is.grows.kept.weights u v in_t there
    ∙ (is.ready.weights u v node slot (sym (is.grows.kept.weighed u v) ∙ still.0)
    ∙ sym (weights_same r s (counts_of t.curves) u v network (is.leads.reads.inputs (counts_of t.curves) u v time off))))

pub takes_batch : (before after : ScenarioData) (edits : List Edit) (t g : Table) (m f e : Frontier) (held : KeptRows) → TakesBatch before after edits t g m f e held → TakesIn before after edits t (record g { frontier = e; kept = held })
unfolding desk_at
takes_batch before after edits t g m f e held is =
    let r : Setting = setting_of before in
    let s : Setting = setting_of after in
    let new : Table = record g { frontier = e; kept = held } in
    let network : SameNetwork r s = one_network before after is.leads.shape in
    let accepts : Accepts r s (desk_at r t) (touches before edits) (desk_at s new) = accepts_desk before after edits t g m f e held is in
    record {
      ready = record {
        fits = fits_then before after edits t g m f e held is;
        sound = accept_keeps r s (desk_at r t) (touches before edits) (desk_at s new) is.setting network is.ready.sound accepts;
        index = index_stays_current.accept r s (desk_at r t) (desk_at s new) (touches before edits) (place_of t.index) (place_of g.index) is.setting network accepts
            (record {
              stays = λ u v x l i n. same_place t.index g.index (s.in_link u i) v
                  (is.grows.lists.entries (s.in_link u i) v (omega (arith, is.setting.network.in_link_is_link u i x n, is.ready.fits.index.links, network.links)));
              quiet = λ u v i x l n off.
                  let node : u < r.nodes = omega (arith, x, network.nodes) in
                  let ins : r.ins u ≡ s.ins u = ap (λ (z : ℕ → ℕ). z u) network.ins in
                  let link : r.in_link u i ≡ s.in_link u i = ap (λ (z : ℕ → ℕ → ℕ). z u i) network.in_link in
                  subst (λ (z : ℕ). position s (counts_of t.curves) z v ≡ position r (counts_of t.curves) z v) link
                  (is.leads.reads.positions (counts_of t.curves) u v i (omega (arith, l, horizon_is before)) (sym (of_pair r false (is_touched before edits) u v node l) ∙ off) (omega (arith, n, ins)));
            })
            is.ready.index;
        claims = λ u v x l some. absurd (some (accepts.void u v));
        weights = weights_then before after edits t g m f e held is;
      };
      accepts = accepts;
      cells = cells_then before after edits t g m f e held is;
    }
