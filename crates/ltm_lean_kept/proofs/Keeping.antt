-- What is put into a table at a boundary is what a loading has there.
use Rattle.std.proofs.Common.{◌≡◌, ◌≢◌, ℕ, ◌+◌, ◌-◌, ◌*◌, ◌/◌, ◌%◌, ◌^◌, ◌<◌, ◌≤◌, ◌⊎◌, List, [], ◌∷◌, length, map, slice_index, slice_index_or, arith, inl, inr, refl, ap, ◌∙◌, sym, subst}
use Rattle.std.proofs.lemmas.Bool.{cases_lt, cases_eq}
use Rattle.std.proofs.lemmas.List.{get_or-map}
use Rattle.ltm_units.proofs.Sums.{sum_below-zero}
use Rattle.ltm_curve.specs.Counts.{Counts, total}
use Rattle.ltm_curve.specs.declared.total_curves.TotalCurves.{TotalCurves}
use Rattle.ltm_curve.specs.TotalCurves as curves
use Rattle.ltm_loading.specs.Setting.{Setting, IsSetting}
use Rattle.ltm_loading.specs.Groups.{up_of, down_of, dep_of, groups}
use Rattle.ltm_loading.specs.Loading.{IsLoading}
use Rattle.ltm_loading.specs.Ranges.{TotalsSmall}
use Rattle.ltm_loading.proofs.Front.{earlier_front}
use Rattle.ltm_loading.proofs.Picks.{pick_first, pick_second}
use Rattle.ltm_totals.specs.Totals.{total_at}
use Rattle.ltm_lean.specs.declared.node.LeanNode.{LeanNode}
use Rattle.ltm_lean.specs.declared.tables.Tables.{Tables}
use Rattle.ltm_lean.specs.Nodes.{IsFrozen}
use Rattle.ltm_lean_kept.specs.Kept.{PutsLinks, PutsOrigins, departed_at, KeptBefore, AreNodes, AllStand}

-- at the beginning nothing is put
pub links_none : (x : Tables) (boundary : ℕ) (t : TotalCurves) → PutsLinks x 0 boundary t t
links_none x boundary t = record {
  shape = record { same_groups = refl; same_slots = refl };
  up = λ l y. omega (arith, y);
  down = λ l y. omega (arith, y);
  others = λ g k y z. refl;
}

-- the totals of one link more
pub links_next : (x : Tables) (l boundary : ℕ) (old now mid new : TotalCurves) → 2 * l + 1 < curves.total_groups old → boundary ≤ curves.total_slots old → PutsLinks x l boundary old now
    → curves.SetsTotal now mid (up_of l) boundary (total_at x.entered l boundary) → curves.SetsTotal mid new (down_of l) boundary (total_at x.left l boundary) → PutsLinks x (l + 1) boundary old new
links_next x l boundary old now mid new many slots h up down =
    let is_now : (g k : ℕ) → curves.IsTotal old g k → curves.IsTotal now g k = λ g k y. record { is_group = omega (arith, y.is_group, h.shape.same_groups); is_boundary = omega (arith, y.is_boundary, h.shape.same_slots) } in
    let is_mid : (g k : ℕ) → curves.IsTotal old g k → curves.IsTotal mid g k = λ g k y. record { is_group = omega (arith, y.is_group, h.shape.same_groups, up.shape.same_groups); is_boundary = omega (arith, y.is_boundary, h.shape.same_slots, up.shape.same_slots) } in
    let here : (g : ℕ) → g < 2 * l + 2 → curves.IsTotal old g boundary = λ g y. record { is_group = omega (arith, y, many); is_boundary = slots } in
    record {
      shape = record {
        same_groups = down.shape.same_groups ∙ (up.shape.same_groups ∙ h.shape.same_groups);
        same_slots = down.shape.same_slots ∙ (up.shape.same_slots ∙ h.shape.same_slots);
      };
      up = λ i y. elim (cases_lt i l) [
        | inl before ↦
            down.others (up_of i) boundary (is_mid (up_of i) boundary (here (up_of i) (omega (arith, before)))) (inl (λ e. omega (arith, e, before)))
            ∙ (up.others (up_of i) boundary (is_now (up_of i) boundary (here (up_of i) (omega (arith, before)))) (inl (λ e. omega (arith, e, before))) ∙ h.up i before)
        | inr at ↦
            let same : i ≡ l = omega (arith, at, y) in
            let at_l : curves.total_at new (up_of l) boundary ≡ total_at x.entered l boundary =
            down.others (up_of l) boundary (is_mid (up_of l) boundary (here (up_of l) (omega arith))) (inl (λ e. omega (arith, e))) ∙ up.here in
            subst (λ (j : ℕ). curves.total_at new (up_of j) boundary ≡ total_at x.entered j boundary) (sym same) at_l
      ];
      down = λ i y. elim (cases_lt i l) [
        | inl before ↦
            down.others (down_of i) boundary (is_mid (down_of i) boundary (here (down_of i) (omega (arith, before)))) (inl (λ e. omega (arith, e, before)))
            ∙ (up.others (down_of i) boundary (is_now (down_of i) boundary (here (down_of i) (omega (arith, before)))) (inl (λ e. omega (arith, e, before))) ∙ h.down i before)
        | inr at ↦
            let same : i ≡ l = omega (arith, at, y) in
            subst (λ (j : ℕ). curves.total_at new (down_of j) boundary ≡ total_at x.left j boundary) (sym same) down.here
      ];
      others = λ g k y z.
          let other_up : (g ≢ up_of l) ⊎ (k ≢ boundary) = elim z [ inl past ↦ inl (λ e. omega (arith, e, past)) | inr far ↦ inr far ] in
          let other_down : (g ≢ down_of l) ⊎ (k ≢ boundary) = elim z [ inl past ↦ inl (λ e. omega (arith, e, past)) | inr far ↦ inr far ] in
          let before : (2 * l ≤ g) ⊎ (k ≢ boundary) = elim z [ inl past ↦ inl (omega (arith, past)) | inr far ↦ inr far ] in
          down.others g k (is_mid g k y) other_down ∙ (up.others g k (is_now g k y) other_up ∙ h.others g k y before);
    }

pub origins_none : (nodes : List LeanNode) (links boundary : ℕ) (t : TotalCurves) → PutsOrigins nodes links 0 boundary t t
origins_none nodes links boundary t = record {
  shape = record { same_groups = refl; same_slots = refl };
  here = λ u y. omega (arith, y);
  others = λ g k y z. refl;
}

-- what has left one origin more
pub origins_next : (nodes : List LeanNode) (links u boundary left : ℕ) (old now new : TotalCurves) → 2 * links + u < curves.total_groups old → boundary ≤ curves.total_slots old → left ≡ slice_index (map departed_at nodes) u
    → PutsOrigins nodes links u boundary old now → curves.SetsTotal now new (2 * links + u) boundary left → PutsOrigins nodes links (u + 1) boundary old new
origins_next nodes links u boundary left old now new many slots is h sets =
    let is_now : (g k : ℕ) → curves.IsTotal old g k → curves.IsTotal now g k = λ g k y. record { is_group = omega (arith, y.is_group, h.shape.same_groups); is_boundary = omega (arith, y.is_boundary, h.shape.same_slots) } in
    record {
      shape = record { same_groups = sets.shape.same_groups ∙ h.shape.same_groups; same_slots = sets.shape.same_slots ∙ h.shape.same_slots };
      here = λ i y. elim (cases_lt i u) [
        | inl before ↦
            sets.others (2 * links + i) boundary (is_now (2 * links + i) boundary (record { is_group = omega (arith, before, many); is_boundary = slots })) (inl (λ e. omega (arith, e, before)))
            ∙ h.here i before
        | inr at ↦
            let same : i ≡ u = omega (arith, at, y) in
            subst (λ (j : ℕ). curves.total_at new (2 * links + j) boundary ≡ slice_index (map departed_at nodes) j) (sym same) (sets.here ∙ is)
      ];
      others = λ g k y z.
          let other : (g ≢ 2 * links + u) ⊎ (k ≢ boundary) = elim z [ inl out ↦ inl (λ e. out u (omega arith) (sym e)) | inr far ↦ inr far ] in
          let before : ((i : ℕ) → i < u → 2 * links + i ≢ g) ⊎ (k ≢ boundary) = elim z [ inl out ↦ inl (λ i l. out i (omega (arith, l))) | inr far ↦ inr far ] in
          sets.others g k (is_now g k y) other ∙ h.others g k y before;
    }

-- a number of an element of a list, told whichever element stands for those that are not there
some_at : {A : Type 0} (f : A → ℕ) (xs : List A) (u n : ℕ) → u < length xs → ((d : A) → f (slice_index_or xs u d) ≡ n) → slice_index (map f xs) u ≡ n
some_at f [] u n l h = absurd (omega (arith, l))
some_at f (x ∷ xs) u n l h = get_or-map f (x ∷ xs) u x 0 l ∙ h x

-- what has left an origin is that of a loading
pub departed_is : (s : Setting) (c : Counts) (x : Tables) (nodes : List LeanNode) (before b u : ℕ) → IsSetting s → IsLoading s c → AreNodes s x nodes → AllStand s c x before b nodes → b ≤ s.slots → u < s.nodes →
    slice_index (map departed_at nodes) u ≡ total s.destinations (c (dep_of s u)) b
departed_is s c x nodes before b u v h are left within there =
    some_at departed_at nodes u (total s.destinations (c (dep_of s u)) b) (omega (arith, are.count, there))
    (λ d.
    let n : LeanNode = slice_index_or nodes u d in
    let number : n.node.0 ≡ u = are.number u d there in
    let count : length n.outs.items ≡ s.outs u = (are.each u d there).outgoing.count ∙ ap s.outs number in
    elim (cases_lt 0 (s.outs u)) [
      | inl some ↦
          let is : departed_at n ≡ n.left = pick_first 0 (length n.outs.items) n.left 0 (omega (arith, some, count)) in
          let has : n.left ≡ total s.destinations (c (dep_of s n.node.0)) b = ((left u d there).origin (omega (arith, some, ap s.outs number))).all in
          is ∙ (has ∙ ap (λ (i : ℕ). total s.destinations (c (dep_of s i)) b) number)
      | inr none ↦
          let is : departed_at n ≡ 0 = pick_second 0 (length n.outs.items) n.left 0 (omega (arith, none, count)) in
          is ∙ sym (sum_below-zero s.destinations (λ e. c (dep_of s u) e b) (λ e y. h.no_origin u e b there (omega (arith, none)) y within))
    ])

pub departed_small : (s : Setting) (c : Counts) (x : Tables) (nodes : List LeanNode) (before b u : ℕ) → TotalsSmall → IsSetting s → IsLoading s c → AreNodes s x nodes → AllStand s c x before b nodes → b ≤ s.slots → u < s.nodes →
    slice_index (map departed_at nodes) u < 2 ^ 32
departed_small s c x nodes before b u law v h are left within there =
    let is = departed_is s c x nodes before b u v h are left within there in
    elim (cases_lt 0 (s.outs u)) [
      | inl some ↦ omega (arith, is, (law s c v b (earlier_front s c s.slots b h.front within) within).1 u there some, within, v.small.few_slots)
      | inr none ↦ omega (arith, is, sum_below-zero s.destinations (λ e. c (dep_of s u) e b) (λ e y. h.no_origin u e b there (omega (arith, none)) y within))
    ]

-- so a table has the totals of one boundary more
pub kept_next : (s : Setting) (c : Counts) (x : Tables) (nodes : List LeanNode) (before b : ℕ) (old mid new : TotalCurves) → IsSetting s → IsLoading s c → b ≤ s.slots → AreNodes s x nodes → IsFrozen s c b x → AllStand s c x before b nodes →
    curves.HasTotals old (groups s) s.slots → PutsLinks x s.links b old mid → PutsOrigins nodes s.links s.nodes b mid new → KeptBefore s c b old → KeptBefore s c (b + 1) new
kept_next s c x nodes before b old mid new v h within are frozen left shape links origins kept g k y z w =
    let there : curves.IsTotal old g k = record { is_group = omega (arith, y, shape.same_groups); is_boundary = omega (arith, w, shape.same_slots) } in
    let mid_there : curves.IsTotal mid g k = record { is_group = omega (arith, y, shape.same_groups, links.shape.same_groups); is_boundary = omega (arith, w, shape.same_slots, links.shape.same_slots) } in
    elim (cases_lt k b) [
      | inl past ↦ origins.others g k mid_there (inr (λ e. omega (arith, e, past))) ∙ (links.others g k there (inr (λ e. omega (arith, e, past))) ∙ kept g k y past w)
      | inr now ↦
          let same : k ≡ b = omega (arith, now, z) in
          let P : ℕ → Type 0 = λ i. curves.total_at new i b ≡ total s.destinations (c i) b in
          let mid_at : curves.IsTotal mid g b = record { is_group = mid_there.is_group; is_boundary = omega (arith, within, shape.same_slots, links.shape.same_slots) } in
          let here : P g = elim (cases_lt g (2 * s.links)) [
            | inl link ↦
                let kept_mid : curves.total_at new g b ≡ curves.total_at mid g b = origins.others g b mid_at (inl (λ u l e. omega (arith, e, link))) in
                elim (cases_eq (g % 2) 0) [
                  | inl even ↦
                      let at : up_of (g / 2) ≡ g = omega (arith, even) in
                      let l_in : g / 2 < s.links = omega (arith, link) in
                      kept_mid ∙ (ap (λ (i : ℕ). curves.total_at mid i b) (sym at) ∙ (links.up (g / 2) l_in ∙ (frozen.up (g / 2) b l_in (omega arith) ∙ ap (λ (i : ℕ). total s.destinations (c i) b) at)))
                  | inr odd ↦
                      let at : down_of (g / 2) ≡ g = omega (arith, odd) in
                      let l_in : g / 2 < s.links = omega (arith, link) in
                      kept_mid ∙ (ap (λ (i : ℕ). curves.total_at mid i b) (sym at) ∙ (links.down (g / 2) l_in ∙ (frozen.down (g / 2) b l_in (omega arith) ∙ ap (λ (i : ℕ). total s.destinations (c i) b) at)))
                ]
            | inr other ↦
                let u : ℕ = g - 2 * s.links in
                let u_in : u < s.nodes = omega (arith, y, other) in
                let at : dep_of s u ≡ g = omega (arith, other) in
                subst P at (origins.here u u_in ∙ departed_is s c x nodes before b u v h are left within u_in)
          ] in
          subst (λ (j : ℕ). curves.total_at new g j ≡ total s.destinations (c g) j) (sym same) here
    ]
