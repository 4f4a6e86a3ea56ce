-- What is read from a loading is that of its setting.
use Rattle.std.proofs.Common.{◌≡◌, ℕ, ◌+◌, ◌-◌, ◌*◌, ◌/◌, ◌%◌, ◌<◌, ◌≤◌, arith, inl, inr, ap, ◌∙◌, subst}
use Rattle.std.proofs.lemmas.Bool.{cases_lt, cases_eq}
use Rattle.ltm_units.specs.Bounds.{most_produced}
use Rattle.ltm_units.specs.Sums.{sum_below}
use Rattle.ltm_units.proofs.Sums.{sum_below-same, sum_below-zero}
use Rattle.ltm_curve.specs.Counts.{Counts, total}
use Rattle.ltm_curve.specs.declared.curves.Curves.{Curves}
use Rattle.ltm_curve.specs.declared.total_curves.TotalCurves.{TotalCurves}
use Rattle.ltm_curve.specs.Table.{groups_of, destinations_of, slots_of, counts_of, total_of}
use Rattle.ltm_curve.specs.TotalCurves.{total_groups, total_slots, total_at, HasTotals, AreNarrow, AreTotalsOf}
use Rattle.ltm_curve.proofs.Lasts.{total_rises}
use Rattle.ltm_loading.specs.Setting.{Setting, IsSetting}
use Rattle.ltm_loading.specs.Groups.{up_of, down_of, dep_of, arr_of, groups}
use Rattle.ltm_loading.specs.Loading.{IsFront, IsLoading}
use Rattle.ltm_loading.specs.LoadingTotals.{HaveTotals}
use Rattle.ltm_loading.specs.Ranges.{TotalsSmall}
use Rattle.ltm_loading.specs.LoadingLaws.{NeverFall}
use Rattle.ltm_loading.specs.Totals.{generated, departed, arrived, entered_link, left_link, on_links}
use Rattle.ltm_flows.specs.declared.loading.Loading.{Loading}
use Rattle.ltm_flows.specs.declared.loading_totals.Totals.{Totals}
use Rattle.ltm_flows.specs.InAll.{AreTotals, AreSums}
use Rattle.ltm_loading.specs.Shaped.{IsShaped}
use Rattle.ltm_flows.specs.Shown.{links_of, nodes_of, curves_of, last_of, ShowsCounts}
use Rattle.ltm_flows.specs.Origins.{produced_in_all}
use Rattle.ltm_flows.specs.Production.{produced_in, all_produced}
use Rattle.ltm_flows.specs.declared.production.Production.{Production}

-- a loading is a front up to each of its boundaries
front_by : (s : Setting) (c : Counts) (k : ℕ) → IsLoading s c → k ≤ s.slots → IsFront s c k
front_by s c k h l = record { empty = h.front.empty; steps = λ u t x y. h.front.steps u t x (omega arith) }

-- the totals of shaped curves are those of their counts
pub shaped_total : (s : Setting) (c : Curves) (g k : ℕ) → IsShaped s c → total_of c g k ≡ total s.destinations (counts_of c g) k
shaped_total s c g k shape = ap (λ (m : ℕ). total m (counts_of c g) k) shape.same_destinations

-- but for what has arrived they fit in 32 bits
pub all_narrow : (s : Setting) (c : Curves) → TotalsSmall → IsSetting s → IsShaped s c → IsLoading s (counts_of c) → AreNarrow c
all_narrow s c law v shape h g k x z =
    let z_in : k ≤ s.slots = omega (arith, shape.same_slots) in
    let few : k * 32000 ≤ 320000000 = omega (arith, v.small.few_slots) in
    let small = law s (counts_of c) v k (front_by s (counts_of c) k h z_in) z_in in
    let P : ℕ → Type 0 = λ i. total s.destinations (counts_of c i) k ≤ 320000000 in
    let here : P g = elim (cases_lt g (2 * s.links)) [
      | inl link ↦ elim (cases_eq (g % 2) 0) [
        | inl even ↦ let at : up_of (g / 2) ≡ g = omega arith in subst P at (omega (arith, (small.0 (g / 2) (omega arith)).0))
        | inr odd ↦ let at : down_of (g / 2) ≡ g = omega arith in subst P at (omega (arith, (small.0 (g / 2) (omega arith)).1))
      ]
      | inr other ↦
          let u : ℕ = g - 2 * s.links in
          let node : u < s.nodes = omega (arith, shape.same_groups) in
          let at : dep_of s u ≡ g = omega arith in
          subst P at (elim (cases_lt 0 (s.outs u)) [
            | inl some ↦ omega (arith, small.1 u node some)
            | inr none ↦ omega (arith, sum_below-zero s.destinations (λ d. counts_of c (dep_of s u) d k) (λ d y. h.no_origin u d k node (omega arith) y z_in))
          ])
    ] in
    omega (arith, shaped_total s c g k shape, here)

-- a table of the totals of a loading has them
pub have_totals : (s : Setting) (c : Curves) (t : TotalCurves) → IsShaped s c → AreTotalsOf t c → HaveTotals s (counts_of c) (total_at t)
have_totals s c t shape are g k x y =
    are.totals g k (omega (arith, shape.same_groups)) (omega (arith, shape.same_slots)) ∙ shaped_total s c g k shape

-- and none of them falls
pub all_rise : (s : Setting) (c : Curves) (t : TotalCurves) → NeverFall → IsSetting s → IsShaped s c → IsLoading s (counts_of c) → AreTotalsOf t c →
    (g k : ℕ) → g < total_groups t → k < total_slots t → total_at t g k ≤ total_at t g (k + 1)
all_rise s c t law v shape h are g k x z =
    let g_in : g < groups_of c = omega (arith, are.shape.same_groups) in
    let k_in : k < slots_of c = omega (arith, are.shape.same_slots) in
    let rise : total_of c g k ≤ total_of c g (k + 1) =
    total_rises (destinations_of c) (counts_of c g) (slots_of c)
    (λ d i y w. law s (counts_of c) v h g d i (omega (arith, g_in, shape.same_groups)) (omega (arith, y, shape.same_destinations)) (omega (arith, w, shape.same_slots))) k k_in in
    omega (arith, rise, are.totals g k g_in (omega arith), are.totals g (k + 1) g_in (omega arith))

-- and none of the totals of a loading does, wherever they stand
pub totals_rise : (s : Setting) (c : Counts) (t : TotalCurves) → NeverFall → IsSetting s → IsLoading s c → HasTotals t (groups s) s.slots → HaveTotals s c (total_at t) →
    (g k : ℕ) → g < total_groups t → k < total_slots t → total_at t g k ≤ total_at t g (k + 1)
totals_rise s c t law v h shape are g k x z =
    let g_in : g < groups s = omega (arith, x, shape.same_groups) in
    let k_in : k < s.slots = omega (arith, z, shape.same_slots) in
    let rise : total s.destinations (c g) k ≤ total s.destinations (c g) (k + 1) =
    total_rises s.destinations (c g) s.slots (λ d i y w. law s c v h g d i g_in y w) k k_in in
    omega (arith, rise, are g k g_in (omega (arith, k_in)), are g (k + 1) g_in (omega (arith, k_in)))

-- a total of a group at the last boundary
at_last : (s : Setting) (v : ℕ) (c : Counts) (l : Loading) → ShowsCounts s v c l → (g : ℕ) → g < groups s → total_at (curves_of l) g (last_of l) ≡ total s.destinations (c g) s.slots
at_last s v c l h g x = ap (λ (k : ℕ). total_at (curves_of l) g k) h.shape.same_slots ∙ h.totals g s.slots x (omega arith)

pub shown_arrived : (s : Setting) (v : ℕ) (c : Counts) (l : Loading) → ShowsCounts s v c l → (k : ℕ) → k ≤ last_of l → total_at (curves_of l) (2 * links_of l + nodes_of l) k ≡ arrived s c k
shown_arrived s v c l h k x =
    let at : 2 * links_of l + nodes_of l ≡ arr_of s = omega (arith, h.links, h.nodes) in
    ap (λ (g : ℕ). total_at (curves_of l) g k) at ∙ h.totals (arr_of s) k (omega arith) (omega (arith, h.shape.same_slots))

pub shown_entered : (s : Setting) (v : ℕ) (c : Counts) (l : Loading) → ShowsCounts s v c l → (i : ℕ) → i < links_of l → total_at (curves_of l) (up_of i) (last_of l) ≡ entered_link s c i s.slots
shown_entered s v c l h i x = at_last s v c l h (up_of i) (omega (arith, h.links))

pub shown_left : (s : Setting) (v : ℕ) (c : Counts) (l : Loading) → ShowsCounts s v c l → (i : ℕ) → i < links_of l → total_at (curves_of l) (down_of i) (last_of l) ≡ left_link s c i s.slots
shown_left s v c l h i x = at_last s v c l h (down_of i) (omega (arith, h.links))

-- where each origin has produced what it produces in a setting, so have all together
pub all_produced_is : (s : Setting) (p : Production) (k : ℕ) → p.nodes ≡ s.nodes → k ≤ p.room → ((n : ℕ) → n < s.nodes → produced_in p n k ≡ produced_in_all s n k) → generated s k ≤ most_produced → all_produced p k ≡ generated s k
all_produced_is s p k nodes within each few =
    let all : sum_below p.nodes (λ n. produced_in p n k) ≡ generated s k =
    (sum_below-same p.nodes (λ n. produced_in p n k) (λ n. produced_in_all s n k) (λ n l. each n (omega (arith, l, nodes))) ∙ ap (λ (z : ℕ). sum_below z (λ n. produced_in_all s n k)) nodes) in
    omega (arith, p.are.adds_up k within, all, few)

-- sums of totals that are those of a setting's counts are its totals
pub sums_are_totals : (s : Setting) (c : Counts) (totals : ℕ → ℕ → ℕ) (links nodes k produced : ℕ) (t : Totals) → links ≡ s.links → nodes ≡ s.nodes → produced ≡ generated s k → ((g : ℕ) → g < groups s → totals g k ≡ total s.destinations (c g) k) →
    AreSums totals links nodes k produced t → AreTotals s c k t
sums_are_totals s c totals links nodes k produced t l n made same sums =
    let on : sum_below links (λ i. totals (up_of i) k - totals (down_of i) k) ≡ on_links s c k =
    sum_below-same links (λ i. totals (up_of i) k - totals (down_of i) k) (λ i. entered_link s c i k - left_link s c i k) (λ i x. omega (arith, same (up_of i) (omega (arith, l)), same (down_of i) (omega (arith, l))))
    ∙ ap (λ (z : ℕ). sum_below z (λ i. entered_link s c i k - left_link s c i k)) l in
    let gone : sum_below nodes (λ u. totals (2 * links + u) k) ≡ departed s c k =
    sum_below-same nodes (λ u. totals (2 * links + u) k) (λ u. total s.destinations (c (dep_of s u)) k)
    (λ u x. let at : 2 * links + u ≡ dep_of s u = omega (arith, l) in ap (λ (g : ℕ). totals g k) at ∙ same (dep_of s u) (omega (arith, n)))
    ∙ ap (λ (z : ℕ). sum_below z (λ u. total s.destinations (c (dep_of s u)) k)) n in
    let at : 2 * links + nodes ≡ arr_of s = omega (arith, l, n) in
    record {
      generated = sums.generated ∙ made;
      arrived = sums.arrived ∙ (ap (λ (g : ℕ). totals g k) at ∙ same (arr_of s) (omega arith));
      on_links = sums.on_links ∙ on;
      waiting = omega (arith, sums.waiting, made, gone);
    }
