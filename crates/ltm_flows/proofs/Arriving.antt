-- What has arrived is what has left the origins and is on no link.
use Rattle.std.proofs.Common.{◌≡◌, ℕ, ◌+◌, ◌-◌, ◌*◌, ◌<◌, ◌≤◌, arith, inl, inr, refl, ap, ◌∙◌, sym, subst}
use Rattle.std.proofs.lemmas.Bool.{cases_lt}
use Rattle.ltm_units.specs.Sums.{sum_below}
use Rattle.ltm_units.proofs.Sums.{sum_below-same, sum_below-most}
use Rattle.ltm_curve.specs.Counts.{Counts, total}
use Rattle.ltm_curve.specs.Totals.{most_total}
use Rattle.ltm_curve.specs.declared.total_curves.TotalCurves.{TotalCurves}
use Rattle.ltm_curve.specs.TotalCurves.{total_groups, total_slots, total_at, HasTotals, SetsTotal}
use Rattle.ltm_loading.specs.Setting.{Setting, IsSetting}
use Rattle.ltm_loading.specs.Groups.{up_of, down_of, arr_of, groups}
use Rattle.ltm_loading.specs.Loading.{IsFront, IsLoading}
use Rattle.ltm_loading.specs.LoadingLaws.{AddsUp}
use Rattle.ltm_loading.specs.LoadingTotals.{AreLoadingTotals}
use Rattle.ltm_loading.specs.Ranges.{CountsSmall}
use Rattle.ltm_loading.specs.Totals.{departed, arrived, on_links}
use Rattle.ltm_flows.specs.Arrivals.{AreMovedTotals, HasArrivals, gone_through}

-- at the beginning nothing is written
pub arrivals_none : (links nodes : ℕ) (t : TotalCurves) → HasArrivals links nodes 0 t t
arrivals_none links nodes t = record {
  shape = record { same_groups = refl; same_slots = refl };
  here = λ k x. omega (arith, x);
  others = λ g k x y. refl;
}

-- what is gone through is the same where the totals of links and origins are
pub gone_same : (links nodes k : ℕ) (f g : ℕ → ℕ → ℕ) → ((i : ℕ) → i < 2 * links + nodes → f i k ≡ g i k) → gone_through f links nodes k ≡ gone_through g links nodes k
gone_same links nodes k f g same =
    let left : sum_below nodes (λ u. f (2 * links + u) k) ≡ sum_below nodes (λ u. g (2 * links + u) k) =
    sum_below-same nodes (λ u. f (2 * links + u) k) (λ u. g (2 * links + u) k) (λ u x. same (2 * links + u) (omega (arith, x))) in
    let on : sum_below links (λ l. f (up_of l) k - f (down_of l) k) ≡ sum_below links (λ l. g (up_of l) k - g (down_of l) k) =
    sum_below-same links (λ l. f (up_of l) k - f (down_of l) k) (λ l. g (up_of l) k - g (down_of l) k)
    (λ l x. omega (arith, same (up_of l) (omega (arith, x)), same (down_of l) (omega (arith, x)))) in
    omega (arith, left, on)

-- and then that of one boundary more
pub arrivals_next : (links nodes b gone : ℕ) (old now new : TotalCurves) → b ≤ total_slots old → 2 * links + nodes + 1 ≡ total_groups old →
    HasArrivals links nodes b old now → gone ≡ gone_through (total_at now) links nodes b → SetsTotal now new (2 * links + nodes) b gone → HasArrivals links nodes (b + 1) old new
arrivals_next links nodes b gone old now new within many h is sets = record {
  shape = record {
    same_groups = sets.shape.same_groups ∙ h.shape.same_groups;
    same_slots = sets.shape.same_slots ∙ h.shape.same_slots;
  };
  here = λ k x. elim (cases_lt k b) [
    | inl before ↦
        sets.others (2 * links + nodes) k (record { is_group = omega (arith, many, h.shape.same_groups); is_boundary = omega (arith, before, within, h.shape.same_slots) }) (inr (λ e. omega (arith, e, before)))
        ∙ h.here k before
    | inr at ↦
        let same : k ≡ b = omega (arith, at, x) in
        let at_b : total_at new (2 * links + nodes) b ≡ gone_through (total_at old) links nodes b =
        sets.here ∙ (is ∙ gone_same links nodes b (total_at now) (total_at old) (λ i y. h.others i b y within)) in
        subst (λ (j : ℕ). total_at new (2 * links + nodes) j ≡ gone_through (total_at old) links nodes j) (sym same) at_b
  ];
  others = λ g k x y.
      sets.others g k (record { is_group = omega (arith, x, many, h.shape.same_groups); is_boundary = omega (arith, y, h.shape.same_slots) }) (inl (λ e. omega (arith, e, x)))
      ∙ h.others g k x y;
}

-- of the totals of a loading it is what has arrived
pub gone_is_arrived : (s : Setting) (c : Counts) (f : ℕ → ℕ → ℕ) (links nodes k : ℕ) → AddsUp → IsSetting s → IsLoading s c → links ≡ s.links → nodes ≡ s.nodes → k ≤ s.slots →
    ((g : ℕ) → g < arr_of s → f g k ≡ total s.destinations (c g) k) → gone_through f links nodes k ≡ arrived s c k
gone_is_arrived s c f links nodes k law v h l n x sums =
    let same : gone_through f links nodes k ≡ gone_through (λ g j. total s.destinations (c g) j) links nodes k =
    gone_same links nodes k f (λ g j. total s.destinations (c g) j) (λ i y. sums i (omega (arith, y, l, n))) in
    let at : gone_through (λ g j. total s.destinations (c g) j) links nodes k ≡ departed s c k - on_links s c k =
    ap (λ (m : ℕ). gone_through (λ g j. total s.destinations (c g) j) m nodes k) l ∙ ap (λ (m : ℕ). gone_through (λ g j. total s.destinations (c g) j) s.links m k) n in
    omega (arith, same, at, (law s c v h k x).1)

-- and no more than a table holds
pub arrived_small : (s : Setting) (c : Counts) (k : ℕ) → CountsSmall → IsSetting s → IsLoading s c → s.destinations ≤ 2000 → k ≤ s.slots → arrived s c k ≤ most_total
arrived_small s c k law v h few x =
    let front : IsFront s c k = record { empty = h.front.empty; steps = λ u t y z. h.front.steps u t y (omega (arith, z, x)) } in
    let each : (d : ℕ) → d < s.destinations → c (arr_of s) d k ≤ 1600000000 = λ d y. omega (arith, (law s c v k front x d y).1.1, x, v.small.few_slots) in
    let sum : arrived s c k ≤ s.destinations * 1600000000 = sum_below-most s.destinations (λ d. c (arr_of s) d k) 1600000000 each in
    omega (arith, sum, few)

pub moved_small : (s : Setting) (f : ℕ → ℕ → ℕ) (links nodes k : ℕ) → AddsUp → CountsSmall → IsSetting s → AreMovedTotals s f → links ≡ s.links → nodes ≡ s.nodes → s.destinations ≤ 2000 → k ≤ s.slots →
    gone_through f links nodes k ≤ most_total
moved_small s f links nodes k law small v m l n few x =
    let is : gone_through f links nodes k ≡ arrived s m.counts k = gone_is_arrived s m.counts f links nodes k law v m.loading l n x (λ g y. m.sums g k y x) in
    omega (arith, is, arrived_small s m.counts k small v m.loading few x)

-- so the table has the totals of a loading
pub arrivals_are_totals : (s : Setting) (old new : TotalCurves) (links nodes : ℕ) → AddsUp → IsSetting s → HasTotals old (groups s) s.slots → AreMovedTotals s (total_at old) → links ≡ s.links → nodes ≡ s.nodes →
    HasArrivals links nodes (total_slots old + 1) old new → AreLoadingTotals s (total_at new)
arrivals_are_totals s old new links nodes law v shape m l n h = record {
  counts = m.counts;
  loading = m.loading;
  sums = λ g k x y. elim (cases_lt g (arr_of s)) [
    | inl moved ↦ h.others g k (omega (arith, moved, l, n)) (omega (arith, y, shape.same_slots)) ∙ m.sums g k moved y
    | inr last ↦
        let same : g ≡ 2 * links + nodes = omega (arith, last, x, l, n) in
        let is : total_at new (2 * links + nodes) k ≡ arrived s m.counts k =
        h.here k (omega (arith, y, shape.same_slots)) ∙ gone_is_arrived s m.counts (total_at old) links nodes k law v m.loading l n y (λ i z. m.sums i k z y) in
        let at : g ≡ arr_of s = omega (arith, same, l, n) in
        ap (λ (i : ℕ). total_at new i k) same ∙ (is ∙ ap (λ (i : ℕ). total s.destinations (m.counts i) k) (sym at))
  ];
}
