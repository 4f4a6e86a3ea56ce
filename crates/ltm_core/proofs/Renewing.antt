-- What is renewed edit by edit.
use Rattle.std.proofs.Common.{◌≡◌, ◌≢◌, ℕ, ◌<◌, ◌≤◌, ◌⊎◌, ◌&&◌, ◌||◌, ◌==◌, nat_lt, Bool, true, false, List, Option, Some, arith, inl, inr, refl, ap, sym, ◌∙◌}
use Rattle.std.specs.Option.{option_map_or}
use Rattle.std.proofs.lemmas.Bool.{cases_lt, eq-eqb, lt-ltb}
use Rattle.ltm_scenario.specs.Network.{NetworkData, find_node}
use Rattle.ltm_loading.specs.Setting.{Setting}
use Rattle.ltm_flows.specs.declared.loading.Loading.{Loading}
use Rattle.ltm_flows.specs.Shown.{nodes_of, last_of, SameButProduction, Fits, AgreesOutside}
use Rattle.ltm_curve.specs.TotalCurves.{total_groups, total_slots, total_at}
use Rattle.ltm_curve.specs.declared.curves.Curves.{Curves}
use Rattle.ltm_curve.specs.declared.changed.Changed.{Changed}
use Rattle.ltm_curve.specs.declared.total_curves.TotalCurves.{TotalCurves}
use Rattle.ltm_core.specs.Producing.{demand_changes, Renews}

-- ---- one after another
same_but : (a b c : Loading) → SameButProduction a b → SameButProduction b c → SameButProduction a c
same_but a b c one two = record {
  version = two.version ∙ one.version;
  step = two.step ∙ one.step;
  links = two.links ∙ one.links;
  nodes = two.nodes ∙ one.nodes;
  curves = two.curves ∙ one.curves;
  free = two.free ∙ one.free;
  room = two.room ∙ one.room;
}

pub last_same : (a b : Loading) → SameButProduction a b → last_of b ≡ last_of a
last_same a b same = ap (λ (c : TotalCurves). total_slots c) same.curves

either : (a b : Bool) → (a || b) ≡ true → b ≡ false → a ≡ true
either true b is off = refl
either false true is off = cc
either false false is off = cc

pub neither : (a b : Bool) → (a || b) ≡ false → (a ≡ false) × (b ≡ false)
neither true b off = cc
neither false true off = cc
neither false false off = (refl, refl)

pub true_or_false : (b : Bool) → (b ≡ true) ⊎ (b ≡ false)
true_or_false true = inl refl
true_or_false false = inr refl

pub renews_more : (s : Setting) (f g h : ℕ → ℕ → Bool) (old mid new : Loading) → ((n k : ℕ) → h n k ≡ (f n k || g n k)) → Renews s f old mid → Renews s g mid new → Renews s h old new
renews_more s f g h old mid new both first next =
    let nodes : (n : ℕ) → n < nodes_of old → n < nodes_of mid = λ n x. omega (arith, x, first.same.nodes) in
    let last : (k : ℕ) → k ≤ last_of old → k ≤ last_of mid = λ k y. omega (arith, y, last_same old mid first.same) in
    record {
      same = same_but old mid new first.same next.same;
      renewed = λ n k x y is.
          elim (true_or_false (g n k)) [
            | inl again ↦ next.renewed n k (nodes n x) (last k y) again
            | inr off ↦ next.others n k (nodes n x) (last k y) off ∙ first.renewed n k x y (either (f n k) (g n k) (sym (both n k) ∙ is) off)
          ];
      others = λ n k x y off.
          let parts = neither (f n k) (g n k) (sym (both n k) ∙ off) in next.others n k (nodes n x) (last k y) parts.1 ∙ first.others n k x y parts.0;
    }

-- ---- the demand of an origin
both_true : (a b : Bool) → (a && b) ≡ true → (a ≡ true) × (b ≡ true)
both_true true true is = (refl, refl)
both_true true false is = cc
both_true false b is = cc

both_false : (a b : Bool) → (a && b) ≡ false → (a ≡ false) ⊎ (b ≡ false)
both_false true b off = inr off
both_false false b off = inl refl

pub is_not_of : (node n behind k : ℕ) → ((node == n) && nat_lt behind k) ≡ false → (n ≢ node) ⊎ (k ≤ behind)
is_not_of node n behind k off =
    elim (both_false (node == n) (nat_lt behind k) off) [
      | inl other ↦ inl (λ e. let on : (node == n) ≡ true = eq-eqb node n (sym e) in cc)
      | inr early ↦ elim (cases_lt behind k) [ inl l ↦ (let on : nat_lt behind k ≡ true = lt-ltb behind k l in cc) | inr l ↦ inr l ]
    ]

pub demand_told : (network : NetworkData) (origin : List ℕ) (node behind n k : ℕ) → find_node network origin ≡ Some node → demand_changes network origin behind n k ≡ ((node == n) && nat_lt behind k)
demand_told network origin node behind n k found = ap (λ (f : Option ℕ). option_map_or (λ u. (u == n) && nat_lt behind k) f false) found

-- ---- what stays but for production
pub fits_same : (s : Setting) (old new : Loading) → SameButProduction old new → Fits s old → Fits s new
fits_same s old new same fits = record {
  groups = ap (λ (c : TotalCurves). total_groups c) same.curves ∙ fits.groups;
  slots = omega (arith, last_same old new same, fits.slots);
  room = omega (arith, same.room, fits.room);
  links = same.links ∙ fits.links;
  nodes = same.nodes ∙ fits.nodes;
}

pub agrees_same : (c : Curves) (x : Changed) (old new : Loading) → SameButProduction old new → AgreesOutside old c x → AgreesOutside new c x
agrees_same c x old new same agrees = record {
  agree = λ g k l low off. ap (λ (t : TotalCurves). total_at t g k) same.curves ∙ agrees.agree g k l (omega (arith, low, last_same old new same)) off;
  beyond = λ g k l high late off. agrees.beyond g k l high (omega (arith, late, last_same old new same)) off;
}
