-- The last unit of a slot departs no sooner than the slot ends.
use Rattle.std.proofs.Common.{◌≡◌, ℕ, ◌+◌, ◌-◌, ◌*◌, ◌/◌, ◌%◌, ◌<◌, ◌≤◌, ◌&&◌, inl, inr, nat_le, ap, sym, arith, ◌∙◌}
use Rattle.std.proofs.Math.Nat.{mul-le-mul_right}
use Rattle.std.proofs.lemmas.Nat.{le-div, div_below, mod_below}
use Rattle.std.proofs.lemmas.Bool.{cases_lt}
use Rattle.ltm_units.proofs.Sums.{sum_below-le}
use Rattle.ltm_curve.specs.Counts.{Counts, interpolated}
use Rattle.ltm_curve.proofs.Interpolation.{part_within}
use Rattle.ltm_loading.specs.Setting.{Setting, IsSetting}
use Rattle.ltm_loading.specs.Groups.{dep_of}
use Rattle.ltm_loading.specs.Loading.{IsLoading}
use Rattle.ltm_loading.specs.LoadingLaws.{WithinProduced}
use Rattle.ltm_flows.specs.Origins.{produced_in_all, departed_from}
use Rattle.ltm_gap.specs.Leaving.{first_from}
use Rattle.ltm_gap.specs.Within.{earliest_within}
use Rattle.ltm_gap.specs.Earliest.{ways}
use Rattle.ltm_gap.specs.Laws.{SlotsMeet}
use Rattle.ltm_gap.proofs.Firsts.{not_left, not_right, at_most, more, same_first}

-- a part of a difference that is not the whole
part_below : (g r h : ℕ) → 0 < g → r < h → g * r / h < g
part_below g r h some less = div_below (g * r) h g (omega arith) (times g r h some less)
  where
    times : (g r h : ℕ) → 0 < g → r < h → g * r < g * h
    times g r h some less =
        let step : (r + 1) * g ≤ h * g = mul-le-mul_right g (omega arith) in
        let a : (r + 1) * g ≡ g * r + g = omega arith in
        let b : h * g ≡ g * h = omega arith in omega arith

-- within a slot a curve that comes to no more than a number at its end has fewer
few_within : (f : ℕ → ℕ) (h k m top : ℕ) → 0 < h → m / h ≡ k → f k < top → f (k + 1) ≤ top → interpolated f h m < top
few_within f h k m top some at few last =
    let same : interpolated f h m ≡ f k + (f (k + 1) - f k) * (m % h) / h = ap (λ (z : ℕ). f z + (f (z + 1) - f z) * (m % h) / h) at in
    let rest : m % h < h = mod_below m h some in
    elim (cases_lt 0 (f (k + 1) - f k)) [
      | inl rises ↦ let part = part_below (f (k + 1) - f k) (m % h) h rises rest in omega arith
      | inr flat ↦ let part = part_within (f (k + 1) - f k) (m % h) h (omega arith) in omega arith
    ]

in_slot : (k m h : ℕ) → 0 < h → k * h ≤ m → m < (k + 1) * h → m / h ≡ k
in_slot k m h some from to =
    let low : k ≤ m / h = le-div k m h some from in
    let high : m / h < k + 1 = div_below m h (k + 1) some to in
    omega arith

-- so a number that a curve has no sooner than at the end of a slot is found from there as from the slot's beginning
from_either : (f : ℕ → ℕ) (step slots k top : ℕ) → 0 < step → f k < top → f (k + 1) ≤ top → first_from f step slots top (k * step) ≡ first_from f step slots top ((k + 1) * step)
unfolding first_from
from_either f step slots k top some few last =
    same_first (λ m. nat_le (k * step) m && nat_le top (interpolated f step m)) (λ m. nat_le ((k + 1) * step) m && nat_le top (interpolated f step m)) (slots * step + 1) (λ m low.
    elim (cases_lt m ((k + 1) * step)) [
      | inl early ↦
          elim (cases_lt m (k * step)) [
            | inl sooner ↦ not_left (nat_le (k * step) m) (nat_le top (interpolated f step m)) (more (k * step) m sooner)
            | inr here ↦ not_right (nat_le (k * step) m) (nat_le top (interpolated f step m)) (more top (interpolated f step m) (few_within f step k m top some (in_slot k m step some here early) few last))
          ]
          ∙ sym (not_left (nat_le ((k + 1) * step) m) (nat_le top (interpolated f step m)) (more ((k + 1) * step) m early))
      | inr late ↦
          let start : k * step ≤ m = let e : (k + 1) * step ≡ k * step + step = omega arith in omega arith in
          ap (λ b. b && nat_le top (interpolated f step m)) (at_most (k * step) m start ∙ sym (at_most ((k + 1) * step) m late))
    ])

departed_few : WithinProduced → (s : Setting) (c : Counts) → IsSetting s → IsLoading s c → (origin k : ℕ) → origin < s.nodes → k ≤ s.slots → departed_from s c origin k ≤ produced_in_all s origin k
departed_few few s c is loading origin k there within = sum_below-le s.destinations (λ d. c (dep_of s origin) d k) (λ d. s.produced origin d k) (λ d low. few s c is loading origin d k there low within)

pub slots_meet : WithinProduced → SlotsMeet
slots_meet few = λ s c is loading origin slot node there within some.
    ap (λ o. earliest_within (ways s c) origin o s.slots node)
    (let before = departed_few few s c is loading origin slot there (omega arith) in
    let after = departed_few few s c is loading origin (slot + 1) there (omega arith) in
    from_either (departed_from s c origin) s.step s.slots slot (produced_in_all s origin (slot + 1)) is.some_step (omega arith) after)
