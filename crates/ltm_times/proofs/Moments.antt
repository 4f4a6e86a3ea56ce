-- The first moment at which a curve has so many units.
use Rattle.std.proofs.Common.{◌≡◌, ℕ, ◌+◌, ◌-◌, ◌*◌, ◌/◌, ◌<◌, ◌≤◌, arith, inl, inr, ap, subst, sym, ◌∙◌, true, false, Some, None, nat_le}
use Rattle.std.proofs.Math.Nat.{mul-le-mul_right}
use Rattle.std.proofs.lemmas.Bool.{cases_lt}
use Rattle.std.proofs.lemmas.Bool.Decides.{nat_tests}
use Rattle.ltm_units.proofs.BadBytes.{first_is}
use Rattle.ltm_curve.specs.Counts.{interpolated, Rises}
use Rattle.ltm_curve.proofs.Interpolation.{interpolated_past, interpolated_at, interpolated_rises}
use Rattle.ltm_times.specs.Moments.{first_moment}
use Rattle.ltm_times.proofs.Least.{none_passes}

is_enough : (a b : ℕ) → a ≤ b → nat_le a b ≡ true
is_enough a b l = grind (arith, nat_tests)

is_less : (a b : ℕ) → b < a → nat_le a b ≡ false
is_less a b l = grind (arith, nat_tests)

-- a curve that never has so many units has no such moment
pub no_moment : (c : ℕ → ℕ) (last step count : ℕ) → 0 < step → Rises c last → c last < count → first_moment c step last count ≡ None
unfolding first_moment
no_moment c last step count pos rise few =
    none_passes (λ time. nat_le count (interpolated c step time)) (last * step + 1)
    (λ time l. is_less count (interpolated c step time) (omega (arith, interpolated_rises c last step time (last * step) pos rise (omega arith) (omega arith), interpolated_at c step last pos)))

-- a moment at which there are so many, and before which there are not
is_moment : (c : ℕ → ℕ) (last step count x : ℕ) → x ≤ last * step → count ≤ interpolated c step x → ((y : ℕ) → y < x → interpolated c step y < count) → first_moment c step last count ≡ Some x
unfolding first_moment
is_moment c last step count x within here before =
    first_is (λ time. nat_le count (interpolated c step time)) (last * step + 1) x (record {
      below = omega arith;
      holds = is_enough count (interpolated c step x) here;
      before = λ y l. is_less count (interpolated c step y) (before y l);
    })

-- at the start
pub moment_at_start : (c : ℕ → ℕ) (last step count : ℕ) → 0 < step → count ≤ c 0 → first_moment c step last count ≡ Some 0
moment_at_start c last step count pos here =
    is_moment c last step count 0 (omega arith)
    (let none : 0 * step ≡ 0 = omega arith in
    let at : interpolated c step 0 ≡ c 0 = ap (interpolated c step) (sym none) ∙ interpolated_at c step 0 pos in
    omega arith)
    (λ y l. absurd (omega arith))

-- how long after a boundary a curve that rises from one count to another in a step has so many units
pub record IsWait (from to count step wait : ℕ) : Type 0 where
  pub some : 1 ≤ wait
  pub within : wait ≤ step
  pub reached : count ≤ from + (to - from) * wait / step
  pub before : (r : ℕ) → r < wait → from + (to - from) * r / step < count

in_slot : (c : ℕ → ℕ) (last step count k wait : ℕ) → 0 < step → Rises c last → k < last → c k < count → count ≤ c (k + 1) → IsWait (c k) (c (k + 1)) count step wait →
    first_moment c step last count ≡ Some (k * step + wait)
in_slot c last step count k wait pos rise l few has w =
    let room : (k + 1) * step ≤ last * step = mul-le-mul_right step (omega arith) in
    is_moment c last step count (k * step + wait) (omega (arith, w.within))
    (elim (cases_lt wait step) [
      | inl inside ↦ omega (arith, interpolated_past c step k wait inside, w.reached)
      | inr whole ↦
          let e : k * step + wait ≡ (k + 1) * step = omega (arith, w.within) in
          let f : interpolated c step (k * step + wait) ≡ interpolated c step ((k + 1) * step) = ap (interpolated c step) e in
          omega (arith, interpolated_at c step (k + 1) pos)
    ])
    (λ y m.
    elim (cases_lt y (k * step)) [
      | inl early ↦ omega (arith, interpolated_rises c last step y (k * step) pos rise (omega arith) (omega arith), interpolated_at c step k pos)
      | inr late ↦
          let e : k * step + (y - k * step) ≡ y = omega arith in
          let f : interpolated c step (k * step + (y - k * step)) ≡ interpolated c step y = ap (interpolated c step) e in
          let g : y - k * step < wait = omega arith in
          omega (arith, interpolated_past c step k (y - k * step) (omega (arith, w.within)), w.before (y - k * step) g)
    ])

-- in the slot before the first boundary by which there are so many
pub moment_in_slot : (c : ℕ → ℕ) (last step count k next from to wait : ℕ) → 0 < step → Rises c last → k + 1 ≡ next → next ≤ last →
    from ≡ c k → to ≡ c next → from < count → count ≤ to → IsWait from to count step wait → first_moment c step last count ≡ Some (k * step + wait)
moment_in_slot c last step count k next from to wait pos rise at within is_from is_to few has w =
    let is_next : to ≡ c (k + 1) = is_to ∙ ap c (sym at) in
    in_slot c last step count k wait pos rise (omega arith) (omega arith) (omega arith)
    (subst (λ (z : ℕ). IsWait (c k) z count step wait) is_next (subst (λ (z : ℕ). IsWait z to count step wait) is_from w))
