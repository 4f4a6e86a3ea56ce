-- Totals some time ago.
use Rattle.std.proofs.Common.{◌≡◌, ℕ, ◌+◌, ◌-◌, ◌*◌, ◌<◌, ◌≤◌, cond, nat_lt, arith, inl, inr}
use Rattle.std.proofs.lemmas.Bool.{cases_lt}
use Rattle.std.proofs.lemmas.Bool.Decides.{nat_tests}
use Rattle.ltm_curve.specs.Counts.{interpolated, Rises}
use Rattle.ltm_curve.proofs.Interpolation.{interpolated_rises, interpolated_at, interpolated_same}
use Rattle.ltm_loading.specs.Flows.{earlier}

earlier_none : (c : ℕ → ℕ) (h t delay : ℕ) → (t + 1) * h < delay → earlier c h t delay ≡ 0
earlier_none c h t delay l = grind (arith, nat_tests)

pick_else : (a b x : ℕ) → b ≤ a → cond (nat_lt a b) 0 x ≡ x
pick_else a b x h = grind (arith, nat_tests)

earlier_some : (c : ℕ → ℕ) (h t delay : ℕ) → delay ≤ (t + 1) * h → earlier c h t delay ≡ interpolated c h ((t + 1) * h - delay)
earlier_some c h t delay l = pick_else ((t + 1) * h) delay (interpolated c h ((t + 1) * h - delay)) l

-- a total some time ago is at most that at the slot's start
pub earlier_within : (c : ℕ → ℕ) (h t delay : ℕ) → 0 < h → h ≤ delay → Rises c t → earlier c h t delay ≤ c t
earlier_within c h t delay pos l rise =
    elim (cases_lt ((t + 1) * h) delay) [
      | inl none ↦ omega (arith, earlier_none c h t delay none)
      | inr some ↦ omega (arith, earlier_some c h t delay some, interpolated_rises c t h ((t + 1) * h - delay) (t * h) pos rise (omega arith) (omega arith), interpolated_at c h t pos)
    ]

-- and it does not fall from slot to slot
pub earlier_rises : (c : ℕ → ℕ) (h t delay : ℕ) → 0 < h → h ≤ delay → Rises c (t + 1) → earlier c h t delay ≤ earlier c h (t + 1) delay
earlier_rises c h t delay pos l rise =
    elim (cases_lt ((t + 1) * h) delay) [
      | inl none ↦ omega (arith, earlier_none c h t delay none)
      | inr some ↦
          omega (
            arith,
            earlier_some c h t delay some,
            earlier_some c h (t + 1) delay (omega arith),
            interpolated_rises c (t + 1) h ((t + 1) * h - delay) ((t + 1 + 1) * h - delay) pos rise (omega arith) (omega arith),
          )
    ]

-- it reads no boundary after the slot's start
pub earlier_same : (a b : ℕ → ℕ) (h t delay : ℕ) → 0 < h → h ≤ delay → ((k : ℕ) → k ≤ t → a k ≡ b k) → earlier a h t delay ≡ earlier b h t delay
earlier_same a b h t delay pos l same =
    elim (cases_lt ((t + 1) * h) delay) [
      | inl none ↦ omega (arith, earlier_none a h t delay none, earlier_none b h t delay none)
      | inr some ↦
          let e : interpolated a h ((t + 1) * h - delay) ≡ interpolated b h ((t + 1) * h - delay) = interpolated_same a b h t ((t + 1) * h - delay) pos (omega arith) same in
          omega (arith, earlier_some a h t delay some, earlier_some b h t delay some)
    ]
