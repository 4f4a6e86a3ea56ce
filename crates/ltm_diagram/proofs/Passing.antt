-- How much passes in each slot.
use Rattle.std.proofs.Common.{◌≡◌, ℕ, zero, suc, ◌+◌, ◌-◌, ◌*◌, ◌/◌, ◌%◌, ◌<◌, ◌≤◌, ap, sym, ◌∙◌, ◌⊎◌, inl, inr, arith}
use Rattle.std.proofs.lemmas.Nat.{div-mul-add, div-add-mod', mod_below}
use Rattle.std.proofs.lemmas.Bool.{cases_lt}
use Rattle.std.proofs.Math.Nat.{mul-add-div_right}
use Rattle.ltm_units.specs.Sums.{sum_below}
use Rattle.ltm_diagram.specs.declared.diagram.Limits.{Limits}
use Rattle.ltm_diagram.specs.Passing.{through, capacity_in}

-- the whole thousandths of all slots, and those that what is left over has grown to
parted : (q r w t : ℕ) → 0 < w → (q * w + r) * t / w ≡ q * t + r * t / w
parted q r w t some =
    let split : (q * w + r) * t ≡ q * t * w + r * t = omega arith in
    ap (λ n. n / w) split ∙ mul-add-div_right {m = w} some (q * t) (r * t)

-- one slot more
grown : (r w t : ℕ) → r < w → (r * t) % w + r < w → r * (t + 1) / w ≡ r * t / w
grown r w t small low =
    let split : r * (t + 1) ≡ r * t / w * w + ((r * t) % w + r) = omega (arith, div-add-mod' (r * t) w) in
    ap (λ n. n / w) split ∙ div-mul-add (r * t / w) w ((r * t) % w + r) low

grown_over : (r w t : ℕ) → r < w → w ≤ (r * t) % w + r → r * (t + 1) / w ≡ r * t / w + 1
grown_over r w t small over =
    let split : r * (t + 1) ≡ (r * t / w + 1) * w + ((r * t) % w + r - w) = omega (arith, div-add-mod' (r * t) w, over) in
    ap (λ n. n / w) split ∙ div-mul-add (r * t / w + 1) w ((r * t) % w + r - w) (omega (arith, mod_below (r * t) w (omega arith), over, small))

-- what passes by the end of a slot
pub next_same : (limits : Limits) (t : ℕ) → limits.rest < limits.whole → (limits.rest * t) % limits.whole + limits.rest < limits.whole → through limits (t + 1) ≡ through limits t + limits.capacity
next_same limits t small low =
    omega (arith, parted limits.capacity limits.rest limits.whole t (omega arith), parted limits.capacity limits.rest limits.whole (t + 1) (omega arith), grown limits.rest limits.whole t small low)

pub next_more : (limits : Limits) (t : ℕ) → limits.rest < limits.whole → limits.whole ≤ (limits.rest * t) % limits.whole + limits.rest → through limits (t + 1) ≡ through limits t + (limits.capacity + 1)
next_more limits t small over =
    omega (arith, parted limits.capacity limits.rest limits.whole t (omega arith), parted limits.capacity limits.rest limits.whole (t + 1) (omega arith), grown_over limits.rest limits.whole t small over)

pub same_in : (limits : Limits) (t : ℕ) → limits.rest < limits.whole → (limits.rest * t) % limits.whole + limits.rest < limits.whole → capacity_in limits t ≡ limits.capacity
unfolding capacity_in
same_in limits t small low = omega (arith, next_same limits t small low)

pub more_in : (limits : Limits) (t : ℕ) → limits.rest < limits.whole → limits.whole ≤ (limits.rest * t) % limits.whole + limits.rest → capacity_in limits t ≡ limits.capacity + 1
unfolding capacity_in
more_in limits t small over = omega (arith, next_more limits t small over)

-- nothing left over, nothing carried
pub none_left : (limits : Limits) (t : ℕ) → limits.rest < limits.whole → limits.rest ≡ 0 → capacity_in limits t ≡ limits.capacity
none_left limits t small none =
    same_in limits t small (omega (arith, mod_below (limits.rest * t) limits.whole (omega arith), none))

-- the whole thousandths, or one more, which is one only where something is left over
pub either_in : (limits : Limits) (t : ℕ) → limits.rest < limits.whole → (capacity_in limits t ≡ limits.capacity) ⊎ ((capacity_in limits t ≡ limits.capacity + 1) × (0 < limits.rest))
either_in limits t small =
    elim (cases_lt ((limits.rest * t) % limits.whole + limits.rest) limits.whole) [
      | inl low ↦ inl (same_in limits t small low)
      | inr over ↦ inr (more_in limits t small (omega (arith, over)), omega (arith, mod_below (limits.rest * t) limits.whole (omega arith), over))
    ]

-- all slots up to one pass what the exact capacity lets through
pub all_pass : (limits : Limits) (slots : ℕ) → limits.rest < limits.whole → sum_below slots (capacity_in limits) ≡ through limits slots
unfolding capacity_in
all_pass limits zero small =
    let none : (limits.capacity * limits.whole + limits.rest) * 0 ≡ 0 * limits.whole + 0 = omega arith in
    sym (ap (λ n. n / limits.whole) none ∙ div-mul-add 0 limits.whole 0 (omega (arith, small)))
all_pass limits (suc n) small =
    let before : sum_below n (capacity_in limits) ≡ through limits n = all_pass limits n small in
    let next : n + 1 ≡ suc n = omega arith in
    let at : through limits (n + 1) ≡ through limits (suc n) = ap (through limits) next in
    elim (cases_lt ((limits.rest * n) % limits.whole + limits.rest) limits.whole) [
      | inl low ↦ omega (arith, before, at, next_same limits n small low)
      | inr over ↦ omega (arith, before, at, next_more limits n small (omega (arith, over)))
    ]
