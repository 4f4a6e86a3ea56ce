-- Totals some time ago.
use Rattle.std.proofs.Common.{◌≡◌, ℕ, zero, suc, ◌+◌, ◌-◌, ◌*◌, ◌/◌, ◌<◌, ◌≤◌, true, false, cond, nat_lt, sym, ap, ◌∙◌, arith}
use Rattle.std.proofs.Math.Nat.{mul-le-mul_right}
use Rattle.std.proofs.lemmas.Bool.Decides.{nat_tests}
use Rattle.ltm_curve.specs.Counts.{interpolated}
use Rattle.ltm_curve.proofs.Interpolation.{interpolated_past, interpolated_past_none, part_within}
use Rattle.ltm_loading.specs.Flows.{earlier}

-- slots that are as long as a step and a rest are one, and two where a rest is left
pub long_enough : (slots step rest : ℕ) → rest < step → step + rest ≤ slots * step → (1 ≤ slots) × (0 < rest → 2 ≤ slots)
long_enough zero step rest below long = absurd (omega arith)
long_enough (suc zero) step rest below long = (omega arith, λ some. absurd (omega arith))
long_enough (suc (suc slots)) step rest below long = (omega arith, λ some. omega arith)

below_is : (a b : ℕ) → a < b → nat_lt a b ≡ true
below_is a b l = grind (arith, nat_tests)

not_below_is : (a b : ℕ) → b ≤ a → nat_lt a b ≡ false
not_below_is a b l = grind (arith, nat_tests)

-- before the start nothing is counted
pub earlier_none : (f : ℕ → ℕ) (step slot slots rest time : ℕ) → slots * step ≡ time + rest → rest < step → slot + 1 < slots → earlier f step slot time ≡ 0
earlier_none f step slot slots rest time whole below before =
    let far : (slot + 1 + 1) * step ≤ slots * step = mul-le-mul_right step (omega (arith, before)) in
    let more : (slot + 1 + 1) * step ≡ (slot + 1) * step + step = omega arith in
    ap (λ b. cond b 0 (interpolated f step ((slot + 1) * step - time))) (below_is ((slot + 1) * step) time (omega (arith, far, more)))

-- from then on it is what is counted a rest past a boundary
pub earlier_at : (f : ℕ → ℕ) (step slot slots rest time : ℕ) → slots * step ≡ time + rest → slots ≤ slot + 1 → earlier f step slot time ≡ interpolated f step ((slot + 1 - slots) * step + rest)
earlier_at f step slot slots rest time whole since =
    let parts : (slot + 1 - slots + slots) * step ≡ (slot + 1 - slots) * step + slots * step = omega arith in
    let all : slot + 1 - slots + slots ≡ slot + 1 = omega arith in
    let end : (slot + 1) * step ≡ (slot + 1 - slots) * step + slots * step = ap (λ (z : ℕ). z * step) (sym all) ∙ parts in
    ap (λ b. cond b 0 (interpolated f step ((slot + 1) * step - time))) (not_below_is ((slot + 1) * step) time (omega (arith, end)))
    ∙ ap (interpolated f step) (omega (arith, end))

-- the same as the code finds it
pub found_past : (f : ℕ → ℕ) (step slot slots rest time boundary left found : ℕ) → slots * step ≡ time + rest → slots ≤ slot + 1 → boundary ≡ slot + 1 - slots → left ≡ rest → found ≡ interpolated f step (boundary * step + left) → found ≡ earlier f step slot time
found_past f step slot slots rest time boundary left found whole since is_boundary is_left is =
    is
    ∙ (ap (λ (z : ℕ). interpolated f step (z * step + left)) is_boundary
    ∙ (ap (λ (z : ℕ). interpolated f step ((slot + 1 - slots) * step + z)) is_left
    ∙ sym (earlier_at f step slot slots rest time whole since)))

-- what the code adds to a boundary's count
pub part_fits : (units rest step : ℕ) → rest < step → units * rest / step ≤ units
part_fits units rest step below = part_within units rest step (omega arith)

pub past_here : (f : ℕ → ℕ) (step boundary rest found : ℕ) → rest < step → rest ≡ 0 → found ≡ f boundary → found ≡ interpolated f step (boundary * step + rest)
past_here f step boundary rest found below none e = e ∙ sym (interpolated_past_none f step boundary rest below none)

pub past_part : (f : ℕ → ℕ) (step boundary rest before after part found : ℕ) → rest < step → before ≡ f boundary → after ≡ f (boundary + 1) → part ≡ (after - before) * rest / step → found ≡ before + part →
    found ≡ interpolated f step (boundary * step + rest)
past_part f step boundary rest before after part found below is_before is_after is_part is =
    is
    ∙ (ap (λ (z : ℕ). before + z) is_part
    ∙ (ap (λ (z : ℕ). z + (after - z) * rest / step) is_before
    ∙ (ap (λ (z : ℕ). f boundary + (z - f boundary) * rest / step) is_after ∙ sym (interpolated_past f step boundary rest below))))
