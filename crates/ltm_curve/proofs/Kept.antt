-- What is kept of the totals of curves.
use Rattle.std.proofs.Common.{◌≡◌, ℕ, ◌+◌, ◌-◌, ◌*◌, ◌^◌, ◌<◌, ◌≤◌, List, take, drop, slice_index, arith, refl, ap, sym, ◌∙◌}
use Rattle.std.proofs.Math.Nat.{mul-le-mul_right}
use Rattle.ltm_units.proofs.Sums.{sum_below-same, sum_below-most}
use Rattle.ltm_curve.specs.declared.curves.Curves.{Curves}
use Rattle.ltm_curve.specs.Table.{destinations_of, place, counts_of, total_of}
use Rattle.ltm_curve.specs.Totals.{row_sum, capped}
use Rattle.ltm_curve.proofs.Lists.{part_at}
use Rattle.ltm_curve.proofs.Places.{rows_within}

-- a total that fits in 32 bits is kept as it is
pub capped_small : (total : ℕ) → total < 2 ^ 32 → capped total ≡ total
capped_small total l = omega (arith, l)

-- what is kept of a total grows with it
pub capped_grows : (total more : ℕ) → capped (capped total + more) ≡ capped (total + more)
capped_grows total more = omega arith

-- where there are three destinations or more
pub kept_is : (c : Curves) (g k row : ℕ) → 3 ≤ destinations_of c → row ≡ k * c.groups + g → row < (c.slots + 1) * c.groups → slice_index c.totals.items row ≡ capped (total_of c g k)
unfolding counts_of
kept_is c g k row several is l = c.sums several row l ∙ ap (λ (r : ℕ). capped (row_sum c.counts.items c.destinations r)) is

-- what is kept of all groups at a boundary, as part of its table
pub kept_at : (c : Curves) (k g : ℕ) (xs : List ℕ) → xs ≡ c.totals.items → 3 ≤ destinations_of c → k ≤ c.slots → g < c.groups →
    slice_index (take (k * c.groups + c.groups - k * c.groups) (drop (k * c.groups) xs)) g ≡ capped (total_of c g k)
kept_at c k g xs same several slot l =
    part_at xs (k * c.groups) c.groups g l
    ∙ (ap (λ (ys : List ℕ). slice_index ys (k * c.groups + g)) same ∙ kept_is c g k (k * c.groups + g) several refl (omega (arith, rows_within k c.slots c.groups slot)))

-- where there are one or two destinations, or none, the counts of all groups at a boundary tell the totals
few_small : (c : Curves) (g k : ℕ) → destinations_of c < 3 → total_of c g k < 2 ^ 32
unfolding counts_of
few_small c g k few = omega (arith, few, sum_below-most c.destinations (λ d. counts_of c g d k) (2 ^ 31 - 1) (λ d l. omega (arith, c.small (place c g d k))))

pub counts_at : (c : Curves) (k g : ℕ) (xs : List ℕ) → xs ≡ c.counts.items → destinations_of c < 3 → g < c.groups →
    row_sum (take ((k * c.groups + c.groups) * c.destinations - k * c.groups * c.destinations) (drop (k * c.groups * c.destinations) xs)) c.destinations g ≡ capped (total_of c g k)
unfolding counts_of
counts_at c k g xs same few l =
    let a : ℕ = k * c.groups * c.destinations in
    let n : ℕ = c.groups * c.destinations in
    let part : List ℕ = take ((k * c.groups + c.groups) * c.destinations - a) (drop a xs) in
    let each : (d : ℕ) → d < c.destinations → slice_index part (g * c.destinations + d) ≡ counts_of c g d k = λ d m.
    let long : (k * c.groups + c.groups) * c.destinations - a ≡ a + n - a = omega arith in
    let rows : (g + 1) * c.destinations ≤ c.groups * c.destinations = mul-le-mul_right c.destinations (omega arith) in
    let at : a + (g * c.destinations + d) ≡ place c g d k = omega arith in
    ap (λ (z : ℕ). slice_index (take z (drop a xs)) (g * c.destinations + d)) long
    ∙ (part_at xs a n (g * c.destinations + d) (omega arith) ∙ (ap (λ (ys : List ℕ). slice_index ys (a + (g * c.destinations + d))) same ∙ ap (slice_index c.counts.items) at)) in
    sum_below-same c.destinations (λ d. slice_index part (g * c.destinations + d)) (λ d. counts_of c g d k) each ∙ sym (capped_small (total_of c g k) (few_small c g k few))
