-- What goes to a destination by one out-link or by two.
use Rattle.std.proofs.Common.{◌≡◌, ◌≢◌, ℕ, zero, suc, ◌+◌, ◌-◌, ◌*◌, ◌/◌, ◌^◌, ◌<◌, ◌≤◌, false, List, sum, drop, get_or, length, arith, refl, ap, ◌∙◌, sym, subst}
use Rattle.std.proofs.Math.Nat.{mul-le-mul_right}
use Rattle.std.proofs.lemmas.List.{length-take}
use Rattle.ltm_node.specs.Shape.{is_own, weights_place}
use Rattle.ltm_node.specs.Inputs.{Inputs, sending, weights}
use Rattle.ltm_node.specs.Demands.{part}
use Rattle.ltm_node.specs.Solvable.{IsSolvable}
use Rattle.ltm_node.specs.Splitting.{HasOne, HasTwo}
use Rattle.ltm_node.specs.Moving.{IsMoving, IsSentNothing, Passes}
use Rattle.ltm_node.proofs.Amounts.{nothing_on, nothing_by, next_destination}
use Rattle.ltm_node.proofs.Ranges.{part_is, part_none, sunk_nothing, sunk_elsewhere, weight_of, weight_within}
use Rattle.ltm_node.proofs.Splitting.{split_without, split_one, split_first, split_second, one_alone, two_alone}

-- an out-link with a weight
pub is_out : (n : Inputs) (d out : ℕ) → out < length (weights n d) → out < n.shape.outs
is_out n d out l =
    omega (arith, length-take (weights_place n.shape d + n.shape.outs - weights_place n.shape d) (drop (weights_place n.shape d) n.row))

pub weight_small : (n : Inputs) (d out : ℕ) → IsSolvable n → d < n.shape.destinations → out < n.shape.outs → get_or (weights n d) out 0 ≤ 4294967295
weight_small n d out s dl l = omega (arith, weight_of n d out l, s.weights d out dl l)

pub product_small : (x y : ℕ) → x ≤ 32000 → y ≤ 4294967295 → x * y < 2 ^ 64
product_small x y h small = omega (arith, mul-le-mul_right y h)

-- ---- the parts

pub part_one : (n : Inputs) (i d amount out : ℕ) → is_own n.shape d ≡ false → amount ≡ sending n i d → HasOne (weights n d) out → amount ≡ part n i d out
part_one n i d amount out elsewhere is h = part_is n amount i d out amount elsewhere is (sym (split_one (weights n d) amount out h))

pub part_first : (n : Inputs) (i d amount first second weight whole : ℕ) → is_own n.shape d ≡ false → amount ≡ sending n i d → HasTwo (weights n d) first second →
    weight ≡ get_or (weights n d) first 0 → whole ≡ sum (weights n d) → amount * weight / whole ≡ part n i d first
part_first n i d amount first second weight whole elsewhere is h w t =
    let ws : List ℕ = weights n d in
    part_is n amount i d first (amount * weight / whole) elsewhere is
    (ap (λ z. amount * z / whole) w ∙ (ap (λ z. amount * get_or ws first 0 / z) t ∙ sym (split_first ws amount first second h)))

pub part_second : (n : Inputs) (i d amount first second weight whole : ℕ) → is_own n.shape d ≡ false → amount ≡ sending n i d → HasTwo (weights n d) first second →
    weight ≡ get_or (weights n d) first 0 → whole ≡ sum (weights n d) → amount - amount * weight / whole ≡ part n i d second
part_second n i d amount first second weight whole elsewhere is h w t =
    let ws : List ℕ = weights n d in
    part_is n amount i d second (amount - amount * weight / whole) elsewhere is
    (ap (λ z. amount - amount * z / whole) w ∙ (ap (λ z. amount - amount * get_or ws first 0 / z) t ∙ sym (split_second ws amount first second h)))

-- ---- what sends nothing

part_without : (n : Inputs) (i d j : ℕ) → is_own n.shape d ≡ false → get_or (weights n d) j 0 ≡ 0 → part n i d j ≡ 0
part_without n i d j elsewhere none =
    sym (part_is n (sending n i d) i d j 0 elsewhere refl (sym (split_without (weights n d) (sending n i d) j none)))

pub beside_one : (n : Inputs) (i d out : ℕ) → is_own n.shape d ≡ false → HasOne (weights n d) out →
    (j : ℕ) → j ≢ out → part n i d j ≡ 0
beside_one n i d out elsewhere h j ne = part_without n i d j elsewhere (one_alone (weights n d) out j h ne)

pub beside_two : (n : Inputs) (i d first second : ℕ) → is_own n.shape d ≡ false → HasTwo (weights n d) first second →
    (j : ℕ) → j ≢ first → j ≢ second → part n i d j ≡ 0
beside_two n i d first second elsewhere h j ne ne' = part_without n i d j elsewhere (two_alone (weights n d) first second j h ne ne')

-- an arm that sends nothing
pub unsent_on : (n : Inputs) (e : ℕ) (p : ℕ → ℕ) (stands : ℕ → ℕ → ℕ → Type 0) (b a : ℕ) (row : List ℕ) → IsSolvable n → Passes n stands → IsMoving n e p stands b a 0 row → a < n.shape.arms → b < n.shape.destinations →
    sending n a b ≡ 0 → IsMoving n e p stands b (a + 1) 0 row
unsent_on n e p stands b a row s passes h al bl none =
    nothing_on n e p stands b a row s passes h al bl (sunk_nothing n e p a b none) (λ j. part_none n a b j none)

-- a destination to which no arm sends
idle_by : (n : Inputs) (e : ℕ) (p : ℕ → ℕ) (stands : ℕ → ℕ → ℕ → Type 0) (b a : ℕ) (row : List ℕ) → IsSolvable n → Passes n stands → IsMoving n e p stands b 0 0 row → a ≤ n.shape.arms → b < n.shape.destinations →
    ((i : ℕ) → i < n.shape.arms → sending n i b ≡ 0) → IsMoving n e p stands b a 0 row
idle_by n e p stands b zero row s passes h al bl none = h
idle_by n e p stands b (suc a) row s passes h al bl none =
    let next : a + 1 ≡ suc a = omega arith in
    subst (λ (k : ℕ). IsMoving n e p stands b k 0 row) next (unsent_on n e p stands b a row s passes (idle_by n e p stands b a row s passes h (omega arith) bl none) (omega arith) bl (none a (omega arith)))

pub idle_on : (n : Inputs) (e : ℕ) (p : ℕ → ℕ) (stands : ℕ → ℕ → ℕ → Type 0) (b : ℕ) (row : List ℕ) → IsSolvable n → Passes n stands → IsMoving n e p stands b 0 0 row → b < n.shape.destinations →
    ((i : ℕ) → i < n.shape.arms → sending n i b ≡ 0) → IsMoving n e p stands (b + 1) 0 0 row
idle_on n e p stands b row s passes h bl none = next_destination n e p stands b row s (idle_by n e p stands b n.shape.arms row s passes h (omega arith) bl none)

-- some destinations to which no arm sends
idle_some : (n : Inputs) (e : ℕ) (p : ℕ → ℕ) (stands : ℕ → ℕ → ℕ → Type 0) (b k : ℕ) (row : List ℕ) → IsSolvable n → Passes n stands → IsMoving n e p stands b 0 0 row → b + k ≤ n.shape.destinations →
    IsSentNothing n b (b + k) → IsMoving n e p stands (b + k) 0 0 row
idle_some n e p stands b zero row s passes h bl none =
    let here : b ≡ b + 0 = omega arith in
    subst (λ (z : ℕ). IsMoving n e p stands z 0 0 row) here h
idle_some n e p stands b (suc k) row s passes h bl none =
    let next : b + k + 1 ≡ b + suc k = omega arith in
    subst (λ (z : ℕ). IsMoving n e p stands z 0 0 row) next
    (idle_on n e p stands (b + k) row s passes (idle_some n e p stands b k row s passes h (omega arith) (λ i d l more less. none i d l more (omega arith))) (omega arith)
    (λ i l. none i (b + k) l (omega arith) (omega arith)))

pub idle_to : (n : Inputs) (e : ℕ) (p : ℕ → ℕ) (stands : ℕ → ℕ → ℕ → Type 0) (b to : ℕ) (row : List ℕ) → IsSolvable n → Passes n stands → IsMoving n e p stands b 0 0 row → b ≤ to → to ≤ n.shape.destinations →
    IsSentNothing n b to → IsMoving n e p stands to 0 0 row
idle_to n e p stands b to row s passes h order bl none =
    let whole : b + (to - b) ≡ to = omega arith in
    subst (λ (z : ℕ). IsMoving n e p stands z 0 0 row) whole
    (idle_some n e p stands b (to - b) row s passes h (omega arith) (λ i d l more less. none i d l more (omega arith)))

-- a destination without a weight
pub unweighted_on : (n : Inputs) (e : ℕ) (p : ℕ → ℕ) (stands : ℕ → ℕ → ℕ → Type 0) (b : ℕ) (row : List ℕ) → IsSolvable n → Passes n stands → IsMoving n e p stands b 0 0 row → b < n.shape.destinations →
    is_own n.shape b ≡ false → sum (weights n b) ≡ 0 → IsMoving n e p stands (b + 1) 0 0 row
unweighted_on n e p stands b row s passes h bl elsewhere none =
    next_destination n e p stands b row s
    (nothing_by n e p stands b n.shape.arms row s passes h (omega arith) bl (λ i. sunk_elsewhere n e p i b elsewhere)
    (λ i j. part_without n i b j elsewhere (omega (arith, weight_within (weights n b) j))))
