-- Counts between boundaries.
use Rattle.std.proofs.Common.{◌≡◌, ℕ, zero, suc, ◌+◌, ◌-◌, ◌*◌, ◌/◌, ◌%◌, ◌<◌, ◌≤◌, arith, inl, inr, ap, sym, ◌∙◌}
use Rattle.std.proofs.Math.Nat.{mul-le-mul_left, div-mul-le_self, div-le_of_le-mul}
use Rattle.std.proofs.lemmas.Nat.{le-div, mod_below, div-add-mod', div-mul-add, mod-mul-add}
use Rattle.std.proofs.lemmas.Bool.{cases_lt}
use Rattle.ltm_curve.specs.Counts.{interpolated, Rises}

-- what does not fall at each step does not fall
pub rises_le : (c : ℕ → ℕ) (last : ℕ) → Rises c last → (j k : ℕ) → j ≤ k → k ≤ last → c j ≤ c k
rises_le c last h j zero l m = let e : j ≡ 0 = omega arith in let f : c j ≡ c 0 = ap c e in omega arith
rises_le c last h j (suc k) l m =
    elim (cases_lt k j) [
      | inl past ↦ let e : j ≡ suc k = omega arith in let f : c j ≡ c (suc k) = ap c e in omega arith
      | inr low ↦
          let below : c j ≤ c k = rises_le c last h j k low (omega arith) in
          let e : k + 1 ≡ suc k = omega arith in
          let f : c (k + 1) ≡ c (suc k) = ap c e in omega (arith, h k (omega arith))
    ]

-- a part of a difference
pub part_within : (g r h : ℕ) → r ≤ h → g * r / h ≤ g
part_within g r h l = div-le_of_le-mul h (omega (arith, mul-le-mul_left g l))

pub part_rises : (g r q h : ℕ) → r ≤ q → g * r / h ≤ g * q / h
part_rises g r q h l =
    elim (cases_lt 0 h) [
      | inl pos ↦ le-div (g * r / h) (g * q) h pos (omega (arith, div-mul-le_self (g * r) h, mul-le-mul_left g l))
      | inr none ↦ let z : h ≡ 0 = omega arith in let a : g * r / h ≡ g * r / 0 = ap (λ (y : ℕ). g * r / y) z in let b : g * q / h ≡ g * q / 0 = ap (λ (y : ℕ). g * q / y) z in omega arith
    ]

-- the count at the boundary before, and at the boundary after
pub from_before : (c : ℕ → ℕ) (h x : ℕ) → c (x / h) ≤ interpolated c h x
from_before c h x = omega arith

pub to_after : (c : ℕ → ℕ) (h x : ℕ) → 0 < h → c (x / h) ≤ c (x / h + 1) → interpolated c h x ≤ c (x / h + 1)
to_after c h x pos l = omega (arith, part_within (c (x / h + 1) - c (x / h)) (x % h) h (omega (arith, mod_below x h pos)))

quotient_le : (x y h : ℕ) → 0 < h → x ≤ y → x / h ≤ y / h
quotient_le x y h pos l = le-div (x / h) y h pos (omega (arith, div-mul-le_self x h))

-- it does not fall as time goes on
pub interpolated_rises : (c : ℕ → ℕ) (last h x y : ℕ) → 0 < h → Rises c last → x ≤ y → y ≤ last * h → interpolated c h x ≤ interpolated c h y
interpolated_rises c last h x y pos rise l within =
    let i : ℕ = x / h in
    let k : ℕ = y / h in
    let q : x / h ≤ y / h = quotient_le x y h pos l in
    let top : y / h ≤ last = div-le_of_le-mul h (omega arith) in
    elim (cases_lt (x / h) (y / h)) [
      | inl low ↦ omega (arith, to_after c h x pos (rise (x / h) (omega arith)), rises_le c last rise (x / h + 1) (y / h) (omega arith) top, from_before c h y)
      | inr high ↦
          let e : x / h ≡ y / h = omega arith in
          let r : x % h ≤ y % h = omega (arith, div-add-mod' x h, div-add-mod' y h, ap (λ (z : ℕ). z * h) e) in
          let f : interpolated c h x ≡ c (y / h) + (c (y / h + 1) - c (y / h)) * (x % h) / h = ap (λ (z : ℕ). c z + (c (z + 1) - c z) * (x % h) / h) e in
          omega (arith, part_rises (c (y / h + 1) - c (y / h)) (x % h) (y % h) h r)
    ]

none_of : (g h : ℕ) → g * 0 / h ≡ 0
none_of g h = let e : g * 0 ≡ 0 = omega arith in ap (λ (z : ℕ). z / h) e ∙ (let f : 0 / h ≡ 0 = omega arith in f)

-- at a time that is told by a boundary and a rest
pub interpolated_past : (c : ℕ → ℕ) (h k r : ℕ) → r < h → interpolated c h (k * h + r) ≡ c k + (c (k + 1) - c k) * r / h
interpolated_past c h k r l =
    ap (λ (z : ℕ). c z + (c (z + 1) - c z) * ((k * h + r) % h) / h) (div-mul-add k h r l) ∙ ap (λ (z : ℕ). c k + (c (k + 1) - c k) * z / h) (mod-mul-add k h r l)

-- it is found from the counts before and after
pub interpolated_from : (c : ℕ → ℕ) (h k r before after part : ℕ) → r < h → before ≡ c k → after ≡ c (k + 1) → part ≡ (after - before) * r / h → before + part ≡ interpolated c h (k * h + r)
interpolated_from c h k r before after part l is_before is_after is_part =
    let same : (after - before) * r / h ≡ (c (k + 1) - c k) * r / h = ap (λ (z : ℕ). (z - before) * r / h) is_after ∙ ap (λ (z : ℕ). (c (k + 1) - z) * r / h) is_before in
    ap (λ (z : ℕ). z + part) is_before ∙ ap (λ (z : ℕ). c k + z) (is_part ∙ same) ∙ sym (interpolated_past c h k r l)

-- and with no rest it is that of the boundary
pub interpolated_past_none : (c : ℕ → ℕ) (h k r : ℕ) → r < h → r ≡ 0 → interpolated c h (k * h + r) ≡ c k
interpolated_past_none c h k r l e =
    let f : (c (k + 1) - c k) * r / h ≡ 0 = ap (λ (z : ℕ). (c (k + 1) - c k) * z / h) e ∙ none_of (c (k + 1) - c k) h in
    omega (arith, interpolated_past c h k r l)

-- at a boundary
pub interpolated_at : (c : ℕ → ℕ) (h k : ℕ) → 0 < h → interpolated c h (k * h) ≡ c k
interpolated_at c h k pos =
    let e : k * h ≡ k * h + 0 = omega arith in
    let f : interpolated c h (k * h) ≡ interpolated c h (k * h + 0) = ap (interpolated c h) e in
    omega (arith, interpolated_past c h k 0 pos, none_of (c (k + 1) - c k) h)

-- it reads no boundary after the next
pub interpolated_same : (a b : ℕ → ℕ) (h t x : ℕ) → 0 < h → x ≤ t * h → ((k : ℕ) → k ≤ t → a k ≡ b k) → interpolated a h x ≡ interpolated b h x
interpolated_same a b h t x pos l same =
    let top : x / h ≤ t = div-le_of_le-mul h (omega arith) in
    let first : a (x / h) ≡ b (x / h) = same (x / h) top in
    elim (cases_lt (x / h) t) [
      | inl low ↦
          let second : a (x / h + 1) ≡ b (x / h + 1) = same (x / h + 1) (omega arith) in
          ap (λ (z : ℕ). z + (a (x / h + 1) - z) * (x % h) / h) first ∙ ap (λ (z : ℕ). b (x / h) + (z - b (x / h)) * (x % h) / h) second
      | inr high ↦
          let e : x / h ≡ t = omega arith in
          let r : x % h ≡ 0 = omega (arith, div-add-mod' x h, ap (λ (z : ℕ). z * h) e) in
          let f : (g : ℕ) → g * (x % h) / h ≡ 0 = λ g. ap (λ (z : ℕ). g * z / h) r ∙ none_of g h in
          omega (arith, f (a (x / h + 1) - a (x / h)), f (b (x / h + 1) - b (x / h)))
    ]
