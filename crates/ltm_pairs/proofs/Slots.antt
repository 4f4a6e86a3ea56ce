-- Which slots read a boundary some time later, in whole slots.
use Rattle.std.proofs.Common.{◌≡◌, ℕ, ◌+◌, ◌-◌, ◌*◌, ◌<◌, ◌≤◌, ◌==◌, ◌&&◌, Bool, nat_le, nat_lt, min, arith, inl, inr, refl, ap, ◌∙◌}
use Rattle.std.proofs.lemmas.Bool.{cases_lt, eq-eqb}
use Rattle.std.proofs.lemmas.Bool.Decides.{nat_tests}
use Rattle.std.proofs.Math.Nat.{mul-le-mul_right}
use Rattle.ltm_pairs.specs.Windows.{reads_ago}

-- two tests that say the same
same_test : (a b p q : ℕ) → (a ≤ b → p < q) → (b < a → q ≤ p) → nat_le a b ≡ nat_lt p q
same_test a b p q holds fails = elim (cases_lt b a) [
  | inl low ↦ let h : q ≤ p = fails low in grind (arith, nat_tests)
  | inr high ↦ let h : p < q = holds high in grind (arith, nat_tests)
]

same_test_below : (a b p q : ℕ) → (a < b → p < q) → (b ≤ a → q ≤ p) → nat_lt a b ≡ nat_lt p q
same_test_below a b p q holds fails = elim (cases_lt a b) [
  | inl low ↦ let h : p < q = holds low in grind (arith, nat_tests)
  | inr high ↦ let h : q ≤ p = fails high in grind (arith, nat_tests)
]

-- so many whole slots are at least one, and at least two where they are longer than the time
some_slots : (step time rest S : ℕ) → S * step ≡ time + rest → rest < step → step ≤ time → 1 ≤ S
some_slots step time rest S is less slow = elim (cases_lt S 1) [
  | inl none ↦ let e : S ≡ 0 = omega arith in let f : S * step ≡ 0 * step = ap (λ z. z * step) e in absurd (omega (f, is, less, slow, arith))
  | inr some ↦ some
]

two_slots : (step time rest S : ℕ) → S * step ≡ time + rest → 0 < rest → rest < step → step ≤ time → 2 ≤ S
two_slots step time rest S is over less slow = elim (cases_lt S 2) [
  | inl few ↦ let l : S * step ≤ 1 * step = mul-le-mul_right step (let m : S ≤ 1 = omega arith in m) in absurd (omega (l, is, over, slow, arith))
  | inr some ↦ some
]

-- so many of the slots may read the boundary
pub record IsWidth (rest width : ℕ) : Type 0 where
  pub whole : rest ≡ 0 → width ≡ 1
  pub broken : 0 < rest → width ≡ 2

from_whole : (step time S k v : ℕ) → S * step ≡ time → 0 < step → 1 ≤ S → nat_le (k + (S - 1)) v ≡ nat_lt (k * step + time) ((v + 2) * step)
from_whole step time S k v is some one =
    same_test (k + (S - 1)) v (k * step + time) ((v + 2) * step)
    (λ h. let l : (k + S + 1) * step ≤ (v + 2) * step = mul-le-mul_right step (let m : k + S + 1 ≤ v + 2 = omega arith in m) in omega (l, is, some, arith))
    (λ h. let l : (v + 2) * step ≤ (k + S) * step = mul-le-mul_right step (let m : v + 2 ≤ k + S = omega arith in m) in omega (l, is, arith))

from_broken : (step time rest S k v : ℕ) → S * step ≡ time + rest → 0 < rest → rest < step → 2 ≤ S → nat_le (k + (S - 2)) v ≡ nat_lt (k * step + time) ((v + 2) * step)
from_broken step time rest S k v is over less two =
    same_test (k + (S - 2)) v (k * step + time) ((v + 2) * step)
    (λ h. let l : (k + S) * step ≤ (v + 2) * step = mul-le-mul_right step (let m : k + S ≤ v + 2 = omega arith in m) in omega (l, is, over, arith))
    (λ h. let l : (v + 3) * step ≤ (k + S) * step = mul-le-mul_right step (let m : v + 3 ≤ k + S = omega arith in m) in omega (l, is, less, arith))

until : (step time rest S k v : ℕ) → S * step ≡ time + rest → rest < step → nat_lt v (k + S) ≡ nat_lt ((v + 1) * step) (time + (k + 1) * step)
until step time rest S k v is less =
    same_test_below v (k + S) ((v + 1) * step) (time + (k + 1) * step)
    (λ h. let l : (v + 1) * step ≤ (k + S) * step = mul-le-mul_right step (let m : v + 1 ≤ k + S = omega arith in m) in omega (l, is, less, arith))
    (λ h. let l : (k + S + 1) * step ≤ (v + 1) * step = mul-le-mul_right step (let m : k + S + 1 ≤ v + 1 = omega arith in m) in omega (l, is, arith))

from_at : (step time rest S k v width : ℕ) → S * step ≡ time + rest → rest < step → step ≤ time → IsWidth rest width → nat_le (k + (S - width)) v ≡ nat_lt (k * step + time) ((v + 2) * step)
from_at step time rest S k v width is less slow wide = elim (cases_lt 0 rest) [
  | inl over ↦
      ap (λ z. nat_le (k + (S - z)) v) (wide.broken over)
      ∙ from_broken step time rest S k v is over less (two_slots step time rest S is over less slow)
  | inr none ↦
      let whole : rest ≡ 0 = omega arith in
      ap (λ z. nat_le (k + (S - z)) v) (wide.whole whole)
      ∙ from_whole step time S k v (omega (is, whole, arith)) (omega arith) (some_slots step time rest S is less slow)
]

-- the slots from the first to the last that reads the boundary
pub slots_read : (step time rest S k v width : ℕ) → S * step ≡ time + rest → rest < step → step ≤ time → IsWidth rest width →
    nat_le (k + (S - width)) v && nat_lt v (k + S) ≡ reads_ago step time v k
slots_read step time rest S k v width is less slow wide =
    ap (λ b. b && nat_lt v (k + S)) (from_at step time rest S k v width is less slow wide)
    ∙ ap (λ b. nat_lt (k * step + time) ((v + 2) * step) && b) (until step time rest S k v is less)

-- cut at the horizon and at the greatest number, and asked of a node, they are the same slots
pub cut_at : (node k first last from to slots most v : ℕ) (b : Bool) → from ≡ min first most → to ≡ min (min last most) slots → v < slots → slots ≤ most →
    nat_le first v && nat_lt v last ≡ b → (node == node) && (nat_le from v && nat_lt v to) ≡ b
cut_at node k first last from to slots most v b is_from is_to low fits is =
    let starts : nat_le from v ≡ nat_le first v = elim (cases_lt v first) [ inl l ↦ grind (arith, nat_tests) | inr l ↦ grind (arith, nat_tests) ] in
    let ends : nat_lt v to ≡ nat_lt v last = elim (cases_lt v last) [ inl l ↦ grind (arith, nat_tests) | inr l ↦ grind (arith, nat_tests) ] in
    ap (λ z. z && (nat_le from v && nat_lt v to)) (eq-eqb node node refl)
    ∙ (ap (λ z. z && nat_lt v to) starts ∙ (ap (λ z. nat_le first v && z) ends ∙ is))
