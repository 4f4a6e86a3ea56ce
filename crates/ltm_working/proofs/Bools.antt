-- Tests, and tests of which one passes.
use Rattle.std.proofs.Common.{◌≡◌, ◌≢◌, ℕ, zero, suc, ◌+◌, ◌<◌, ◌==◌, ◌&&◌, ◌||◌, not, Bool, true, false, arith, inl, inr, ◌⊎◌, refl, ap, sym, ◌∙◌, subst, add-one}
use Rattle.std.proofs.lemmas.Bool.{cases_lt, cases_eq, cases_Bool, eq-eqb, ne_eqb}
use Rattle.ltm_pairs.specs.Changes.{some_below}

pub or_false : (a : Bool) → (a || false) ≡ a
or_false true = refl
or_false false = refl

pub and_false : (a : Bool) → (a && false) ≡ false
and_false true = refl
and_false false = refl

pub and_on : (a : Bool) → (a && true) ≡ a
and_on true = refl
and_on false = refl

pub or_three : (a b c : Bool) → ((a || b) || c) ≡ (a || (b || c))
or_three true b c = refl
or_three false b c = refl

-- marks added twice, but for what is claimed
pub twice : (x p q n : Bool) → ((x || (p && n)) || (q && n)) ≡ (x || ((p || q) && n))
twice true p q n = refl
twice false true true true = refl
twice false true true false = refl
twice false true false true = refl
twice false true false false = refl
twice false false q n = refl

pub same_below : (n : ℕ) (f g : ℕ → Bool) → ((k : ℕ) → k < n → f k ≡ g k) → some_below n f ≡ some_below n g
same_below zero f g h = refl
same_below (suc n) f g h =
    let here : f n ≡ g n = h n (omega arith) in
    let before : some_below n f ≡ some_below n g = same_below n f g (λ k l. h k (omega arith)) in
    rw (here, before) refl

pub none_below : (n : ℕ) (f : ℕ → Bool) → ((k : ℕ) → k < n → f k ≡ false) → some_below n f ≡ false
none_below zero f h = refl
none_below (suc n) f h =
    let here : f n ≡ false = h n (omega arith) in
    let before : some_below n f ≡ false = none_below n f (λ k l. h k (omega arith)) in
    rw (here, before) refl

pub one_below : (n : ℕ) (f : ℕ → Bool) (k : ℕ) → k < n → f k ≡ true → some_below n f ≡ true
one_below zero f k l is = absurd (omega arith)
one_below (suc n) f k l is =
    elim (cases_lt k n) [
      | inl low ↦ let before : some_below n f ≡ true = one_below n f k low is in rw before refl
      | inr high ↦
          let at : k ≡ n = omega arith in
          let here : f n ≡ true = subst (λ (z : ℕ). f z ≡ true) at is in
          rw here (elim (some_below n f) as (λ b. (b || true) ≡ true) [ true ↦ refl | false ↦ refl ])
    ]

-- where one passes, it can be named
pub some_one : (n : ℕ) (f : ℕ → Bool) → some_below n f ≡ true → (k : ℕ) × (k < n) × (f k ≡ true)
some_one zero f is = absurd (cc)
some_one (suc n) f is =
    elim (cases_Bool (f n)) [
      | inl here ↦ (n, omega arith, here)
      | inr not_here ↦
          let before : some_below n f ≡ true = sym (or_false (some_below n f)) ∙ (ap (λ b. some_below n f || b) (sym not_here) ∙ is) in
          let at = some_one n f before in
          (at.0, omega (arith, at.1), at.2)
    ]

pub one_more : (n : ℕ) (f : ℕ → Bool) → some_below (n + 1) f ≡ (some_below n f || f n)
one_more n f = rw add-one refl

-- tests that pass together are one
pub same_tests : (a b : Bool) → (a ≡ true → b ≡ true) → (b ≡ true → a ≡ true) → a ≡ b
same_tests true b f g = sym (f refl)
same_tests false true f g = g refl
same_tests false false f g = refl

pub and_both : (a b : Bool) → (a && b) ≡ true → (a ≡ true) × (b ≡ true)
and_both true b h = (refl, h)
and_both false b h = absurd (cc)

pub or_one : (a b : Bool) → (a || b) ≡ true → (a ≡ true) ⊎ (b ≡ true)
or_one true b h = inl refl
or_one false b h = inr h

pub or_left : (a b : Bool) → a ≡ true → (a || b) ≡ true
or_left a b h = rw h refl

pub or_right : (a b : Bool) → b ≡ true → (a || b) ≡ true
or_right true b h = refl
or_right false b h = h

pub and_true : (a b : Bool) → a ≡ true → b ≡ true → (a && b) ≡ true
and_true a b h k = rw (h, k) refl

-- numbers that differ
pub differ : (a b : ℕ) → a ≢ b → not (a == b) ≡ true
differ a b h = rw (ne_eqb a b h) refl

pub differ_is : (a b : ℕ) → not (a == b) ≡ true → a ≢ b
differ_is a b h same = let e : (a == b) ≡ true = eq-eqb a b same in absurd (cc)

pub do_not_differ : (a b : ℕ) → a ≡ b → not (a == b) ≡ false
do_not_differ a b h = rw (eq-eqb a b h) refl

-- where at most one can pass, that one tells
pub only_below : (n : ℕ) (f : ℕ → Bool) (k : ℕ) → k < n → ((j : ℕ) → j < n → j ≢ k → f j ≡ false) → some_below n f ≡ f k
only_below n f k l others = same_tests (some_below n f) (f k)
    (λ is. let at = some_one n f is in elim (cases_eq at.0 k) [
      | inl same ↦ subst (λ (z : ℕ). f z ≡ true) same at.2
      | inr apart ↦ let off : f at.0 ≡ false = others at.0 at.1 apart in let on : f at.0 ≡ true = at.2 in absurd (cc)
    ])
    (λ is. one_below n f k l is)

pub turn : (a b c : Bool) → (a && (b && c)) ≡ (b && (c && a))
turn true true true = refl
turn true true false = refl
turn true false c = refl
turn false true true = refl
turn false true false = refl
turn false false c = refl

pub last_first : (x y z : Bool) → ((x || y) || z) ≡ (true && (z || (x || y)))
last_first true true true = refl
last_first true true false = refl
last_first true false true = refl
last_first true false false = refl
last_first false true true = refl
last_first false true false = refl
last_first false false true = refl
last_first false false false = refl
