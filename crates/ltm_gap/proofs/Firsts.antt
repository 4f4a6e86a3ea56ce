-- The first numbers that pass tests.
use Rattle.std.proofs.Common.{◌≡◌, ℕ, zero, suc, ◌+◌, ◌-◌, ◌<◌, ◌≤◌, ◌&&◌, ◌⊎◌, inl, inr, Bool, true, false, nat_le, nat_lt, Option, Some, None, if◌then◌else◌, refl, ap, sym, arith, ◌∙◌}
use Rattle.std.specs.Prelude.{option_and_then, option_map}
use Rattle.std.proofs.lemmas.Bool.{cases_lt}
use Rattle.std.proofs.lemmas.Bool.Decides.{nat_tests}
use Rattle.ltm_units.specs.Numbers.{first_below, or_else}
use Rattle.ltm_units.proofs.BadBytes.{first_is, is_first, none_below}
use Rattle.ltm_times.proofs.Least.{none_passes}

-- ---- two tests
pub both : (a b : Bool) → a ≡ true → b ≡ true → (a && b) ≡ true
both true true x y = refl
both true false x y = cc
both false b x y = cc

pub left_of : (a b : Bool) → (a && b) ≡ true → a ≡ true
left_of true b h = refl
left_of false b h = cc

pub right_of : (a b : Bool) → (a && b) ≡ true → b ≡ true
right_of true b h = h
right_of false b h = cc

pub not_right : (a b : Bool) → b ≡ false → (a && b) ≡ false
not_right true b h = h
not_right false b h = refl

pub not_left : (a b : Bool) → a ≡ false → (a && b) ≡ false
not_left true b h = cc
not_left false b h = refl

pub second : (a b : Bool) → a ≡ true → (a && b) ≡ false → b ≡ false
second true b x h = h
second false b x h = cc

pub at_most : (a b : ℕ) → a ≤ b → nat_le a b ≡ true
at_most a b l = grind (arith, nat_tests)

pub is_at_most : (a b : ℕ) → nat_le a b ≡ true → a ≤ b
is_at_most a b e = grind (arith, nat_tests)

pub more : (a b : ℕ) → b < a → nat_le a b ≡ false
more a b l = grind (arith, nat_tests)

pub less : (a b : ℕ) → a < b → nat_lt a b ≡ true
less a b l = grind (arith, nat_tests)

pub not_less : (a b : ℕ) → b ≤ a → nat_lt a b ≡ false
not_less a b l = grind (arith, nat_tests)

-- ---- a first number, or none
pub found_or_not : (test : ℕ → Bool) (n : ℕ) → ((k : ℕ) × (first_below test n ≡ Some k)) ⊎ (first_below test n ≡ None)
found_or_not test n = go (first_below test n) refl
  where
    go : (o : Option ℕ) → first_below test n ≡ o → ((k : ℕ) × (first_below test n ≡ Some k)) ⊎ (first_below test n ≡ None)
    go None e = inr e
    go (Some k) e = inl (k, e)

false_true : {b : Bool} → b ≡ false → b ≡ true → ⊥
false_true e f = cc

-- a test that passes wherever another does finds a number no later
pub found_before : (f g : ℕ → Bool) (n y : ℕ) → ((k : ℕ) → k < n → g k ≡ true → f k ≡ true) → first_below g n ≡ Some y → (x : ℕ) × (first_below f n ≡ Some x) × (x ≤ y)
found_before f g n y weaker found =
    let there = is_first g n y found in
    let passes : f y ≡ true = weaker y there.below there.holds in
    elim (found_or_not f n) [
      | inl some ↦
          let here = is_first f n some.0 some.1 in (
            some.0,
            some.1,
            elim (cases_lt y some.0) [
              | inl early ↦ absurd (false_true (here.before y early) passes)
              | inr late ↦ late
            ],
          )
      | inr none ↦ absurd (false_true (none_below f n none y there.below) passes)
    ]

pub same_first : (f g : ℕ → Bool) (n : ℕ) → ((k : ℕ) → k < n → f k ≡ g k) → first_below f n ≡ first_below g n
same_first f g zero h = refl
same_first f g (suc n) h =
    ap (λ x. or_else x (if f n then Some n else None)) (same_first f g n (λ k l. h k (omega arith)))
    ∙ ap (λ (b : Bool). or_else (first_below g n) (if b then Some n else None)) (h n (omega arith))

-- the first that passes two tests, of which the one that once passes goes on to pass, is found one after the other
pub one_by_one : (f g : ℕ → Bool) (n : ℕ) → ((j k : ℕ) → j ≤ k → k < n → f j ≡ true → f k ≡ true)
    → first_below (λ m. f m && g m) n ≡ option_and_then (λ x. first_below (λ m. nat_le x m && g m) n) (first_below f n)
one_by_one f g n stays = go (first_below f n) refl
  where
    go : (o : Option ℕ) → first_below f n ≡ o → first_below (λ m. f m && g m) n ≡ option_and_then (λ x. first_below (λ m. nat_le x m && g m) n) o
    go None e = none_passes (λ m. f m && g m) n (λ m l. not_left (f m) (g m) (none_below f n e m l))
    go (Some x) e =
        let here = is_first f n x e in
        same_first (λ m. f m && g m) (λ m. nat_le x m && g m) n (λ m l.
        ap (λ b. b && g m) (elim (cases_lt m x) [
          | inl early ↦ here.before m early ∙ sym (more x m early)
          | inr late ↦ stays x m late l here.holds ∙ sym (at_most x m late)
        ]))

-- a test of the number before
pub shifted : (g : ℕ → Bool) (n from : ℕ) → 1 ≤ from → first_below (λ m. nat_le from m && g (m - 1)) (n + 1) ≡ option_map (λ x. x + 1) (first_below (λ m. nat_le (from - 1) m && g m) n)
shifted g n from some = elim (found_or_not (λ m. nat_le (from - 1) m && g m) n) [
  | inl found ↦
      let x : ℕ = found.0 in
      let here = is_first (λ m. nat_le (from - 1) m && g m) n x found.1 in
      let le : from - 1 ≤ x = is_at_most (from - 1) x (left_of (nat_le (from - 1) x) (g x) here.holds) in
      first_is (λ m. nat_le from m && g (m - 1)) (n + 1) (x + 1) (record {
        below = omega (arith, here.below);
        holds = both (nat_le from (x + 1)) (g (x + 1 - 1)) (at_most from (x + 1) (omega arith)) (ap g (omega arith) ∙ right_of (nat_le (from - 1) x) (g x) here.holds);
        before = λ m l. fails m (elim (cases_lt m from) [ inl early ↦ inl early | inr late ↦ inr (late, here.before (m - 1) (omega arith)) ]);
      }) ∙ sym (ap (option_map (λ x. x + 1)) found.1)
  | inr none ↦
      none_passes (λ m. nat_le from m && g (m - 1)) (n + 1)
      (λ m l. fails m (elim (cases_lt m from) [ inl early ↦ inl early | inr late ↦ inr (late, none_below (λ k. nat_le (from - 1) k && g k) n none (m - 1) (omega arith)) ]))
      ∙ sym (ap (option_map (λ x. x + 1)) none)
]
  where
    fails : (m : ℕ) → (m < from) ⊎ ((from ≤ m) × ((nat_le (from - 1) (m - 1) && g (m - 1)) ≡ false)) → (nat_le from m && g (m - 1)) ≡ false
    fails m (inl early) = not_left (nat_le from m) (g (m - 1)) (more from m early)
    fails m (inr (late, fail)) = not_right (nat_le from m) (g (m - 1)) (second (nat_le (from - 1) (m - 1)) (g (m - 1)) (at_most (from - 1) (m - 1) (omega arith)) fail)
