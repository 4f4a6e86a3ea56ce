-- Tests that do not pass.
use Rattle.std.proofs.Common.{◌≡◌, ℕ, zero, suc, ◌<◌, ◌==◌, ◌&&◌, ◌||◌, not, Bool, true, false, arith, inl, inr, refl, subst}
use Rattle.std.proofs.lemmas.Bool.{cases_lt, eqb-true}
use Rattle.ltm_curve.specs.Counts.{Counts}
use Rattle.ltm_loading.specs.Setting.{Setting}
use Rattle.ltm_pairs.specs.Changes.{some_below, differs_at}

pub or_no : (a b : Bool) → a || b ≡ false → (a ≡ false) × (b ≡ false)
or_no false b h = (refl, h)
or_no true b h = cc

pub and_no : (a b : Bool) → a && b ≡ false → a ≡ true → b ≡ false
and_no true b h e = h
and_no false b h e = cc

pub none_below : (n : ℕ) (f : ℕ → Bool) → some_below n f ≡ false → (k : ℕ) → k < n → f k ≡ false
none_below zero f h k l = absurd (omega arith)
none_below (suc n) f h k l =
    let both = or_no (some_below n f) (f n) h in
    elim (cases_lt k n) [
      | inl low ↦ none_below n f both.0 k low
      | inr high ↦ let at : n ≡ k = omega arith in subst (λ (z : ℕ). f z ≡ false) at both.1
    ]

not_no : (b : Bool) → not b ≡ false → b ≡ true
not_no true h = refl
not_no false h = cc

-- counts of a group that does not differ are the same
pub same_at : (s : Setting) (a b : Counts) (g k d : ℕ) → differs_at s a b g k ≡ false → d < s.destinations → a g d k ≡ b g d k
same_at s a b g k d h l = eqb-true (a g d k) (b g d k) (not_no (a g d k == b g d k) (none_below s.destinations (λ e. not (a g e k == b g e k)) h d l))
