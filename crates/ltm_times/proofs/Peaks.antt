-- The peak is the first place with the greatest number.
use Rattle.std.proofs.Common.{◌≡◌, ℕ, zero, suc, ◌<◌, ◌≤◌, arith, inl, inr, ap, subst, sym}
use Rattle.std.proofs.lemmas.Bool.{cases_lt}
use Rattle.std.proofs.lemmas.Bool.Decides.{nat_tests}
use Rattle.ltm_times.specs.Peaks.{peak, IsFirstGreatest, PeaksAreFirstGreatest}

pub higher : (f : ℕ → ℕ) (last : ℕ) → f (peak f last) < f (suc last) → peak f (suc last) ≡ suc last
higher f last l = grind (arith, nat_tests)

pub not_higher : (f : ℕ → ℕ) (last : ℕ) → f (suc last) ≤ f (peak f last) → peak f (suc last) ≡ peak f last
not_higher f last l = grind (arith, nat_tests)

moves : (f : ℕ → ℕ) (last at : ℕ) → IsFirstGreatest f last at → f at < f (suc last) → IsFirstGreatest f (suc last) (suc last)
moves f last at was more = record {
  within = omega arith;
  greatest = λ k l. elim (cases_lt last k) [
    | inl new ↦ let e : k ≡ suc last = omega arith in omega (arith, ap f e)
    | inr old ↦ omega (arith, was.greatest k old)
  ];
  first = λ k l. omega (arith, was.greatest k (omega arith));
}

stays : (f : ℕ → ℕ) (last at : ℕ) → IsFirstGreatest f last at → f (suc last) ≤ f at → IsFirstGreatest f (suc last) at
stays f last at was less = record {
  within = omega (arith, was.within);
  greatest = λ k l. elim (cases_lt last k) [
    | inl new ↦ let e : k ≡ suc last = omega arith in omega (arith, ap f e)
    | inr old ↦ was.greatest k old
  ];
  first = was.first;
}

pub peaks_hold : PeaksAreFirstGreatest
peaks_hold f zero = record {
  within = omega arith;
  greatest = λ k l. let e : k ≡ 0 = omega arith in omega (arith, ap f e);
  first = λ k l. absurd (omega arith);
}
peaks_hold f (suc last) =
    elim (cases_lt (f (peak f last)) (f (suc last))) [
      | inl more ↦ subst (λ (at : ℕ). IsFirstGreatest f (suc last) at) (sym (higher f last more)) (moves f last (peak f last) (peaks_hold f last) more)
      | inr less ↦ subst (λ (at : ℕ). IsFirstGreatest f (suc last) at) (sym (not_higher f last less)) (stays f last (peak f last) (peaks_hold f last) less)
    ]
