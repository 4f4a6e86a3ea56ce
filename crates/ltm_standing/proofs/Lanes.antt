-- What stands at the start.
use Rattle.std.proofs.Common.{◌≡◌, ℕ, ◌%◌, ◌^◌, ◌<◌, slice_index, arith, refl, sym, ap, ◌∙◌}
use Rattle.ltm_units.proofs.Sums.{sum_below-zero}
use Rattle.ltm_curve.specs.Counts.{total}
use Rattle.ltm_standing.specs.declared.standing.Standing.{Standing}
use Rattle.ltm_standing.specs.Standing.{width_of, end_of, StandsAt}

pub empty_stands : (n : ℕ) (up down : ℕ → ℕ → ℕ) (s : Standing) → width_of s ≡ n → s.base ≡ 0 → s.low ≡ 0 → s.dead ≡ 0 → s.next ≡ 0 → end_of s ≡ 0
    → ((i : ℕ) → i < n → slice_index s.rest.items i ≡ 0) → ((i : ℕ) → i < n → (up i 0 ≡ 0) × (down i 0 ≡ 0)) → StandsAt n up down 0 0 s
empty_stands n up down s wide base low dead next end rest none =
    let nothing : total n up 0 ≡ 0 = sum_below-zero n (λ i. up i 0) (λ i l. (none i l).0) in
    record {
      begins = λ j. 0;
      wide = wide;
      end = refl;
      base = base ∙ sym nothing;
      rest = λ i l. let a = rest i l in let u = (none i l).0 in let d = (none i l).1 in ap (λ z. z % 2 ^ 32) (omega (arith, a, u, d));
      low = low ∙ sym nothing;
      freed = omega (arith, low);
      later = λ j a b. absurd (omega (arith, end, b));
      rows = λ j i a b l. absurd (omega (arith, end, b));
      others = λ j i a b l. absurd (omega (arith, end, b));
    }
