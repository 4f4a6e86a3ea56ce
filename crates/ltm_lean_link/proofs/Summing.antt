-- Numbers that are written and added, place by place.
use Rattle.std.proofs.Common.{◌≡◌, ℕ, ◌+◌, ◌*◌, ◌<◌, ◌≤◌, List, length, slice_index, slice_set, arith, refl}
use Rattle.ltm_units.specs.Sums.{sum_below}
use Rattle.ltm_units.proofs.Sums.{sum_below_more}
use Rattle.ltm_curve.proofs.Lists.{written}
use Rattle.ltm_lean_link.specs.Moved.{moved_at}

-- the first numbers are written, and added
pub record SumsTo (into moved places : List ℕ) (whole n : ℕ) : Type 0 where
  pub each : (i : ℕ) → i < n → slice_index into i ≡ moved_at moved places i
  pub added : whole ≡ sum_below n (moved_at moved places)
  pub few : whole ≤ n * 65535

pub sums_none : (into moved places : List ℕ) → SumsTo into moved places 0 0
sums_none into moved places = record { each = λ i l. absurd (omega (arith, l)); added = refl; few = omega arith }

pub sums_more : (into moved places : List ℕ) (whole n v : ℕ) → n < length into → v ≡ moved_at moved places n → SumsTo into moved places whole n → SumsTo (slice_set into n v) moved places (whole + v) (n + 1)
sums_more into moved places whole n v l e h = record {
  each = written into (moved_at moved places) n v h.each l e;
  added = omega (arith, h.added, e, sum_below_more (moved_at moved places) n);
  few = omega (arith, h.few, e);
}
