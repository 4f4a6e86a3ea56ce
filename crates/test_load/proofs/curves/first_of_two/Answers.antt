use Rattle.std.proofs.Common.{ℕ, zero, suc, ◌+◌, ◌<◌, ◌≤◌, arith}
use Rattle.ltm_curve.specs.Table.{counts_of}
use Rattle.test_load.proofs.curves.first_of_two.Goals as goal

-- rows of two destinations at three boundaries
rise_from : (rows : ℕ → ℕ → ℕ) → rows 0 0 ≤ rows 0 1 → rows 0 1 ≤ rows 0 2 → rows 1 0 ≤ rows 1 1 → rows 1 1 ≤ rows 1 2 → (d k : ℕ) → d < 2 → k < 2 → rows d k ≤ rows d (k + 1)
rise_from rows a b c e zero zero l m = a
rise_from rows a b c e zero (suc zero) l m = b
rise_from rows a b c e zero (suc (suc k)) l m = absurd (omega arith)
rise_from rows a b c e (suc zero) zero l m = c
rise_from rows a b c e (suc zero) (suc zero) l m = e
rise_from rows a b c e (suc zero) (suc (suc k)) l m = absurd (omega arith)
rise_from rows a b c e (suc (suc d)) k l m = absurd (omega arith)

pub first-requires-clause-part : goal.first-requires-clause-part
first-requires-clause-part g c = record {
  rise = λ d k x y. rise_from (counts_of c.args.curves.now 0) (omega arith) (omega arith) (omega arith) (omega arith) d k (omega arith) y;
  empty = omega arith;
  within = omega arith;
}
