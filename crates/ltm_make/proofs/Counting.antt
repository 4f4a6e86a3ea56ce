-- How many roads of a grid lead from a node, and to it.
use Rattle.std.proofs.Common.{◌≡◌, ◌≢◌, ℕ, zero, suc, ◌+◌, ◌-◌, ◌*◌, ◌≤◌, ◌==◌, Bool, true, false, cond, min, List, [], ◌++◌, length, ap, arith, length-append, inl, inr, count_by}
use Rattle.std.proofs.lemmas.List.Sums.{sum_by-append}
use Rattle.std.proofs.lemmas.Bool.{cases_eq}
use Rattle.std.proofs.lemmas.Bool.Decides.{nat_tests}
use Rattle.ltm_make.specs.declared.grid.Road.{Road}
use Rattle.ltm_make.specs.Grid.{has_right, has_below, both_ways, roads_at, roads}

pub count_by-append : {X : Type 0} (p : X → Bool) (xs ys : List X) → count_by p (xs ++ ys) ≡ count_by p xs + count_by p ys
count_by-append p xs ys = sum_by-append (λ x. cond (p x) 1 0) xs ys

-- 1 where m is at most a, else 0
abbrev still : ℕ → ℕ → ℕ
still m a = min 1 (a + 1 - m)

pub is_same : (k a : ℕ) → k ≡ a → (k == a) ≡ true
is_same k a e = grind (arith, nat_tests)

pub is_other : (k a : ℕ) → k ≢ a → (k == a) ≡ false
is_other k a e = grind (arith, nat_tests)

one_at : (k a : ℕ) → cond {A = ℕ} (k == a) 1 0 + still (k + 1) a ≤ still k a
one_at k a = elim (cases_eq k a) [
  | inl same ↦ let is : cond {A = ℕ} (k == a) 1 0 ≡ 1 = ap (λ (b : Bool). cond {A = ℕ} b 1 0) (is_same k a same) in omega arith
  | inr other ↦ let is : cond {A = ℕ} (k == a) 1 0 ≡ 0 = ap (λ (b : Bool). cond {A = ℕ} b 1 0) (is_other k a other) in omega arith
]

if_of : {X : Type 0} (f : List X → ℕ) (b : Bool) (xs : List X) (most : ℕ) → f xs ≤ most → f [] ≤ most → f (cond b xs []) ≤ most
if_of f true xs most some none = some
if_of f false xs most some none = none

-- roads that start at a node: two when its own turn comes, and one each when that of the nodes left of it and above it comes
from_two : (a b c : ℕ) → count_by (λ (r : Road). r.from == c) (both_ways a b) ≡ cond (a == c) 1 0 + cond (b == c) 1 0
from_two a b c = omega arith

to_two : (a b c : ℕ) → count_by (λ (r : Road). r.to == c) (both_ways a b) ≡ cond (a == c) 1 0 + cond (b == c) 1 0
to_two a b c = omega arith

from_at : (n w k c : ℕ) → count_by (λ (r : Road). r.from == c) (roads_at n w k) ≤ 2 * cond (k == c) 1 0 + (cond (k + 1 == c) 1 0 + cond (k + w == c) 1 0)
from_at n w k c =
    let right = if_of (count_by (λ (r : Road). r.from == c)) (has_right n w k) (both_ways k (k + 1)) (cond (k == c) 1 0 + cond (k + 1 == c) 1 0) (omega (arith, from_two k (k + 1) c)) (omega arith) in
    let below = if_of (count_by (λ (r : Road). r.from == c)) (has_below n w k) (both_ways k (k + w)) (cond (k == c) 1 0 + cond (k + w == c) 1 0) (omega (arith, from_two k (k + w) c)) (omega arith) in
    omega (arith, count_by-append (λ (r : Road). r.from == c) (cond (has_right n w k) (both_ways k (k + 1)) []) (cond (has_below n w k) (both_ways k (k + w)) []), right, below)

to_at : (n w k c : ℕ) → count_by (λ (r : Road). r.to == c) (roads_at n w k) ≤ 2 * cond (k == c) 1 0 + (cond (k + 1 == c) 1 0 + cond (k + w == c) 1 0)
to_at n w k c =
    let right = if_of (count_by (λ (r : Road). r.to == c)) (has_right n w k) (both_ways k (k + 1)) (cond (k == c) 1 0 + cond (k + 1 == c) 1 0) (omega (arith, to_two k (k + 1) c)) (omega arith) in
    let below = if_of (count_by (λ (r : Road). r.to == c)) (has_below n w k) (both_ways k (k + w)) (cond (k == c) 1 0 + cond (k + w == c) 1 0) (omega (arith, to_two k (k + w) c)) (omega arith) in
    omega (arith, count_by-append (λ (r : Road). r.to == c) (cond (has_right n w k) (both_ways k (k + 1)) []) (cond (has_below n w k) (both_ways k (k + w)) []), right, below)

from_left : (n w c m : ℕ) → count_by (λ (r : Road). r.from == c) (roads n w m) + (2 * still m c + (still (m + 1) c + still (m + w) c)) ≤ 4
from_left n w c zero = omega arith
from_left n w c (suc m) =
    let before = from_left n w c m in
    let here = from_at n w m c in
    let a = one_at m c in
    let b = one_at (m + 1) c in
    let d = one_at (m + w) c in
    omega (arith, count_by-append (λ (r : Road). r.from == c) (roads n w m) (roads_at n w m), before, here, a, b, d)

to_left : (n w c m : ℕ) → count_by (λ (r : Road). r.to == c) (roads n w m) + (2 * still m c + (still (m + 1) c + still (m + w) c)) ≤ 4
to_left n w c zero = omega arith
to_left n w c (suc m) =
    let before = to_left n w c m in
    let here = to_at n w m c in
    let a = one_at m c in
    let b = one_at (m + 1) c in
    let d = one_at (m + w) c in
    omega (arith, count_by-append (λ (r : Road). r.to == c) (roads n w m) (roads_at n w m), before, here, a, b, d)

-- no more than four start at a node, and no more than four end there
pub few_from : (n w c m : ℕ) → count_by (λ (r : Road). r.from == c) (roads n w m) ≤ 4
few_from n w c m = omega (arith, from_left n w c m)

pub few_to : (n w c m : ℕ) → count_by (λ (r : Road). r.to == c) (roads n w m) ≤ 4
few_to n w c m = omega (arith, to_left n w c m)

-- and no more than four for each node in all
pub few_roads : (n w m : ℕ) → length (roads n w m) ≤ 4 * m
few_roads n w zero = omega arith
few_roads n w (suc m) =
    let before = few_roads n w m in
    let right = if_of {X = Road} length (has_right n w m) (both_ways m (m + 1)) 2 (omega arith) (omega arith) in
    let below = if_of {X = Road} length (has_below n w m) (both_ways m (m + w)) 2 (omega arith) (omega arith) in
    omega (arith, length-append (roads n w m) (roads_at n w m), length-append (cond (has_right n w m) (both_ways m (m + 1)) []) (cond (has_below n w m) (both_ways m (m + w)) []), before, right, below)
