-- Units that may leave, of which some have left.
use Rattle.std.proofs.Common.{◌≡◌, ◌==◌, Bool, true, false, ℕ, zero, suc, ◌+◌, ◌-◌, ◌*◌, ◌/◌, ◌<◌, ◌≤◌, min, arith, inl, inr, ap, sym, ◌∙◌}
use Rattle.std.proofs.Math.Nat.{mul-div_cancel_left}
use Rattle.std.proofs.lemmas.Bool.{cases_lt}
use Rattle.std.proofs.lemmas.Bool.Decides.{nat_tests}
use Rattle.ltm_units.specs.Sums.{sum_below}
use Rattle.ltm_units.proofs.Sums.{le-sum_below, sum_below-same}
use Rattle.ltm_curve.specs.Counts.{total}
use Rattle.ltm_curve.specs.First.{first_units, RowsRise}
use Rattle.ltm_curve.specs.FirstLaws.{IsPart}
use Rattle.ltm_curve.proofs.Interpolation.{rises_le}
use Rattle.ltm_curve.proofs.Lasts.{total_rises}
use Rattle.ltm_curve.proofs.Firsts.{first_stays_holds}
use Rattle.ltm_loading.specs.Flows.{limited}
use Rattle.ltm_sending.specs.MayLeave.{rest_of, MayLeave}

-- where all that may leave has left, nothing is left of any destination
pub none_rests : (m : ℕ) (rows : ℕ → ℕ → ℕ) (gone : ℕ → ℕ) (goal last d : ℕ) → MayLeave m rows gone goal last → goal ≡ sum_below m gone → d < m → rest_of m rows gone goal last d ≡ 0
none_rests m rows gone goal last d may e l = omega (arith, may.sum, le-sum_below m (rest_of m rows gone goal last) d l)

-- with one destination all that has not left is of it
pub one_rests : (m : ℕ) (rows : ℕ → ℕ → ℕ) (gone : ℕ → ℕ) (goal last d : ℕ) → MayLeave m rows gone goal last → m ≡ 1 → d < m → rest_of m rows gone goal last d + sum_below m gone ≡ goal
one_rests m rows gone goal last d may one l =
    let here : d ≡ 0 = omega arith in
    let at : rest_of m rows gone goal last d ≡ rest_of m rows gone goal last 0 = ap (rest_of m rows gone goal last) here in
    let all : sum_below m (rest_of m rows gone goal last) ≡ sum_below 1 (rest_of m rows gone goal last) = ap (λ (n : ℕ). sum_below n (rest_of m rows gone goal last)) one in
    omega (arith, may.sum)

-- no part is more than what has not left
pub rest_within : (m : ℕ) (rows : ℕ → ℕ → ℕ) (gone : ℕ → ℕ) (goal last d : ℕ) → MayLeave m rows gone goal last → d < m → rest_of m rows gone goal last d + sum_below m gone ≤ goal
rest_within m rows gone goal last d may l = omega (arith, may.sum, le-sum_below m (rest_of m rows gone goal last) d l)

-- the first units are the same by an earlier boundary by which they had entered
stays_from : (m : ℕ) (rows : ℕ → ℕ → ℕ) (n by more : ℕ) → RowsRise m rows (by + more) → total m rows 0 ≡ 0 → n ≤ total m rows by → (d : ℕ) → d < m → first_units m rows n (by + more) d ≡ first_units m rows n by d
stays_from m rows n by zero rise empty within d l = ap (λ (z : ℕ). first_units m rows n z d) (omega arith)
stays_from m rows n by (suc more) rise empty within d l =
    let before : RowsRise m rows (by + more) = λ e k x y. rise e k x (omega arith) in
    let here : n ≤ total m rows (by + more) = omega (arith, rises_le (total m rows) (by + more) (total_rises m rows (by + more) before) by (by + more) (omega arith) (omega arith)) in
    ap (λ (z : ℕ). first_units m rows n z d) (omega arith)
    ∙ (first_stays_holds m rows n (by + more) (record { rise = before; empty = empty; within = here }) (λ e k x y. rise e k x (omega arith)) d l
    ∙ stays_from m rows n by more before empty within d l)

pub first_by : (m : ℕ) (rows : ℕ → ℕ → ℕ) (n by last : ℕ) → IsPart m rows n last → by ≤ last → n ≤ total m rows by → (d : ℕ) → d < m → first_units m rows n last d ≡ first_units m rows n by d
first_by m rows n by last part below within d l =
    let e : by + (last - by) ≡ last = omega arith in
    sym (ap (λ (z : ℕ). first_units m rows n z d) e) ∙ stays_from m rows n by (last - by) (λ k j x y. part.rise k j x (omega arith)) part.empty within d l

-- so what may leave is seen from that boundary too
pub may_leave_by : (m : ℕ) (rows : ℕ → ℕ → ℕ) (gone : ℕ → ℕ) (goal by last : ℕ) → MayLeave m rows gone goal last → by ≤ last → goal ≤ total m rows by → MayLeave m rows gone goal by
may_leave_by m rows gone goal by last may below within =
    let same = first_by m rows goal by last may.part below within in
    record {
      part = record { rise = λ d k x y. may.part.rise d k x (omega arith); empty = may.part.empty; within = within };
      behind = λ d l. omega (arith, may.behind d l, same d l);
      sum = omega (arith, may.sum, sum_below-same m (rest_of m rows gone goal last) (rest_of m rows gone goal by) (λ d l. ap (λ (z : ℕ). z - gone d) (same d l)));
    }

-- a limit lets nothing pass of nothing
pub nothing_limited : (limit whole : ℕ) → whole ≡ 0 → limited limit whole 0 ≡ 0
nothing_limited limit whole e = grind (arith, nat_tests)

cut_limited : (limit whole : ℕ) → limit < whole → limited limit whole whole ≡ min whole limit
cut_limited limit whole l = let e : whole * limit / whole ≡ limit = mul-div_cancel_left limit (omega arith) in grind (arith, nat_tests)

all_limited : (limit whole : ℕ) → whole ≤ limit → limited limit whole whole ≡ min whole limit
all_limited limit whole l = grind (arith, nat_tests)

-- and of a whole as much as it is itself, or the whole
pub whole_limited : (limit whole part : ℕ) → part ≡ whole → 0 < whole → limited limit whole part ≡ min whole limit
whole_limited limit whole part e pos =
    let same : limited limit whole part ≡ limited limit whole whole = ap (limited limit whole) e in
    elim (cases_lt limit whole) [
      | inl cut ↦ same ∙ cut_limited limit whole cut
      | inr all ↦ same ∙ all_limited limit whole all
    ]

-- what a test for one destination tells
pub is_one : (alone : Bool) (m : ℕ) → alone ≡ true → alone ≡ (m == 1) → m ≡ 1
is_one alone m is told = grind (arith, nat_tests)

is_several : (alone : Bool) (m : ℕ) → alone ≡ false → alone ≡ (m == 1) → 0 < m → 2 ≤ m
is_several alone m is told some = grind (arith, nat_tests)

some_destination : (m : ℕ) (rows : ℕ → ℕ → ℕ) (n last : ℕ) → n ≤ total m rows last → 0 < n → 0 < m
some_destination zero rows n last within some = absurd (omega (arith, within, some))
some_destination (suc m) rows n last within some = omega arith

-- where something may leave there is a destination
pub some_two : (alone : Bool) (m : ℕ) (rows : ℕ → ℕ → ℕ) (n last : ℕ) → alone ≡ false → alone ≡ (m == 1) → IsPart m rows n last → 0 < n → 2 ≤ m
some_two alone m rows n last is told part some = is_several alone m is told (some_destination m rows n last part.within some)
