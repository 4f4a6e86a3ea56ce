-- What a settle count tells.
use Rattle.std.proofs.Common.{◌≡◌, ℕ, ◌+◌, ◌-◌, ◌≤◌, arith, ap}
use Rattle.ltm_units.specs.Sums.{sum_below}
use Rattle.ltm_loading.specs.Differing.{differing}
use Rattle.ltm_repair.specs.Desk.{IsAtRest}
use Rattle.ltm_repair.specs.Counting.{left_to_do, strayed}
use Rattle.ltm_repair.specs.State.{now, batch_difference, all_differences}
use Rattle.ltm_repair.specs.Settling.{SettleTells, SettlesExactly, CountIsBounded}
use Rattle.ltm_repair.proofs.LeftToDo.{rest_strays}
use Rattle.ltm_repair.proofs.Books.{now_is_setting, settled_within}

pub settle_tells : SettleTells
settle_tells s e n is step loadings are =
    let first : s.settled ≤ s.accepted = settled_within s is in
    let told : n ≡ s.commits = step.told in
    let rest : IsAtRest (now s) s.desk = is.up_to_date step.up_to_date in
    record {
      at_least =
          let low : differing (s.settings s.settled) (now s) (loadings s.settled) (loadings s.accepted) ≤ strayed (now s).slots (s.settings s.settled) (loadings s.settled) s.desk =
          rest_strays (now s) s.desk (loadings s.accepted) (s.settings s.settled) (loadings s.settled) (now_is_setting s is) ((is.history.network s.settled first).nodes) is.desk rest (are s.accepted first (omega arith)) in
          let high : strayed (now s).slots (s.settings s.settled) (loadings s.settled) s.desk ≤ s.commits = is.count.covers (loadings s.settled) (are s.settled (omega arith) first) in
          omega arith;
      at_most = let all : s.commits + left_to_do (now s) (loadings s.accepted) s.desk ≤ all_differences s loadings = is.count.no_waste loadings are in omega arith;
    }

pub settles_exactly : SettlesExactly
unfolding all_differences
settles_exactly s loadings n count =
    let F : ℕ → ℕ = λ k. batch_difference s loadings (s.settled + k) in
    let most : n ≤ sum_below (s.accepted - s.settled) F = count.at_most in
    record {
      none = λ same.
          let z : s.accepted - s.settled ≡ 0 = omega arith in
          let sum : sum_below (s.accepted - s.settled) F ≡ sum_below 0 F = ap (λ m. sum_below m F) z in omega (most, sum, arith);
      one = λ next.
          let z : s.accepted - s.settled ≡ 1 = omega arith in
          let sum : sum_below (s.accepted - s.settled) F ≡ sum_below 1 F = ap (λ m. sum_below m F) z in
          let back : s.settled + 0 ≡ s.settled = omega arith in
          let first : F 0 ≡ batch_difference s loadings s.settled = ap (λ k. batch_difference s loadings k) back in
          let whole : batch_difference s loadings s.settled ≡ differing (s.settings s.settled) (now s) (loadings s.settled) (loadings s.accepted) =
          ap (λ k. differing (s.settings s.settled) (s.settings k) (loadings s.settled) (loadings k)) (let e : s.settled + 1 ≡ s.accepted = omega arith in e) in
          omega (most, sum, first, whole, count.at_least, arith);
    }

pub count_is_bounded : CountIsBounded
count_is_bounded s is = omega (is.count.fits, arith)
