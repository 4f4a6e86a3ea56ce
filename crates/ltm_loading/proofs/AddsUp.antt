-- What the totals of a loading come to together.
use Rattle.std.proofs.Common.{◌≡◌, ℕ, ◌+◌, ◌-◌, ◌<◌, ◌≤◌, arith}
use Rattle.ltm_units.specs.Sums.{sum_below}
use Rattle.ltm_units.proofs.Sums.{sum_below-le, sum_below-same, sum_below-plus, sum_below-swap}
use Rattle.ltm_curve.specs.Counts.{total}
use Rattle.ltm_curve.proofs.Lists.{sum_below-minus}
use Rattle.ltm_curve.proofs.Firsts.{first_within_holds}
use Rattle.ltm_loading.specs.Groups.{up_of, down_of, dep_of, arr_of}
use Rattle.ltm_loading.specs.Flows.{link_goal}
use Rattle.ltm_loading.specs.Loading.{IsFront}
use Rattle.ltm_loading.specs.Totals.{generated, departed, arrived, on_links}
use Rattle.ltm_loading.specs.LoadingLaws.{LeftHasEntered, AddsUp}
use Rattle.ltm_loading.proofs.Front.{earlier_front, link_part, link_behind}
use Rattle.ltm_loading.proofs.Holds.{within_produced_holds}
use Rattle.ltm_loading.proofs.Conserve.{conserved_holds}

pub left_has_entered_holds : LeftHasEntered
left_has_entered_holds s c v f l d k x m y =
    let now : IsFront s c k = earlier_front s c s.slots k f.front y in
    omega (arith, link_behind s c k l d v now x m, first_within_holds s.destinations (c (up_of l)) (link_goal s c l k) k (link_part s c k l v now x) d m)

pub adds_up_holds : AddsUp
adds_up_holds s c v f k y =
    let made : departed s c k ≤ generated s k = sum_below-le s.nodes (λ u. total s.destinations (c (dep_of s u)) k) (λ u. total s.destinations (s.produced u) k) (λ u x. sum_below-le s.destinations (λ d. c (dep_of s u) d k) (λ d. s.produced u d k) (λ d m. within_produced_holds s c v f u d k x m y)) in
    let swap : departed s c k ≡ sum_below s.destinations (λ d. sum_below s.nodes (λ u. c (dep_of s u) d k)) = sum_below-swap s.nodes s.destinations (λ u d. c (dep_of s u) d k) in
    let each : sum_below s.destinations (λ d. sum_below s.nodes (λ u. c (dep_of s u) d k)) ≡ sum_below s.destinations (λ d. c (arr_of s) d k + sum_below s.links (λ l. c (up_of l) d k - c (down_of l) d k)) =
    sum_below-same s.destinations (λ d. sum_below s.nodes (λ u. c (dep_of s u) d k)) (λ d. c (arr_of s) d k + sum_below s.links (λ l. c (up_of l) d k - c (down_of l) d k)) (λ d m. conserved_holds s c v f d k m y) in
    let apart : sum_below s.destinations (λ d. c (arr_of s) d k + sum_below s.links (λ l. c (up_of l) d k - c (down_of l) d k)) ≡ arrived s c k + sum_below s.destinations (λ d. sum_below s.links (λ l. c (up_of l) d k - c (down_of l) d k)) =
    sum_below-plus s.destinations (λ d. c (arr_of s) d k) (λ d. sum_below s.links (λ l. c (up_of l) d k - c (down_of l) d k)) in
    let back : sum_below s.destinations (λ d. sum_below s.links (λ l. c (up_of l) d k - c (down_of l) d k)) ≡ sum_below s.links (λ l. sum_below s.destinations (λ d. c (up_of l) d k - c (down_of l) d k)) =
    sum_below-swap s.destinations s.links (λ d l. c (up_of l) d k - c (down_of l) d k) in
    let link : (l : ℕ) → l < s.links → sum_below s.destinations (λ d. c (up_of l) d k - c (down_of l) d k) ≡ total s.destinations (c (up_of l)) k - total s.destinations (c (down_of l)) k =
    λ l x. omega (arith, sum_below-minus s.destinations (λ d. c (down_of l) d k) (λ d. c (up_of l) d k) (λ d m. left_has_entered_holds s c v f l d k x m y)) in
    let links : sum_below s.links (λ l. sum_below s.destinations (λ d. c (up_of l) d k - c (down_of l) d k)) ≡ on_links s c k =
    sum_below-same s.links (λ l. sum_below s.destinations (λ d. c (up_of l) d k - c (down_of l) d k)) (λ l. total s.destinations (c (up_of l)) k - total s.destinations (c (down_of l)) k) link in
    (omega (arith, made), omega (arith, swap, each, apart, back, links))
