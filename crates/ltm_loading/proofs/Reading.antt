-- What a pair's inputs are made of, at the front.
use Rattle.std.proofs.Common.{◌≡◌, ℕ, ◌+◌, ◌<◌, arith}
use Rattle.ltm_units.specs.Sums.{sum_below}
use Rattle.ltm_curve.specs.Counts.{Counts, total}
use Rattle.ltm_curve.specs.First.{first_units}
use Rattle.ltm_curve.proofs.Lists.{sum_below-minus}
use Rattle.ltm_curve.proofs.Firsts.{first_sums_holds}
use Rattle.ltm_loading.specs.Setting.{Setting, IsSetting}
use Rattle.ltm_loading.specs.Groups.{dep_of}
use Rattle.ltm_loading.specs.Flows.{origin_goal, origin_sending}
use Rattle.ltm_loading.specs.Loading.{IsFront}
use Rattle.ltm_loading.specs.Ready.{LinksAreReady, OriginsAreReady}
use Rattle.ltm_loading.proofs.Front.{down_rises, up_rises, link_part, link_behind}
use Rattle.ltm_loading.proofs.Holds.{link_first_sum, origin_part, origin_behind, storage_at}

pub links_are_ready_holds : LinksAreReady
links_are_ready_holds s c l t v f x = record {
  entered_rises = up_rises s c t l v f x;
  left_rises = down_rises s c t l v f x;
  part = link_part s c t l v f x;
  behind = λ d m. link_behind s c t l d v f x m;
  sum = link_first_sum s c t l v f x;
  room = storage_at s c t l v f x;
}

origin_sum : (s : Setting) (c : Counts) (u t : ℕ) → IsSetting s → IsFront s c t → t < s.slots → u < s.nodes → 0 < s.outs u →
    sum_below s.destinations (origin_sending s c u t) + total s.destinations (c (dep_of s u)) t ≡ origin_goal s c u t
origin_sum s c u t v f y x some =
    omega (
      arith,
      sum_below-minus s.destinations (λ d. c (dep_of s u) d t) (first_units s.destinations (s.produced u) (origin_goal s c u t) (t + 1)) (λ d m. origin_behind s c t u d v f y x some m),
      first_sums_holds s.destinations (s.produced u) (origin_goal s c u t) (t + 1) (origin_part s c t u v y x),
    )

pub origins_are_ready_holds : OriginsAreReady
origins_are_ready_holds s c u t v f y x some = record {
  part = origin_part s c t u v y x;
  behind = λ d m. origin_behind s c t u d v f y x some m;
  sum = origin_sum s c u t v f y x some;
}
