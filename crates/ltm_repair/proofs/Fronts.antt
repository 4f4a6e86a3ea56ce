-- At the front the inputs of a pair are final, and at rest the counts are the loading.
use Rattle.std.proofs.Common.{◌≡◌, ℕ, ◌<◌, ◌≤◌, arith}
use Rattle.ltm_curve.specs.Counts.{Counts}
use Rattle.ltm_loading.specs.Setting.{Setting, IsSetting}
use Rattle.ltm_loading.specs.Pairs.{pair_row}
use Rattle.ltm_loading.specs.Loading.{IsFront, IsLoading}
use Rattle.ltm_loading.proofs.One.{fronts_agree}
use Rattle.ltm_loading.proofs.Same.{pair_row_same}
use Rattle.ltm_repair.specs.Desk.{Desk, IsIdleBefore, IsAtRest}
use Rattle.ltm_repair.specs.Facts.{IsSound, IsStepOf}

-- where all earlier pairs are idle, the counts are the front of a loading
pub idle_front : (s : Setting) (d : Desk) (f : ℕ) → IsSound s d → f ≤ s.slots → IsIdleBefore s d f → IsFront s d.counts f
idle_front s d f sound l idle = record {
  empty = sound.counts.empty;
  steps = λ u t x low.
      let step : IsStepOf s d.counts u t (pair_row s d.counts u t) =
      sound.counts.steps u t x (omega arith) (pair_row s d.counts u t) (sound.active.idle_is_settled u t x (omega arith) (idle u t x low)) in
      step.step;
}

-- at rest the counts are the loading of the setting
pub rest_loads : (s : Setting) (d : Desk) → IsSound s d → IsAtRest s d → IsLoading s d.counts
rest_loads s d sound rest = record { front = idle_front s d s.slots sound (omega arith) rest; no_origin = sound.counts.sinks }

pub earlier : (s : Setting) (c : Counts) (f : ℕ) → f ≤ s.slots → IsLoading s c → IsFront s c f
earlier s c f l loading = record { empty = loading.front.empty; steps = λ u t x low. loading.front.steps u t x (omega arith) }

-- at the front the inputs are those of the loading
pub front_final : (s : Setting) (d : Desk) (c : Counts) (f u : ℕ) → IsSetting s → IsSound s d → IsLoading s c → f < s.slots → IsIdleBefore s d f → u < s.nodes →
    pair_row s d.counts u f ≡ pair_row s c u f
front_final s d c f u v sound loading l idle x =
    pair_row_same s d.counts c u f v
    (fronts_agree s d.counts c f v (omega arith) (idle_front s d f sound (omega arith) idle) sound.counts.sinks (earlier s c f (omega arith) loading) loading.no_origin) x
