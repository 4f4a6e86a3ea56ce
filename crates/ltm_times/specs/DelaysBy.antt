-- Delays up to a boundary, as one pass over the boundaries keeps them.
use Rattle.std.specs.Prelude.{◌≡◌, ℕ, ◌*◌, ◌<◌, ◌≤◌, ◌^◌, List, length, slice_index_or}
use Rattle.ltm_curve.specs.Counts.{Counts}
use Rattle.ltm_loading.specs.Setting.{Setting}
use Rattle.ltm_flows.specs.declared.loading.Loading.{Loading}
use Rattle.ltm_flows.specs.Shown.{links_of, ShowsCounts}
use Rattle.ltm_times.specs.declared.delays.LinkDelay.{LinkDelay}
use Rattle.ltm_times.specs.Delays.{IsLinkDelayBy}

-- of a link, and how large its sums can be
pub record IsLinkDelayIn (l : Loading) (link k : ℕ) (d : LinkDelay) : Type 0 where
  pub spent_small : d.spent ≤ k * 2 ^ 80
  pub queued_small : d.queued ≤ k * 2 ^ 80
  pub shown : (s : Setting) (version : ℕ) (c : Counts) → ShowsCounts s version c l → IsLinkDelayBy s c link k d

-- of each link
pub record AreLinkDelaysIn (l : Loading) (k : ℕ) (delays : List LinkDelay) : Type 0 where
  pub count : length delays ≡ links_of l
  pub each : (link : ℕ) (none : LinkDelay) → link < links_of l → IsLinkDelayIn l link k (slice_index_or delays link none)
