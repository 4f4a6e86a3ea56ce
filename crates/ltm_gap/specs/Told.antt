-- The sums of all destinations, and what is told of them.
use Rattle.std.specs.Prelude.{ℕ, ◌≡◌, ◌<◌, length}
use Rattle.ltm_curve.specs.Counts.{Counts}
use Rattle.ltm_loading.specs.Setting.{Setting}
use Rattle.ltm_flows.specs.declared.loading.Loading.{Loading}
use Rattle.ltm_flows.specs.Shown.{step_of, last_of, links_of, nodes_of, ShowsCounts}
use Rattle.ltm_gap.specs.declared.gaps.Gap.{Gap}
use Rattle.ltm_gap.specs.declared.gaps.Gaps.{Gaps}
use Rattle.ltm_gap.specs.Steps.{sum_at}
use Rattle.ltm_gap.specs.Gaps.{twice_in, late_in, over_all, least_to, late_to, least, late}

-- a loading has the sizes of a setting
pub record Suits (s : Setting) (l : Loading) : Type 0 where
  pub step : step_of l ≡ s.step
  pub slots : last_of l ≡ s.slots
  pub links : links_of l ≡ s.links
  pub nodes : nodes_of l ≡ s.nodes

-- a sum for each destination
pub record AreGaps (s : Setting) (l : Loading) (g : Gaps) : Type 0 where
  pub one_for_each : length g.sums.items ≡ s.destinations
  pub twice : (version : ℕ) (c : Counts) → ShowsCounts s version c l → (d : ℕ) → d < s.destinations → (sum_at g.sums.items d).twice ≡ over_all s (twice_in s c d)
  pub late : (version : ℕ) (c : Counts) → ShowsCounts s version c l → (d : ℕ) → d < s.destinations → (sum_at g.sums.items d).late ≡ over_all s (late_in s c d)

-- of those who travel to a destination, and of all
pub record IsGapTo (s : Setting) (c : Counts) (destination : ℕ) (gap : Gap) : Type 0 where
  pub least : gap.least ≡ least_to s c destination
  pub late : gap.late ≡ late_to s c destination

pub record IsGap (s : Setting) (c : Counts) (gap : Gap) : Type 0 where
  pub least : gap.least ≡ least s c
  pub late : gap.late ≡ late s c
