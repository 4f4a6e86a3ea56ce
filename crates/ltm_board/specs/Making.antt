-- How a sheet is made of a loading.
use Rattle.std.specs.Prelude.{◌≡◌, ℕ, ◌<◌, List, length, map, slice_index}
use Rattle.ltm_flows.specs.Counts.{Counts}
use Rattle.ltm_flows.specs.Setting.{Setting}
use Rattle.ltm_flows.specs.Totals.{entered_link, left_link}
use Rattle.ltm_flows.specs.declared.loading.Loading.{Loading}
use Rattle.ltm_flows.specs.Shown.{ShowsCounts}
use Rattle.ltm_board.specs.declared.through.Through.{Through}

-- the first links of a loading, with what has entered and left each, whatever setting it is the loading of
pub record AreThrough (loading : Loading) (links : ℕ) (through : List Through) : Type 0 where
  pub links_are : length through ≡ links
  pub entered : (s : Setting) (version : ℕ) (c : Counts) (link : ℕ) → ShowsCounts s version c loading → link < links →
      slice_index (map (λ t. t.entered.0) through) link ≡ entered_link s c link s.slots
  pub left : (s : Setting) (version : ℕ) (c : Counts) (link : ℕ) → ShowsCounts s version c loading → link < links →
      slice_index (map (λ t. t.left.0) through) link ≡ left_link s c link s.slots
